use Rattle.store_trials.specs.Sole.{IsSole}
use Rattle.bench_store.proofs.work.passes.Given as goal

abbrev pub invariant-pass : goal.invariant-pass
invariant-pass g l = IsSole (g.S.RowStore.view l.store) l.t.0

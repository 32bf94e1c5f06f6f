use Rattle.store_trials.specs.Sole.{IsSole}
use Rattle.bench_store.proofs.work.set.Given as goal

abbrev pub invariant-set : goal.invariant-set
invariant-set g l = IsSole (g.S.RowStore.view l.store) l.t.0

use Rattle.store_trials.specs.Sole.{IsSole}
use Rattle.bench_store.proofs.work.put.Given as goal

abbrev pub invariant-put : goal.invariant-put
invariant-put g l = IsSole (g.S.RowStore.view l.store) l.t.0

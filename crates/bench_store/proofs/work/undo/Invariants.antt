use Rattle.store_trials.specs.Sole.{IsSole}
use Rattle.bench_store.proofs.work.undo.Given as goal

abbrev pub invariant-undo : goal.invariant-undo
invariant-undo g l = IsSole (g.S.RowStore.view l.store) l.t.0

use Rattle.store_trials.specs.Sole.{IsSole}
use Rattle.bench_store.proofs.work.read.Given as goal

abbrev pub invariant-read : goal.invariant-read
invariant-read g l = IsSole (g.S.RowStore.view l.store) l.t.0

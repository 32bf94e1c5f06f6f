use Rattle.store_trials.specs.Sole.{IsSole}
use Rattle.bench_store.proofs.work.scan.Given as goal

abbrev pub invariant-scan : goal.invariant-scan
invariant-scan g l = IsSole (g.S.RowStore.view l.store) l.t.0

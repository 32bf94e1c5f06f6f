use Rattle.store_trials.specs.Sole.{IsSole}
use Rattle.store_trials.proofs.SoleLemmas.{turns_left}
use Rattle.store_trials.proofs.again.try_make.Given as goal

abbrev pub invariant-make : goal.invariant-make
invariant-make g l = IsSole (g.S.RowStore.view l.store) l.t.0

abbrev pub decreases-make : goal.decreases-make
decreases-make g l = turns_left (g.S.RowStore.view l.store) g.S.RowStore.most_pages

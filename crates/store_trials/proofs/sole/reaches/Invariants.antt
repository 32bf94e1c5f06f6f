use Rattle.store_trials.specs.Sole.{IsSole}
use Rattle.store_trials.proofs.SoleLemmas.{turns_left}
use Rattle.store_trials.proofs.sole.reaches.Given as goal

abbrev pub invariant-search : goal.invariant-search
invariant-search g l = IsSole (g.S.RowStore.view l.store) l.fn.t.0

abbrev pub decreases-search : goal.decreases-search
decreases-search g l = turns_left (g.S.RowStore.view l.store) g.S.RowStore.most_pages

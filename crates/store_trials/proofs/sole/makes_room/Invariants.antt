use Rattle.store_trials.specs.Sole.{IsSole}
use Rattle.store_trials.proofs.SoleLemmas.{turns_left}
use Rattle.store_trials.proofs.sole.makes_room.Given as goal

abbrev pub invariant-room : goal.invariant-room
invariant-room g l = IsSole (g.S.RowStore.view l.store) l.t.0

abbrev pub decreases-room : goal.decreases-room
decreases-room g l = turns_left (g.S.RowStore.view l.store) g.S.RowStore.most_pages

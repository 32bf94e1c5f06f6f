use Rattle.std.proofs.Common.{◌≤◌, length}
use Rattle.store_api.specs.View.{changes_in}
use Rattle.store_trials.specs.Sole.{IsSole}
use Rattle.store_trials.proofs.SoleLemmas.{turns_left}
use Rattle.store_trials.proofs.sole.undoes.Given as goal

abbrev pub invariant-undo : goal.invariant-undo
invariant-undo g l = IsSole (g.S.RowStore.view l.store) l.t.0 × (l.down_to ≤ length (changes_in ((g.S.RowStore.view l.store).content.changes l.t.0)))

abbrev pub decreases-undo : goal.decreases-undo
decreases-undo g l = turns_left (g.S.RowStore.view l.store) g.S.RowStore.most_pages

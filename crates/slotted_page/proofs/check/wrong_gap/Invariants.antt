use Rattle.slotted_page.specs.Format.{AreRightBelow, own_id}
use Rattle.slotted_page.proofs.check.wrong_gap.Given as goal

abbrev pub invariant-loop-p : goal.invariant-loop-p
invariant-loop-p l = AreRightBelow (own_id l.b) l.b l.p

use Rattle.std.proofs.Common.{◌-◌}
use Rattle.slotted_page.specs.Format.{AreRightBelow, end_at, own_id}
use Rattle.slotted_page.proofs.check.wrong_flags.Given as goal

abbrev pub invariant-loop-k : goal.invariant-loop-k
invariant-loop-k l = AreRightBelow (own_id l.b) l.b (end_at l.b (l.count - l.k))

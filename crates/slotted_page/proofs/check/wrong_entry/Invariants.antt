use Rattle.std.proofs.Common.{◌≡◌, ◌+◌, ◌*◌}
use Rattle.slotted_page.specs.Format.{AreRightBelow, end_at, own_id}
use Rattle.slotted_page.proofs.check.wrong_entry.Given as goal

abbrev pub invariant-loop-i : goal.invariant-loop-i
invariant-loop-i l = record {
  place : l.end ≡ end_at l.b l.i;
  right : AreRightBelow (own_id l.b) l.b (32 + 4 * l.i);
}

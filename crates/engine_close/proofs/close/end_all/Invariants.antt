use Rattle.std.proofs.Common.{◌≡◌, ◌≤◌}
use Rattle.engine_close.specs.Closing.{Closing, Ends}
use Rattle.engine_close.proofs.close.end_all.Given as goal

abbrev pub invariant-loop-c : goal.invariant-loop-c
invariant-loop-c g l = record {
  most : l.c ≤ l.c-end;
  same : l.parts.sessions ≡ l.fn.parts.sessions;
  closing : Closing l.parts.entries l.parts.events l.parts.sessions.items (g.S.RowStore.view l.parts.store) l.c;
  ends : Ends l.fn.parts.entries.items l.parts.entries.items;
}

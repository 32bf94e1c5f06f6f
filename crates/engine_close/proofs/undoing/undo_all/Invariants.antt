use Rattle.std.proofs.Common.{◌≡◌, ◌+◌, slice_index_or}
use Rattle.session_engine.specs.declared.session.Session.{Session}
use Rattle.engine_close.specs.Closing.{Ends, Undoing, to_do}
use Rattle.engine_close.proofs.undoing.undo_all.Given as goal

abbrev pub invariant-undoes : goal.invariant-undoes
invariant-undoes g l = record {
  undoing : Undoing l.parts.entries l.parts.events l.parts.sessions.items (g.S.RowStore.view l.parts.store) l.c l.left;
  own : (d : Session) → (slice_index_or l.parts.sessions.items l.c d).txn ≡ l.txn;
  ends : Ends l.fn.parts.entries.items l.parts.entries.items;
  same : l.parts.sessions ≡ l.fn.parts.sessions;
  events : l.parts.events ≡ l.fn.parts.events;
}

abbrev pub decreases-undoes : goal.decreases-undoes
decreases-undoes g l = to_do (g.S.RowStore.view l.parts.store) l.txn.0 (l.c + 1)

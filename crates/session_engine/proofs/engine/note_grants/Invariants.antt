use Rattle.std.proofs.Common.{◌≡◌, ◌+◌, ◌≤◌, ◌++◌, length, vec_len, vec_capacity}
use Rattle.lock_manager.specs.Table.{lock, woken_of}
use Rattle.session_engine.specs.Noted.{noted}
use Rattle.session_engine.proofs.engine.note_grants.Given as goal

abbrev pub invariant-gives : goal.invariant-gives
invariant-gives l = record {
  events : l.fn.events.items ++ noted l.place (woken_of l.fn.locks) ≡ l.events.items ++ noted l.place (woken_of l.locks);
  len : vec_len l.events + length (woken_of l.locks) ≡ vec_len l.fn.events + length (woken_of l.fn.locks);
  capacity : vec_capacity l.fn.events ≤ vec_capacity l.events;
  same : lock l.locks ≡ lock l.fn.locks;
}

abbrev pub decreases-gives : goal.decreases-gives
decreases-gives l = length (woken_of l.locks)

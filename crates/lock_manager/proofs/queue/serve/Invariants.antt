use Rattle.std.proofs.Common.{◌≡◌, ◌≤◌, ◌+◌, ◌-◌}
use Rattle.std.specs.Vec.{vec_len}
use Rattle.std.specs.VecDeque.{deque_len, deque_capacity}
use Rattle.lock_manager.specs.Freed.{frees}
use Rattle.lock_manager.specs.Room.{LineFits}
use Rattle.lock_manager.specs.Serve.{Serving}
use Rattle.lock_manager.proofs.queue.serve.Given as goal

abbrev pub invariant-each : goal.invariant-each
invariant-each l = record {
  serving : Serving (frees l.freed) l.initial.ledger.owners.entries l.ledger.owners.entries l.before.line.items l.initial.line.line.items l.line.line.items l.i l.initial.woken.items l.woken.items;
  sum : deque_len l.woken + vec_len l.line.line ≡ deque_len l.initial.woken + vec_len l.initial.line.line;
  room : deque_capacity l.woken ≡ deque_capacity l.initial.woken;
  fits : LineFits l.initial.line l.line;
  within : l.i ≤ vec_len l.line.line;
}

abbrev pub decreases-each : goal.decreases-each
decreases-each l = vec_len l.line.line - l.i

use Rattle.std.proofs.Common.{◌≡◌, ◌≤◌, ◌-◌, ◌++◌, take, drop}
use Rattle.std.specs.Vec.{vec_len}
use Rattle.lock_modes.specs.Lock.{without}
use Rattle.lock_manager.specs.Room.{LineFits}
use Rattle.lock_manager.proofs.queue.drop_requests.Given as goal

abbrev pub invariant-each : goal.invariant-each
invariant-each l = record {
  within : l.i ≤ vec_len l.line.line;
  rest : without l.t l.initial.line.line.items ≡ take l.i l.line.line.items ++ without l.t (drop l.i l.line.line.items);
  fits : LineFits l.initial.line l.line;
}

abbrev pub decreases-each : goal.decreases-each
decreases-each l = vec_len l.line.line - l.i

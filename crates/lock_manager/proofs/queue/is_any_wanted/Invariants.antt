use Rattle.std.proofs.Common.{◌≡◌, ◌++◌}
use Rattle.lock_manager.specs.Asked.{asks_for_any}
use Rattle.lock_manager.proofs.queue.is_any_wanted.Given as goal

abbrev pub invariant-loop-name : goal.invariant-loop-name
invariant-loop-name l = asks_for_any (l.conversions.line.items ++ l.requests.line.items) l.names.entries ≡ asks_for_any (l.conversions.line.items ++ l.requests.line.items) l.name-iterator

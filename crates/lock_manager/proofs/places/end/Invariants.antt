use Rattle.std.proofs.Common.{◌≡◌, ◌≤◌, ◌<◌, ◌-◌, ℕ, true}
use Rattle.lock_manager.specs.Places.{is_taken}
use Rattle.lock_manager.proofs.places.end.Given as goal

abbrev pub invariant-each : goal.invariant-each
invariant-each l = record {
  within : l.i ≤ l.len;
  above : l.from ≤ l.i;
  taken : (k : ℕ) → k < l.i → is_taken l.places l.name k ≡ true;
}

abbrev pub decreases-each : goal.decreases-each
decreases-each l = l.len - l.i

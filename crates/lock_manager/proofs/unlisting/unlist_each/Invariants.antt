use Rattle.std.proofs.Common.{◌≤◌, true}
use Rattle.std.specs.HashMap.{spare}
use Rattle.lock_manager.specs.Places.{IsPacked, Unlists}
use Rattle.lock_manager.proofs.unlisting.unlist_each.Given as goal

abbrev pub invariant-loop-name : goal.invariant-loop-name
invariant-loop-name l = record {
  packed : IsPacked l.places;
  kept : Unlists l.initial.places l.places (λ k. true) l.txn;
  room : spare l.initial.places ≤ spare l.places;
}

use Rattle.std.proofs.Common.{ap, sym, ◌∙◌, arith}
use Rattle.std.specs.Option.{is_some}
use Rattle.std.specs.Map.{lookup}
use Rattle.lock_modes.specs.Modes.{is_held}
use Rattle.lock_modes.proofs.ModesLemmas.{held_none}
use Rattle.lock_manager.specs.Owners.{grants_in, claims_sum}
use Rattle.lock_manager.specs.Places.{same_place, place}
use Rattle.lock_manager.proofs.ledger.Ledger.new.Goals as goal

pub invariant_of-result : goal.invariant_of-result
invariant_of-result c = record {
  packed = λ n i j less free. ap (λ es. is_some (lookup (same_place (place n j)) es)) c.new-2.ensures.empty;
  listed = λ n t none. ap (λ es. is_held (grants_in es t n)) c.new.ensures.empty ∙ held_none;
  total = sym (ap claims_sum c.new.ensures.empty);
  room = omega arith;
}

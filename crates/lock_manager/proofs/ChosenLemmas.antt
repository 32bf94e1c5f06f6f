-- A transaction that is chosen as a victim, or that the table doesn't know.
use Rattle.std.proofs.Common.{◌≡◌, true, false, refl, sym, ◌∙◌, ap, ◌⊎◌, inl, inr, Option, Some, None}
use Rattle.std.specs.Prelude.{◌||◌}
use Rattle.std.specs.Option.{is_some}
use Rattle.dby_types.specs.declared.number.TxnNo.{TxnNo}
use Rattle.lock_modes.specs.declared.name.LockName.{LockName}
use Rattle.lock_modes.specs.Names.{same_txn}
use Rattle.lock_modes.specs.Modes.{is_held}
use Rattle.lock_modes.proofs.NamesLemmas.{txn_refl}
use Rattle.lock_manager.specs.declared.owner.Owner.{Owner}
use Rattle.lock_manager.specs.Owners.{Owners, owner_of, grants_in, modes_of, left_in, left_of, victim_in, victim_of, waits_in, waits_of, Changes}
use Rattle.lock_modes.proofs.ModesLemmas.{held_none}
use Rattle.lock_manager.proofs.ServeLemmas.{everywhere}
use Rattle.lock_manager.proofs.TableLemmas.{keep_victims}

-- a transaction with a record is a victim more, and nothing changes for one without
pub chosen : (os os' : Owners) (t : TxnNo) → Changes os os' t (grants_in os) → victim_in os' t ≡ is_some (owner_of os t)
    → (victim_in os' ≡ (λ u. same_txn t u || victim_in os u)) ⊎ ((victim_in os' ≡ victim_in os) × (owner_of os t ≡ None))
chosen os os' t c mine =
    let cases = λ (o : Option Owner) (q : owner_of os t ≡ o).
    (elim o as (λ x. owner_of os t ≡ x → (victim_in os' ≡ (λ u. same_txn t u || victim_in os u)) ⊎ ((victim_in os' ≡ victim_in os) × (owner_of os t ≡ None))) [
      | Some w ↦ λ s. inl (λ i u. noted (ap is_some s) u i)
      | None ↦ λ s. inr (keep_victims os os' t (grants_in os) c (mine ∙ ap is_some s ∙ sym (ap victim_of s)), s)
    ]) q in
    cases (owner_of os t) refl
  where
    noted : is_some (owner_of os t) ≡ true → (u : TxnNo) → victim_in os' u ≡ (same_txn t u || victim_in os u)
    noted known = everywhere (victim_in os') (λ u. same_txn t u || victim_in os u) t
        (mine ∙ known ∙ sym (ap (λ b. b || victim_in os t) (txn_refl t)))
        (λ u other. c.others_victims u other ∙ sym (ap (λ b. b || victim_in os u) other))

-- who has no record has nothing, may ask for nothing, and waits for nothing
pub nothing_held : (os : Owners) (t : TxnNo) → owner_of os t ≡ None → (n : LockName) → is_held (grants_in os t n) ≡ false
nothing_held os t none n = ap (λ (o : Option Owner). is_held (modes_of o n)) none ∙ held_none

pub nothing_left : (os : Owners) (t : TxnNo) → owner_of os t ≡ None → left_in os t ≡ 0
nothing_left os t none = ap left_of none

pub not_waiting : (os : Owners) (t : TxnNo) → owner_of os t ≡ None → waits_in os t ≡ false
not_waiting os t none = ap waits_of none

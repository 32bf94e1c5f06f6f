-- Names and transactions that are the same are equal.
use Rattle.std.proofs.Common.{◌≡◌, true, refl, ap, ◌∙◌}
use Rattle.std.proofs.lemmas.Bool.{both_ways, and_parts, and_from, eqb-true, eq-eqb}
use Rattle.std.specs.Cmp.{IsEquivalence, nat_eq_equiv}
use Rattle.dby_types.specs.declared.number.TxnNo.{TxnNo}
use Rattle.lock_modes.specs.declared.name.LockName.{LockName}
use Rattle.lock_modes.specs.declared.name.LockName.TheVariants.{Dictionary, Table, Row, First}
use Rattle.lock_modes.specs.Names.{same_name, same_txn}

pub txn_refl : (a : TxnNo) → same_txn a a ≡ true
txn_refl a = eq-eqb a.0 a.0 refl

pub txn_eq : (a b : TxnNo) → same_txn a b ≡ true → a ≡ b
txn_eq a b h = let e : a.0 ≡ b.0 = eqb-true a.0 b.0 h in λ i. record { 0 = e i }

pub name_refl : (a : LockName) → same_name a a ≡ true
name_refl Dictionary = refl
name_refl (Table a) = eq-eqb a a refl
name_refl (Row a r) = and_from _ _ (eq-eqb a a refl) (and_from _ _ (eq-eqb r.page r.page refl) (eq-eqb r.slot r.slot refl))
name_refl (First a i) = and_from _ _ (eq-eqb a a refl) (eq-eqb i i refl)

-- names that are the same are equal
pub name_eq : (a b : LockName) → same_name a b ≡ true → a ≡ b
name_eq Dictionary Dictionary h = refl
name_eq Dictionary (Table a) h = absurd (both_ways _ refl h)
name_eq Dictionary (Row a r) h = absurd (both_ways _ refl h)
name_eq Dictionary (First a i) h = absurd (both_ways _ refl h)
name_eq (Table b) Dictionary h = absurd (both_ways _ refl h)
name_eq (Table b) (Table a) h = ap Table (eqb-true b a h)
name_eq (Table b) (Row a r) h = absurd (both_ways _ refl h)
name_eq (Table b) (First a i) h = absurd (both_ways _ refl h)
name_eq (Row b s) Dictionary h = absurd (both_ways _ refl h)
name_eq (Row b s) (Table a) h = absurd (both_ways _ refl h)
name_eq (Row b s) (Row a r) h =
    let p = and_parts _ _ h in
    let q = and_parts _ _ p.1 in
    let page : s.page ≡ r.page = eqb-true _ _ q.0 in
    let slot : s.slot ≡ r.slot = eqb-true _ _ q.1 in
    let rid : s ≡ r = λ i. record { page = page i; slot = slot i } in
    ap (λ x. Row x s) (eqb-true b a p.0) ∙ ap (λ x. Row a x) rid
name_eq (Row b s) (First a i) h = absurd (both_ways _ refl h)
name_eq (First b j) Dictionary h = absurd (both_ways _ refl h)
name_eq (First b j) (Table a) h = absurd (both_ways _ refl h)
name_eq (First b j) (Row a r) h = absurd (both_ways _ refl h)
name_eq (First b j) (First a i) h = let p = and_parts _ _ h in ap (λ x. First x j) (eqb-true b a p.0) ∙ ap (λ x. First a x) (eqb-true j i p.1)

pub txn_equiv : IsEquivalence same_txn
txn_equiv = record {
  refl = txn_refl;
  symm = λ x y. nat_eq_equiv.symm x.0 y.0;
  congr = λ x y z h. nat_eq_equiv.congr x.0 y.0 z.0 h;
}

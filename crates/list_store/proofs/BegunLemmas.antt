-- The open transactions as a function from numbers to changes.
use Rattle.std.proofs.Common.{◌≡◌, ◌≢◌, ℕ, List, [], ◌∷◌, ◌++◌, cond, Option, Some, Bool, true, false, ◌==◌, refl, sym, ◌∙◌, ap, subst, arith, inl, inr, reverse, ◌⊎◌}
use Rattle.std.specs.Prelude.{Result, Ok, Err, OnErr}
use Rattle.std.specs.Map.{lookup}
use Rattle.std.proofs.lemmas.List.{reverse-append}
use Rattle.std.proofs.lemmas.Bool.Decides.{nat_tests}
use Rattle.std.proofs.lemmas.Bool.{cases_eq}
use Rattle.dby_types.specs.declared.number.TxnNo.{TxnNo}
use Rattle.list_store.specs.declared.begun.Open.{Open}
use Rattle.list_store.specs.Begun.{begun_in, newest_first, changes_of, Becomes, Pushes, Pops, IsSame}
use Rattle.store_api.specs.declared.slot.Item.{Item}
use Rattle.store_api.specs.View.{at_number, changes_in}

-- what holds anyway holds after an answer Err
pub on_err : {T E P : Type 0} (r : Result T E) → P → OnErr r P
on_err (Ok x) p = tt
on_err (Err e) p = p

-- a test either way round
pub turned : {X : Type 0} (t u : ℕ) (x y : X) → cond (t == u) x y ≡ cond (u == t) x y
turned t u x y = elim (cases_eq t u) [
  | inl e ↦ subst (λ v. cond (t == v) x y ≡ cond (v == t) x y) e refl
  | inr ne ↦ ap (λ b. cond b x y) (off t u ne ∙ sym (off u t (λ e. ne (sym e))))
]
  where
    off : (a b : ℕ) → a ≢ b → (a == b) ≡ false
    off a b ne = grind (arith, nat_tests)

-- what another record under a number makes of the changes
pub becomes : (old new : List (TxnNo × Open)) (t : TxnNo) (w : Option Open)
    → ((q : TxnNo) → lookup (λ v. q.0 == v.0) new ≡ cond (t.0 == q.0) w (lookup (λ v. q.0 == v.0) old))
    → Becomes old new t.0 (newest_first w)
becomes old new t w put u =
    ap newest_first (put (record { 0 = u }) ∙ turned t.0 u w (begun_in old u)) ∙ through (u == t.0)
  where
    through : (b : Bool) → newest_first (cond b w (begun_in old u)) ≡ cond b (newest_first w) (changes_of old u)
    through true = refl
    through false = refl

-- what a record with one more item makes of the changes
pub pushed : (old new : List (TxnNo × Open)) (t : TxnNo) (o o' : Open) (item : Item)
    → ((q : TxnNo) → lookup (λ v. q.0 == v.0) new ≡ cond (t.0 == q.0) (Some o') (lookup (λ v. q.0 == v.0) old))
    → begun_in old t.0 ≡ Some o → o'.items.items ≡ o.items.items ++ item ∷ [] → Pushes old new t.0 item
pushed old new t o o' item put was more u =
    becomes old new t (Some o') put u ∙ ap (λ x. at_number (changes_of old) t.0 x u)
    (ap (λ xs. Some (reverse xs)) more ∙ ap Some (reverse-append o.items.items (item ∷ [])) ∙ ap (λ x. Some (item ∷ changes_in (newest_first x))) (sym was))

-- with the newest item taken away
pub popped : (old new : List (TxnNo × Open)) (t : TxnNo) (o o' : Open) (item : Item)
    → ((q : TxnNo) → lookup (λ v. q.0 == v.0) new ≡ cond (t.0 == q.0) (Some o') (lookup (λ v. q.0 == v.0) old))
    → begun_in old t.0 ≡ Some o → o.items.items ≡ o'.items.items ++ item ∷ [] → Pops old new t.0 item
popped old new t o o' item put was fewer = record {
  rest = reverse o'.items.items;
  was = ap newest_first was ∙ ap (λ xs. Some (reverse xs)) fewer ∙ ap Some (reverse-append o'.items.items (item ∷ []));
  is = becomes old new t (Some o') put;
}

-- and with the same items
pub same_items : (old new : List (TxnNo × Open)) (t : TxnNo) (o o' : Open)
    → ((q : TxnNo) → lookup (λ v. q.0 == v.0) new ≡ cond (t.0 == q.0) (Some o') (lookup (λ v. q.0 == v.0) old))
    → begun_in old t.0 ≡ Some o → o'.items.items ≡ o.items.items → IsSame old new
same_items old new t o o' put was same u =
    becomes old new t (Some o') put u ∙ ap (λ x. at_number (changes_of old) t.0 x u) (ap (λ xs. Some (reverse xs)) same ∙ sym (ap newest_first was))
    ∙ here (cases_eq u t.0)
  where
    here : (u ≡ t.0) ⊎ (u ≢ t.0) → at_number (changes_of old) t.0 (changes_of old t.0) u ≡ changes_of old u
    here (inl e) = subst (λ v. at_number (changes_of old) t.0 (changes_of old t.0) v ≡ changes_of old v) (sym e) (on t.0)
      where
        on : (n : ℕ) → at_number (changes_of old) n (changes_of old n) n ≡ changes_of old n
        on n = grind (arith, nat_tests)
    here (inr ne) = off (changes_of old) t.0 (changes_of old t.0) u ne
      where
        off : {X : Type 0} (f : ℕ → X) (n : ℕ) (x : X) (m : ℕ) → m ≢ n → at_number f n x m ≡ f m
        off f n x m ne = grind (arith, nat_tests)

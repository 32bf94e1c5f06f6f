-- Giving names back, one by one.
use Rattle.std.proofs.Common.{◌≡◌, ℕ, Bool, true, false, refl, sym, ◌∙◌, ap, cond, List, [], ◌∷◌}
use Rattle.std.specs.Prelude.{◌&&◌, ◌||◌}
use Rattle.std.specs.List.{list_any}
use Rattle.std.proofs.lemmas.Bool.{both_ways}
use Rattle.dby_types.specs.declared.number.TxnNo.{TxnNo}
use Rattle.lock_modes.specs.declared.modes.Modes.{Modes}
use Rattle.lock_modes.specs.declared.name.LockName.{LockName}
use Rattle.lock_modes.specs.Modes.{no_modes, is_held}
use Rattle.lock_modes.specs.Names.{same_txn, same_name, is_row_name}
use Rattle.lock_modes.specs.Lock.{Lock, Grants, released, apply_all, has_grant}
use Rattle.lock_modes.specs.Escalation.{released_rows, IsAllRows, releases}
use Rattle.lock_modes.specs.Apart.{IsApart}
use Rattle.lock_modes.proofs.ApartLemmas.{apart_less, less_cond}
use Rattle.lock_modes.proofs.NamesLemmas.{txn_eq, name_eq, name_refl}
use Rattle.lock_modes.proofs.TablesLemmas.{not_held}

-- nothing any more on the names of a list
abbrev pub released_each : Grants → TxnNo → List LockName → Grants
released_each g t [] = g
released_each g t (n ∷ ns) = released_each (released g t n) t ns

after_releases : (l : Lock) (t : TxnNo) (names : List LockName) → apply_all l (releases t names) ≡ record l { grants = released_each l.grants t names }
after_releases l t [] = refl
after_releases l t (n ∷ ns) = after_releases (record l { grants = released l.grants t n }) t ns

both_none : (a : Bool) → cond a no_modes no_modes ≡ no_modes
both_none true = refl
both_none false = refl

-- what is left where names were given back
each_is : (g : Grants) (t u : TxnNo) (n : LockName) (names : List LockName) → released_each g t names u n ≡ cond (same_txn t u && list_any (same_name n) names) no_modes (g u n)
each_is g t u n [] = sym (ap (λ b. cond b no_modes (g u n)) (and_no (same_txn t u)))
  where
    and_no : (b : Bool) → (b && false) ≡ false
    and_no true = refl
    and_no false = refl
each_is g t u n (k ∷ ns) =
    each_is (released g t k) t u n ns ∙ one (same_txn t u) (same_name k n) (same_name n k) (list_any (same_name n) ns) (flip k n)
  where
    one : (a b b' c : Bool) → b ≡ b' → cond (a && c) no_modes (cond (a && b) no_modes (g u n)) ≡ cond (a && (b' || c)) no_modes (g u n)
    one true true true c e = both_none c
    one true false false c e = refl
    one false b b' c e = refl
    one true true false c e = absurd (both_ways _ refl (sym e))
    one true false true c e = absurd (both_ways _ refl e)

    flip : (a b : LockName) → same_name a b ≡ same_name b a
    flip a b = equal (same_name a b) refl (same_name b a) refl
      where
        equal : (x : Bool) → same_name a b ≡ x → (y : Bool) → same_name b a ≡ y → same_name a b ≡ same_name b a
        equal true p true q = p ∙ sym q
        equal false p false q = p ∙ sym q
        equal true p false q = absurd (both_ways _ q (ap (λ z. same_name b z) (name_eq a b p) ∙ name_refl b))
        equal false p true q = absurd (both_ways _ p (ap (λ z. same_name a z) (name_eq b a q) ∙ name_refl a))

-- giving all rows back, in any order, leaves none of them
pub rows_given_back : (l : Lock) (t : TxnNo) (table : ℕ) (names : List LockName) → IsAllRows l t table names → apply_all l (releases t names) ≡ record l { grants = released_rows l.grants t table }
rows_given_back l t table names all = after_releases l t names ∙ (λ i. record l { grants = λ u n. same u n i })
  where
    at_row : (ms : Modes) (row : Bool) → cond (row && is_held ms) no_modes ms ≡ cond row no_modes ms
    at_row ms true = held (is_held ms) refl
      where
        held : (b : Bool) → is_held ms ≡ b → cond (is_held ms) no_modes ms ≡ no_modes
        held true e = ap (λ b. cond b no_modes ms) e
        held false e = ap (λ b. cond b no_modes ms) e ∙ not_held ms e
    at_row ms false = refl

    by_txn : (u : TxnNo) (n : LockName) (b : Bool) → same_txn t u ≡ b → cond (b && (is_row_name table n && has_grant l.grants t n)) no_modes (l.grants u n) ≡ cond (b && is_row_name table n) no_modes (l.grants u n)
    by_txn u n true e = ap (λ z. cond (is_row_name table n && is_held (l.grants z n)) no_modes (l.grants u n)) (txn_eq t u e) ∙ at_row (l.grants u n) (is_row_name table n)
    by_txn u n false e = refl

    same : (u : TxnNo) (n : LockName) → released_each l.grants t names u n ≡ released_rows l.grants t table u n
    same u n = each_is l.grants t u n names ∙ ap (λ b. cond (same_txn t u && b) no_modes (l.grants u n)) (all n) ∙ by_txn u n (same_txn t u) refl

pub apart_released_rows : (g : Grants) (t : TxnNo) (table : ℕ) → IsApart g → IsApart (released_rows g t table)
apart_released_rows g t table apart = apart_less g (released_rows g t table) (λ u n a h. less_cond (same_txn t u && is_row_name table n) (g u n) a h) apart

-- Names lent, and columns made, one behind the other.
use Rattle.std.proofs.Common.{◌≡◌, ℕ, ◌+◌, ◌<◌, List, [], ◌∷◌, ◌++◌, length, drop, get_or, refl, sym, ap, ◌∙◌, append_assoc}
use Rattle.std.specs.Borrow.{Bor}
use Rattle.change_binder.proofs.Chains.{next_item}
use Rattle.name_binder.specs.Lent.{texts}

texts_both : (xs : List (Bor (List ℕ))) (t : Bor (List ℕ)) (rest : List (List ℕ)) → texts (xs ++ t ∷ []) ++ rest ≡ texts xs ++ t.now ∷ rest
texts_both [] t rest = refl
texts_both (x ∷ xs) t rest = ap (λ (l : List (List ℕ)). x.now ∷ l) (texts_both xs t rest)

-- one name more, where the list's names are this function's
pub name_more : {X : Type 0} (names_of : List X → List (List ℕ)) (items : List X) (i : ℕ) (x : X) (name : Bor (List ℕ)) (xs ys : List (Bor (List ℕ))) (own : List ℕ) (all : List (List ℕ)) → i < length items → x ≡ get_or items i x
    → name.now ≡ own → ((rest : List X) → names_of (x ∷ rest) ≡ own ∷ names_of rest) → ys ≡ xs ++ name ∷ [] → texts xs ++ names_of (drop i items) ≡ all → texts ys ++ names_of (drop (i + 1) items) ≡ all
name_more names_of items i x name xs ys own all h is same split more so =
    ap (λ (zs : List (Bor (List ℕ))). texts zs ++ names_of (drop (i + 1) items)) more
    ∙ texts_both xs name (names_of (drop (i + 1) items))
    ∙ ap (λ (n : List ℕ). texts xs ++ n ∷ names_of (drop (i + 1) items)) same
    ∙ ap (λ (l : List (List ℕ)). texts xs ++ l) (sym (split (drop (i + 1) items)))
    ∙ ap (λ (l : List _). texts xs ++ names_of l) (sym (next_item items i x h is)) ∙ so

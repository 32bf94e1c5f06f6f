-- Numbers below n, each once, are at most n; one more of them is taken back.
use Rattle.std.proofs.Common.{◌≡◌, ◌≢◌, ◌+◌, ◌≤◌, ◌<◌, ℕ, suc, ◌||◌, Bool, true, false, eqb, List, [], ◌∷◌, ◌++◌, length, take, set, get_or, slice_index, sym, ap, subst, ◌∙◌, ◌⊎◌, inl, inr, ⊎_elim, arith}
use Rattle.std.proofs.lemmas.List.{get_or_default, get_or_append_left, get_or_push, length_push, take_more_set, length-take-le}
use Rattle.std.specs.List.{list_any}
use Rattle.std.proofs.lemmas.Bool.{cases_lt}
use Rattle.std.proofs.lemmas.Bool.Decides.{eqb_tells}
use Rattle.std.proofs.lemmas.Map.Keys.{IsDistinct-from_apart}
use Rattle.std.proofs.lemmas.Map.Steps.{length-le_from_distinct_below}
use Rattle.frame_pool.specs.Frames.{Frames, AreFree, IsLent}

not_equal : (a b : ℕ) → a ≢ b → eqb a b ≡ false
not_equal a b h = ⊎_elim (λ t. absurd (h t.1)) (λ f. f.0) (eqb_tells a b)

equal : (a b : ℕ) → eqb a b ≡ true → a ≡ b
equal a b h = ⊎_elim (λ t. t.1) (λ f. absurd (false_true (sym f.0 ∙ h))) (eqb_tells a b)
  where
    false_true : false ≡ true → ⊥
    false_true e = cc

-- what a list has is below what its items are below
any_below : (q n : ℕ) (xs : List ℕ) → ((k : ℕ) → k < length xs → slice_index xs k < n) → list_any (eqb q) xs ≡ true → q < n
any_below q n [] h e = absurd (false_true e)
  where
    false_true : false ≡ true → ⊥
    false_true e = cc
any_below q n (x ∷ xs) h e =
    ⊎_elim
    (λ t. subst (λ (m : ℕ). m < n) (sym t.1) (h 0 (omega arith)))
    (λ f. any_below q n xs (λ k l. h (suc k) (omega arith)) (sym (ap (λ (b : Bool). b || list_any (eqb q) xs) f.0) ∙ e))
    (eqb_tells q x)

-- there are no more of them than numbers
pub length-AreFree : (n : ℕ) (free : List ℕ) → AreFree n free → length free ≤ n
length-AreFree n free h =
    length-le_from_distinct_below free n
    (IsDistinct-from_apart eqb free
    (λ i j d lt inside.
    not_equal (get_or free i d) (get_or free j d)
    (λ e. h.distinct i j lt inside (get_or_default free i 0 d (omega arith) ∙ e ∙ sym (get_or_default free j 0 d inside)))))
    (λ q found. any_below q n free h.below found)

-- one more of them
pub AreFree-push : (n : ℕ) (free : List ℕ) (f : ℕ) → AreFree n free → f < n → ((k : ℕ) → k < length free → slice_index free k ≢ f) → AreFree n (free ++ f ∷ [])
AreFree-push n free f h small taken =
    record {
      below = λ k l. below k l (at_place k l);
      distinct = λ i j lt l. distinct i j lt l (at_place i (omega arith)) (at_place j l);
    }
  where
    at_place : (k : ℕ) → k < length (free ++ f ∷ []) → ((k < length free) × (slice_index (free ++ f ∷ []) k ≡ slice_index free k)) ⊎ ((k ≡ length free) × (slice_index (free ++ f ∷ []) k ≡ f))
    at_place k l =
        ⊎_elim
        (λ a. inl (a, get_or_append_left free (f ∷ []) 0 k a))
        (λ b. let e : k ≡ length free = omega (arith, length_push free f) in inr (e, get_or_push free f 0 k (sym e)))
        (cases_lt k (length free))

    below : (k : ℕ) → k < length (free ++ f ∷ []) → ((k < length free) × (slice_index (free ++ f ∷ []) k ≡ slice_index free k)) ⊎ ((k ≡ length free) × (slice_index (free ++ f ∷ []) k ≡ f)) → slice_index (free ++ f ∷ []) k < n
    below k l (inl a) = subst (λ (m : ℕ). m < n) (sym a.1) (h.below k a.0)
    below k l (inr a) = subst (λ (m : ℕ). m < n) (sym a.1) small

    distinct : (i j : ℕ) → i < j → j < length (free ++ f ∷ []) → ((i < length free) × (slice_index (free ++ f ∷ []) i ≡ slice_index free i)) ⊎ ((i ≡ length free) × (slice_index (free ++ f ∷ []) i ≡ f)) → ((j < length free) × (slice_index (free ++ f ∷ []) j ≡ slice_index free j)) ⊎ ((j ≡ length free) × (slice_index (free ++ f ∷ []) j ≡ f)) → slice_index (free ++ f ∷ []) i ≢ slice_index (free ++ f ∷ []) j
    distinct i j lt l (inl a) (inl b) e = h.distinct i j lt b.0 (sym a.1 ∙ e ∙ b.1)
    distinct i j lt l (inl a) (inr b) e = taken i a.0 (sym a.1 ∙ e ∙ b.1)
    distinct i j lt l (inr a) b e = omega (arith, length_push free f)

-- a frame that is lent leaves a place among the numbers
pub room_to_give : (n : ℕ) (free : List ℕ) (f : ℕ) → AreFree n free → f < n → ((k : ℕ) → k < length free → slice_index free k ≢ f) → length free < n
room_to_give n free f h small taken =
    let e = length-AreFree n (free ++ f ∷ []) (AreFree-push n free f h small taken) in
    omega (arith, e, length_push free f)

-- the numbers after one was put behind those that are free
pub put_back : (numbers : List ℕ) (count f : ℕ) → count < length numbers → take (count + 1) (set numbers count f) ≡ take count numbers ++ f ∷ []
put_back numbers count f h = take_more_set numbers count f h

-- a frame that is lent is lent of the fields
pub record IsLentInside (n : ℕ) (free : List ℕ) (f : ℕ) : Type 0 where
  pub small : f < n
  pub taken : (k : ℕ) → k < length free → slice_index free k ≢ f

pub inside_of : (p : Frames) (contents : List (List ℕ)) (free : List ℕ) (f g : ℕ) → record { contents = contents; free = free } ≡ p → g ≡ f → IsLent p f → IsLentInside (length contents) free g
inside_of p contents free f g e is h =
    let q : IsLent (record { contents = contents; free = free }) f = subst (λ (x : Frames). IsLent x f) (sym e) h in
    subst (λ (x : ℕ). IsLentInside (length contents) free x) (sym is) (record { small = q.inside; taken = q.taken })

-- so there is a place for its number
pub place_to_give : (numbers : List ℕ) (frames count f : ℕ) → length numbers ≡ frames → count ≤ length numbers → AreFree frames (take count numbers) → IsLentInside frames (take count numbers) f → count < length numbers
place_to_give numbers frames count f all some h lent =
    let room = room_to_give frames (take count numbers) f h lent.small lent.taken in
    omega (arith, room, all, length-take-le count numbers some)

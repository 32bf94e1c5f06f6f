-- The weakest of a cycle.
use Rattle.std.proofs.Common.{◌≡◌, ℕ, ◌<◌, ◌≤◌, Bool, true, false, refl, sym, ◌∙◌, ap, cond, List, [], ◌∷◌, length, get_or, subst, arith, ◌⊎◌, inl, inr, suc}
use Rattle.std.specs.Prelude.{◌&&◌, ◌||◌, All, nat_lt, nat_eq}
use Rattle.std.specs.List.{Any}
use Rattle.std.proofs.lemmas.Bool.{both_ways, and_parts, or_cases, ltb-true, ltb-false, eqb-true, eqb-false}
use Rattle.std.proofs.lemmas.List.Elements.{All-nil, All-cons}
use Rattle.lock_modes.specs.declared.cycle.Edge.{Edge}
use Rattle.lock_modes.specs.Waits.{IsBefore, IsVictim}
use Rattle.deadlock_cycle.specs.Choice.{is_weaker, weakest}

before_itself : (e : Edge) → IsBefore e e
before_itself e = inr (refl, omega arith)

-- as numbers
abbrev Before : ℕ → ℕ → ℕ → ℕ → Type 0
Before a x b y = (a < b) ⊎ ((a ≡ b) × (y ≤ x))

before_chain : (a x b y c z : ℕ) → Before a x b y → Before b y c z → Before a x c z
before_chain a x b y c z p q = elim p [
  | inl l ↦ elim q [ inl m ↦ inl (omega (arith, l, m)) | inr m ↦ inl (let e = m.0 in omega (arith, l, e)) ]
  | inr k ↦ elim q [ inl m ↦ inl (let e = k.0 in omega (arith, m, e)) | inr m ↦ inr (let e = k.0 in let f = m.0 in omega (arith, e, f), let g = k.1 in let h = m.1 in omega (arith, g, h)) ]
]

weaker_before : (e f : Edge) → is_weaker e f ≡ true → IsBefore e f
weaker_before e f h = elim (or_cases (nat_lt e.locks f.locks) (nat_eq e.locks f.locks && nat_lt f.waiter.0 e.waiter.0) h) [
  | inl l ↦ inl (ltb-true _ _ l)
  | inr k ↦ (let p = and_parts _ _ k in let less : f.waiter.0 < e.waiter.0 = ltb-true _ _ p.1 in inr (eqb-true _ _ p.0, omega (arith, less)))
]

not_weaker_before : (e f : Edge) → is_weaker e f ≡ false → IsBefore f e
not_weaker_before e f h = cases (nat_lt e.locks f.locks) refl (nat_eq e.locks f.locks) refl (nat_lt f.waiter.0 e.waiter.0) refl h
  where
    cases : (a : Bool) → nat_lt e.locks f.locks ≡ a → (b : Bool) → nat_eq e.locks f.locks ≡ b → (c : Bool) → nat_lt f.waiter.0 e.waiter.0 ≡ c → (a || (b && c)) ≡ false → IsBefore f e
    cases true p b q c r k = absurd (both_ways _ k refl)
    cases false p true q true r k = absurd (both_ways _ k refl)
    cases false p true q false r k = (let same : e.locks ≡ f.locks = eqb-true _ _ q in inr (sym same, ltb-false _ _ r))
    cases false p false q c r k = (let ge : f.locks ≤ e.locks = ltb-false _ _ p in let differ = eqb-false e.locks f.locks q in inl (omega (arith, ge, differ)))

-- the weakest is before all, and is one of them
weakest_is : (best : Edge) (es : List Edge) → IsBefore (weakest best es) best × All (λ f. IsBefore (weakest best es) f) es
weakest_is best [] = (before_itself best, All-nil (λ f. IsBefore best f))
weakest_is best (e ∷ es) =
    let cases = λ (b : Bool) (q : is_weaker e best ≡ b).
    (elim b as (λ x. is_weaker e best ≡ x → IsBefore (weakest (cond x e best) es) best × All (λ f. IsBefore (weakest (cond x e best) es) f) (e ∷ es)) [
      | true ↦ λ s. (let k = weakest_is e es in (before_chain _ _ _ _ _ _ k.0 (weaker_before e best s), All-cons (λ f. IsBefore (weakest e es) f) e es k.0 k.1))
      | false ↦ λ s. (let k = weakest_is best es in (k.0, All-cons (λ f. IsBefore (weakest best es) f) e es (before_chain _ _ _ _ _ _ k.0 (not_weaker_before e best s)) k.1))
    ]) q in
    cases (is_weaker e best) refl

among : (best : Edge) (es : List Edge) → (weakest best es ≡ best) ⊎ Any (λ e. e ≡ weakest best es) es
among best [] = inl refl
among best (e ∷ es) =
    let cases = λ (b : Bool).
    (elim b as (λ x. (weakest (cond x e best) es ≡ best) ⊎ Any (λ f. f ≡ weakest (cond x e best) es) (e ∷ es)) [
      | true ↦ elim (among e es) [ inl same ↦ inr (0, e, omega arith, refl, sym same) | inr later ↦ inr (behind e es (weakest e es) later) ]
      | false ↦ elim (among best es) [ inl same ↦ inl same | inr later ↦ inr (behind e es (weakest best es) later) ]
    ]) in
    cases (is_weaker e best)
  where
    behind : (e : Edge) (es : List Edge) (w : Edge) → Any (λ f. f ≡ w) es → Any (λ f. f ≡ w) (e ∷ es)
    behind e es w x = (suc x.0, x.1, (let k = x.2 in omega (arith, k)), x.3, x.4)

-- the first and those behind it
pub victim_of : (e : Edge) (es : List Edge) → IsVictim (e ∷ es) (weakest e (e ∷ es)).waiter
victim_of e es =
    let w = weakest e (e ∷ es) in
    let all = (weakest_is e (e ∷ es)).1 in
    elim (among e (e ∷ es)) [
      | inl same ↦ (0, e, omega arith, refl, (ap (λ (x : Edge). x.waiter) (sym same), subst (λ (x : Edge). All (λ f. IsBefore x f) (e ∷ es)) same all))
      | inr at ↦ (at.0, at.1, at.2, at.3, (ap (λ (x : Edge). x.waiter) at.4, subst (λ (x : Edge). All (λ f. IsBefore x f) (e ∷ es)) (sym at.4) all))
    ]

victim_at : (c : List Edge) (d : Edge) → 0 < length c → IsVictim c (weakest (get_or c 0 d) c).waiter
victim_at [] d h = absurd (omega (arith, h))
victim_at (e ∷ es) d h = victim_of e es

pub victim_by : (c edges : List Edge) (d w : Edge) → edges ≡ c → 0 < length c → w ≡ weakest (get_or edges 0 d) edges → IsVictim c w.waiter
victim_by c edges d w same h is = subst (λ (e : Edge). IsVictim c e.waiter) (sym (is ∙ ap (λ (x : List Edge). weakest (get_or x 0 d) x) same)) (victim_at c d h)

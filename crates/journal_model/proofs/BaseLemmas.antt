-- Facts about functions with another value at one number, about lists and about worlds, with no step in them.
use Rattle.std.proofs.Common.{◌≡◌, ◌≢◌, ℕ, ◌+◌, ◌≤◌, List, [], ◌∷◌, ◌++◌, length, true, false, refl, sym, ◌∙◌, ap, subst, arith, inl, inr}
use Rattle.std.proofs.Math.Seq.{take-length}
use Rattle.std.proofs.lemmas.List.{take-append-le}
use Rattle.std.proofs.lemmas.Bool.Decides.{nat_tests}
use Rattle.std.proofs.lemmas.Bool.{both_ways, cases_eq}
use Rattle.journal_model.specs.declared.journal.Entry.{Entry}
use Rattle.journal_model.specs.declared.journal.Entry.TheVariants.{Started, Did, Undone, Answered, Refused, Committed, Acknowledged, RolledBack}
use Rattle.table_model.specs.Tables.{Tables, Each}
use Rattle.table_model.proofs.TablesLemmas.{each_map}
use Rattle.journal_model.specs.World.{World, Txn, Pin, at_number, apply, replay, opening, world_at, is_ended}

pub at_same : {X : Type 0} → (f : ℕ → X) (t : ℕ) (x : X) → at_number f t x t ≡ x
at_same f t x = grind (arith, nat_tests)

pub at_other : {X : Type 0} → (f : ℕ → X) (t : ℕ) (x : X) (u : ℕ) → u ≢ t → at_number f t x u ≡ f u
at_other f t x u h = grind (arith, nat_tests)

pub at_is : {X : Type 0} → (f : ℕ → X) (t : ℕ) (x : X) (u : ℕ) → u ≡ t → at_number f t x u ≡ x
at_is f t x u e = ap (at_number f t x) e ∙ at_same f t x

-- what holds of the value at a number and of every other value holds of each
pub at_each : {X : Type 0} → (P : X → Type 0) (f : ℕ → X) (t : ℕ) (x : X) → P x → ((u : ℕ) → u ≢ t → P (f u)) → (u : ℕ) → P (at_number f t x u)
at_each P f t x here others u = elim (cases_eq u t) [
  | inl e ↦ subst (λ v. P (at_number f t x v)) (sym e) (subst P (sym (at_same f t x)) here)
  | inr ne ↦ subst P (sym (at_other f t x u ne)) (others u ne)
]

pub replay_push : (w : World) (es : List Entry) (e : Entry) → replay w (es ++ e ∷ []) ≡ apply (replay w es) e
replay_push w [] e = refl
replay_push w (x ∷ es) e = replay_push (apply w x) es e

pub world_end : (f : Tables) (es : List Entry) → world_at f es (length es) ≡ replay (opening f) es
world_end f es = ap (replay (opening f)) (take-length es)

pub world_before : (f : Tables) (es : List Entry) (e : Entry) (i : ℕ) → i ≤ length es → world_at f (es ++ e ∷ []) i ≡ world_at f es i
world_before f es e i h = ap (replay (opening f)) (take-append-le i es (e ∷ []) h)

-- the world counts the entries
count_apply : (w : World) (e : Entry) → (apply w e).count ≡ w.count + 1
count_apply w (Started t c level statement) = refl
count_apply w (Did t table rid old new) = refl
count_apply w (Undone t did) = refl
count_apply w (Answered t answer joined from to) = refl
count_apply w (Refused t why) = refl
count_apply w (Committed t) = refl
count_apply w (Acknowledged t) = refl
count_apply w (RolledBack t) = refl

pub count_is : (w : World) (es : List Entry) → (replay w es).count ≡ w.count + length es
count_is w [] = omega arith
count_is w (e ∷ es) = count_is (apply w e) es ∙ ap (λ n. n + length es) (count_apply w e) ∙ omega arith

-- pins of ended transactions stay so where one that hasn't ended moves on
pub ended_kept : (g : ℕ → Txn) (t : ℕ) (x : Txn) → is_ended (g t).stage ≡ false → (pins : List Pin)
    → Each (λ p. is_ended (g p.txn).stage ≡ true) pins → Each (λ p. is_ended (at_number g t x p.txn).stage ≡ true) pins
ended_kept g t x live pins h =
    each_map (λ p. is_ended (g p.txn).stage ≡ true) (λ p. is_ended (at_number g t x p.txn).stage ≡ true)
    (λ p ended. let ne : p.txn ≢ t = λ e. both_ways _ live (subst (λ u. is_ended (g u).stage ≡ true) e ended) in
    ap (λ (y : Txn). is_ended y.stage) (at_other g t x p.txn ne) ∙ ended) pins h

-- and where one ends
pub ended_over : (g : ℕ → Txn) (t : ℕ) (x : Txn) → is_ended x.stage ≡ true → (pins : List Pin)
    → Each (λ p. is_ended (g p.txn).stage ≡ true) pins → Each (λ p. is_ended (at_number g t x p.txn).stage ≡ true) pins
ended_over g t x over pins h =
    each_map (λ p. is_ended (g p.txn).stage ≡ true) (λ p. is_ended (at_number g t x p.txn).stage ≡ true)
    (λ p ended. elim (cases_eq p.txn t) [
      | inl e ↦ subst (λ u. is_ended (at_number g t x u).stage ≡ true) (sym e) (ap (λ (y : Txn). is_ended y.stage) (at_same g t x) ∙ over)
      | inr ne ↦ ap (λ (y : Txn). is_ended y.stage) (at_other g t x p.txn ne) ∙ ended
    ]) pins h

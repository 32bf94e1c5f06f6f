-- An image of pages and log stands for the base after some of the commits.
use Rattle.std.proofs.Common.{◌≡◌, ◌≤◌, ℕ, zero, suc, List, [], ◌∷◌, ◌++◌, length, take, refl, sym, ◌∙◌, ap, subst, arith, inl, inr}
use Rattle.std.proofs.lemmas.Bool.{cases_lt}
use Rattle.std.proofs.lemmas.List.{take-append-le}
use Rattle.dby_types.specs.declared.number.PageId.{PageId}
use Rattle.log_model.specs.Places.{Database, Same}
use Rattle.log_model.specs.Steps.{Step}
use Rattle.log_model.specs.States.{State, IsLegal, IsSound, stepped, after}
use Rattle.log_model.specs.Crash.{HasSomeCommits}
use Rattle.log_model.proofs.Puts.{taken_back_same}
use Rattle.log_model.proofs.Effects.{after_push}
use Rattle.log_model.proofs.Crashing.{crash}
use Rattle.page_model.specs.Redo.{Version, IsImage, redone}
use Rattle.page_model.specs.Showing.{Reading, AreShown, steps_of, pages_after, after_image}
use Rattle.page_model.proofs.Redoing.{take_all, written_append}

module _ {R X V : Type 0} (m : Reading R X V) where
  steps_take : (n : ℕ) (log : List R) → steps_of m (take n log) ≡ take n (steps_of m log)
  steps_take zero [] = refl
  steps_take zero (r ∷ log) = refl
  steps_take (suc n) [] = refl
  steps_take (suc n) (r ∷ log) = ap (λ (x : List (Step V)). m.step r ∷ x) (steps_take n log)

  steps_length : (log : List R) → length (steps_of m log) ≡ length log
  steps_length [] = refl
  steps_length (r ∷ log) = ap suc (steps_length log)

  steps_push : (log : List R) (r : R) → steps_of m (log ++ r ∷ []) ≡ steps_of m log ++ m.step r ∷ []
  steps_push [] r = refl
  steps_push (x ∷ log) r = ap (λ (y : List (Step V)). m.step x ∷ y) (steps_push log r)

  -- AN IMAGE
  pub image_stands : (base : Database V) (s : State V) (first : PageId → X) (log left : List R) (pages : PageId → Version X) (forced durable : ℕ)
      → IsSound base s → IsLegal s (steps_of m log) → AreShown m s first log → durable ≤ length (after s (steps_of m (take forced log))).commits
      → IsImage m.write first log forced pages left → HasSomeCommits base (after s (steps_of m log)).commits durable (after_image m s pages left)
  image_stands base s first log left pages forced durable sound legal shown few h =
      let kept : List (Step V) = steps_of m left in
      let few' : durable ≤ length (after s (take forced (steps_of m log))).commits = subst (λ (l : List (Step V)). durable ≤ length (after s l).commits) (steps_take forced log) few in
      let at_most : h.kept ≤ length (steps_of m log) = omega (arith, h.at_most, steps_length log) in
      let is : steps_of m left ≡ take h.kept (steps_of m log) = ap (steps_of m) h.is ∙ steps_take h.kept log in
      let some = crash base s (steps_of m log) (steps_of m left) forced durable sound legal few' (record { kept = h.kept; at_least = h.at_least; at_most = at_most; is = is }) in
      let page : (p : PageId) → redone m.write left p (pages p) ≡ pages_after m first left p = λ p. subst (λ (l : List R). redone m.write l p (pages p) ≡ pages_after m first l p) (sym h.is) ((h.versions p).redo h.kept h.at_least h.at_most) in
      let all : m.view (λ p. redone m.write left p (pages p)) ≡ m.view (pages_after m first left) = λ i. m.view (λ p. page p i) in
      let now : Same (m.view (pages_after m first left)) (after s (steps_of m left)).shown = subst (λ (l : List R). Same (m.view (pages_after m first l)) (after s (steps_of m l)).shown) (sym h.is) (shown h.kept h.at_most) in
      record {
        kept = some.kept;
        at_least = some.at_least;
        at_most = some.at_most;
        same = λ q. taken_back_same (after s kept).standing _ _ (λ r. ap (λ (d : Database V). d r) all ∙ now r) q ∙ some.same q;
      }

  -- one record more, which does to the pages what its step does to what they show
  pub shown_push : (s : State V) (first : PageId → X) (log : List R) (r : R) → AreShown m s first log
      → Same (m.view (λ p. m.write r p (pages_after m first log p))) (stepped (after s (steps_of m log)) (m.step r)).shown
      → AreShown m s first (log ++ r ∷ [])
  shown_push s first log r shown one n most q = elim (cases_lt (length log) n) [
    | inr few ↦ subst (λ (l : List R). m.view (pages_after m first l) q ≡ (after s (steps_of m l)).shown q) (sym (take-append-le n log (r ∷ []) few)) (shown n few q)
    | inl all ↦ subst (λ (l : List R). m.view (pages_after m first l) q ≡ (after s (steps_of m l)).shown q) (sym (take_all m.write first log r n all most))
        (ap (λ (f : PageId → X). m.view f q) (λ i p. written_append m.write log (r ∷ []) p (first p) i)
        ∙ one q
        ∙ sym (ap (λ (x : State V). x.shown q) (ap (after s) (steps_push log r) ∙ after_push s (steps_of m log) (m.step r))))
  ]

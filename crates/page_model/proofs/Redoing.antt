-- Redo of a page, and the write-ahead rule.
use Rattle.std.proofs.Common.{◌≡◌, ◌≤◌, ◌<◌, ℕ, zero, suc, ◌+◌, List, [], ◌∷◌, ◌++◌, length, take, drop, refl, sym, ◌∙◌, ap, subst, arith, inl, inr, length-append}
use Rattle.std.proofs.lemmas.Bool.{cases_lt}
use Rattle.std.proofs.lemmas.List.{take-append-drop, take-take, take-append-le, drop_all}
use Rattle.std.proofs.Math.Seq.{take-length}
use Rattle.dby_types.specs.declared.number.PageId.{PageId}
use Rattle.page_model.specs.Redo.{Writing, Version, written, redone, brought_up, IsCurrent, MayLie}

module _ {R X : Type 0} (write : Writing R X) where
  pub written_append : (rs ss : List R) (p : PageId) (x : X) → written write (rs ++ ss) p x ≡ written write ss p (written write rs p x)
  written_append [] ss p x = refl
  written_append (r ∷ rs) ss p x = written_append rs ss p (write r p x)

  -- a version that has all records stays as it is
  pub ahead : (log : List R) (p : PageId) (v : Version X) → length log ≤ v.has → redone write log p v ≡ v.holds
  ahead log p v le = ap (λ (rs : List R). written write rs p v.holds) (drop_all v.has log le)

  -- one record more
  drop_push : (n : ℕ) (log : List R) (r : R) → n ≤ length log → drop n (log ++ r ∷ []) ≡ drop n log ++ r ∷ []
  drop_push zero [] r le = refl
  drop_push zero (x ∷ log) r le = refl
  drop_push (suc n) [] r le = absurd (omega (arith, le))
  drop_push (suc n) (x ∷ log) r le = drop_push n log r (omega (arith, le))

  pub redone_push : (log : List R) (r : R) (p : PageId) (v : Version X) → v.has ≤ length log → redone write (log ++ r ∷ []) p v ≡ write r p (redone write log p v)
  redone_push log r p v le = ap (λ (rs : List R). written write rs p v.holds) (drop_push v.has log r le) ∙ written_append (drop v.has log) (r ∷ []) p v.holds

  pub redone_again : (log : List R) (p : PageId) (v : Version X) → redone write log p (brought_up write log p v) ≡ redone write log p v
  redone_again log p v = ahead log p (brought_up write log p v) (omega arith)

  module _ (first : PageId → X) where
    -- a current version may lie where its records are forced
    pub current_lies : (log : List R) (p : PageId) (v : Version X) → IsCurrent write first log p v → MayLie write first log v.has p v
    current_lies log p v c = record {
      behind = omega arith;
      redo = λ n le most.
          ap (λ (x : X). written write (drop v.has (take n log)) p x) (c.holds ∙ ap (λ (rs : List R). written write rs p (first p)) (sym (take-take v.has n log le)))
          ∙ sym (written_append (take v.has (take n log)) (drop v.has (take n log)) p (first p))
          ∙ ap (λ (rs : List R). written write rs p (first p)) (take-append-drop v.has (take n log));
    }

    -- the rule holds on as more is forced
    pub lies_later : (log : List R) (k j : ℕ) (p : PageId) (v : Version X) → k ≤ j → MayLie write first log k p v → MayLie write first log j p v
    lies_later log k j p v le h = record { behind = omega (arith, le, h.behind); redo = λ n ge. h.redo n (omega (arith, le, ge)) }

    pub take_all : (log : List R) (r : R) (n : ℕ) → length log < n → n ≤ length (log ++ r ∷ []) → take n (log ++ r ∷ []) ≡ log ++ r ∷ []
    take_all log r n lt le = ap (λ k. take k (log ++ r ∷ [])) (omega (arith, lt, le, length-append log (r ∷ []))) ∙ take-length (log ++ r ∷ [])

    -- redo over the whole log
    pub redone_whole : (log : List R) (k : ℕ) (p : PageId) (v : Version X) → k ≤ length log → MayLie write first log k p v → redone write log p v ≡ written write log p (first p)
    redone_whole log k p v le h = subst (λ (rs : List R). redone write rs p v ≡ written write rs p (first p)) (take-length log) (h.redo (length log) le (omega arith))

    -- and as records are appended
    pub lies_push : (log : List R) (r : R) (k : ℕ) (p : PageId) (v : Version X) → k ≤ length log → MayLie write first log k p v → MayLie write first (log ++ r ∷ []) k p v
    lies_push log r k p v le h = record {
      behind = h.behind;
      redo = λ n ge most. elim (cases_lt (length log) n) [
        | inr few ↦ subst (λ (rs : List R). redone write rs p v ≡ written write rs p (first p)) (sym (take-append-le n log (r ∷ []) few)) (h.redo n ge few)
        | inl all ↦ subst (λ (rs : List R). redone write rs p v ≡ written write rs p (first p)) (sym (take_all log r n all most))
            (redone_push log r p v (omega (arith, h.behind, le)) ∙ ap (write r p) (redone_whole log k p v le h) ∙ sym (written_append log (r ∷ []) p (first p)))
      ];
    }

    -- the version that redo makes is current, and may lie where the log is forced
    pub brought_up_current : (log : List R) (k : ℕ) (p : PageId) (v : Version X) → k ≤ length log → MayLie write first log k p v → IsCurrent write first log p (brought_up write log p v)
    brought_up_current log k p v le h = record {
      within = omega arith;
      holds = redone_whole log k p v le h ∙ ap (λ (rs : List R). written write rs p (first p)) (sym (take-length log));
    }

    -- a page that a record was written on
    pub written_current : (log : List R) (r : R) (p : PageId) (x : X) → x ≡ written write log p (first p) → IsCurrent write first (log ++ r ∷ []) p (record { has = length log + 1; holds = write r p x })
    written_current log r p x e =
        let whole : take (length log + 1) (log ++ r ∷ []) ≡ log ++ r ∷ [] = take_all log r (length log + 1) (omega arith) (omega (arith, length-append log (r ∷ []))) in
        record {
          within = omega (arith, length-append log (r ∷ []));
          holds = ap (write r p) e ∙ sym (written_append log (r ∷ []) p (first p)) ∙ ap (λ (rs : List R). written write rs p (first p)) (sym whole);
        }

    -- what is current may lie where its records are forced
    pub behind_its_log : (log : List R) (forced : ℕ) (p : PageId) (v : Version X) → IsCurrent write first log p v → v.has ≤ forced → MayLie write first log forced p v
    behind_its_log log forced p v c le = lies_later log v.has forced p v le (current_lies log p v c)

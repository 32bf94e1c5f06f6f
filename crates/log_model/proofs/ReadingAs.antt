-- Databases read otherwise.
use Rattle.std.proofs.Common.{◌≡◌, ◌≤◌, ℕ, zero, suc, List, [], ◌∷◌, length, take, refl, sym, ◌∙◌, ap, subst, inl, inr}
use Rattle.log_model.specs.Places.{Place, Database, Same, Change, put, laid_over, after_commits}
use Rattle.log_model.specs.Crash.{HasSomeCommits}
use Rattle.log_model.specs.ReadAs.{read_as, changes_as, commits_as}
use Rattle.log_model.proofs.Puts.{cases_place, put_here, put_elsewhere, put_at, after_commits_at}

module _ {X Y : Type 0} (f : Place → X → Y) where
  put_as : (d : Database X) (p : Place) (x : X) → Same (read_as f (put d p x)) (put (read_as f d) p (f p x))
  put_as d p x q = elim (cases_place q p) [
    | inl here ↦ ap (f q) (put_here d p x q here) ∙ ap (λ r. f r x) here ∙ sym (put_here (read_as f d) p (f p x) q here)
    | inr ne ↦ ap (f q) (put_elsewhere d p x q ne) ∙ sym (put_elsewhere (read_as f d) p (f p x) q ne)
  ]

  pub laid_over_as : (cs : List (Change X)) (d : Database X) → Same (read_as f (laid_over cs d)) (laid_over (changes_as f cs) (read_as f d))
  laid_over_as [] d p = refl
  laid_over_as (c ∷ cs) d p = put_as (laid_over cs d) c.place c.after p
      ∙ put_at (read_as f (laid_over cs d)) (laid_over (changes_as f cs) (read_as f d)) c.place (f c.place c.after) p (laid_over_as cs d p)

  pub after_commits_as : (css : List (List (Change X))) (d : Database X) → Same (read_as f (after_commits d css)) (after_commits (read_as f d) (commits_as f css))
  after_commits_as [] d p = refl
  after_commits_as (cs ∷ css) d p = after_commits_as css (laid_over cs d) p
      ∙ after_commits_at (commits_as f css) (read_as f (laid_over cs d)) (laid_over (changes_as f cs) (read_as f d)) p (laid_over_as cs d p)

  commits_length : (css : List (List (Change X))) → length (commits_as f css) ≡ length css
  commits_length [] = refl
  commits_length (cs ∷ css) = ap suc (commits_length css)

  commits_take_as : (n : ℕ) (css : List (List (Change X))) → commits_as f (take n css) ≡ take n (commits_as f css)
  commits_take_as zero [] = refl
  commits_take_as zero (cs ∷ css) = refl
  commits_take_as (suc n) [] = refl
  commits_take_as (suc n) (cs ∷ css) = ap (λ (x : List (List (Change Y))). changes_as f cs ∷ x) (commits_take_as n css)

  pub some_as : (base : Database X) (commits : List (List (Change X))) (durable : ℕ) (d : Database X) → HasSomeCommits base commits durable d
      → HasSomeCommits (read_as f base) (commits_as f commits) durable (read_as f d)
  some_as base commits durable d h = record {
    kept = h.kept;
    at_least = h.at_least;
    at_most = subst (λ n. h.kept ≤ n) (sym (commits_length commits)) h.at_most;
    same = λ p. ap (f p) (h.same p) ∙ after_commits_as (take h.kept commits) base p
        ∙ ap (λ (x : List (List (Change Y))). after_commits (read_as f base) x p) (commits_take_as h.kept commits);
  }

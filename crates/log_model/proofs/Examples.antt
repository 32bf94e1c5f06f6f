-- Logs by hand, and what the definitions make of them. Numbers stand at places, 0 at first.
use Rattle.std.proofs.Common.{◌≡◌, ◌≢◌, ℕ, List, [], ◌∷◌, Option, take, refl, sym, ap, arith}
use Rattle.std.specs.Option.{unwrap_or}
use Rattle.std.specs.Prelude.{slice_index_or}
use Rattle.log_model.specs.Places.{Place, Database, Change}
use Rattle.log_model.specs.Steps.{Step}
use Rattle.log_model.specs.Steps.Step.{change, compensation, commit, rolled_back}
use Rattle.log_model.specs.States.{start, after, recovered, IsLegal}
use Rattle.log_model.specs.Restart.{restart_of}
use Rattle.log_model.specs.Forget.{forget}
use Rattle.log_model.proofs.Lists.{cons_is_none}

abbrev base : Database ℕ
base = λ p. 0

-- two rows of table 16
abbrev first : Place
first = record { container = 16; key = 1 ∷ 0 ∷ [] }

abbrev second : Place
second = record { container = 16; key = 1 ∷ 1 ∷ [] }

abbrev puts : ℕ → Place → ℕ → ℕ → Change ℕ
puts t p before after = record { txn = t; place = p; before = before; after = after }

-- transaction 1 puts 5 and then 6 in the first row and commits; transaction 2 puts 7 in the second one, and takes it back
abbrev log : List (Step ℕ)
log = change (puts 1 first 0 5) ∷ change (puts 2 second 0 7) ∷ change (puts 1 first 5 6) ∷ commit 1 ∷ compensation (puts 2 second 7 0) ∷ rolled_back 2 ∷ []

apart : first ≢ second
apart e = let slot : 0 ≡ 1 = ap (λ (p : Place). slice_index_or p.key 1 0) e in omega (arith, slot)

others : ◌≢◌ {A = ℕ} 1 2
others e = omega (arith, e)

is_legal : IsLegal (start base) log
is_legal = (
  (tt, refl, tt),
  (
    (tt, refl, ((λ ne e. apart (sym e)), tt)),
    (
      (tt, refl, ((λ ne. apart), ((λ ne. absurd (ne refl)), tt))),
      (tt, (((others, tt), refl), (((others, tt), refl), tt))),
    ),
  ),
)

-- in the end, and in the midst of it
ends_with : (after (start base) log).shown first ≡ 6
ends_with = refl

takes_back : (after (start base) log).shown second ≡ 0
takes_back = refl

commits : (after (start base) log).commits ≡ (puts 1 first 5 6 ∷ puts 1 first 0 5 ∷ []) ∷ []
commits = refl

shows_what_stands : (after (start base) (take 4 log)).shown second ≡ 7
shows_what_stands = refl

keeps_the_commit : recovered (after (start base) (take 4 log)) first ≡ 6
keeps_the_commit = refl

loses_what_stands : recovered (after (start base) (take 4 log)) second ≡ 0
loses_what_stands = refl

loses_all_before_the_commit : recovered (after (start base) (take 3 log)) first ≡ 0
loses_all_before_the_commit = refl

restarts : restart_of (after (start base) (take 3 log)) (1 ∷ 2 ∷ [])
    ≡ compensation (puts 1 first 6 5) ∷ compensation (puts 2 second 7 0) ∷ compensation (puts 1 first 5 0) ∷ rolled_back 1 ∷ rolled_back 2 ∷ []
restarts = refl

forgets : forget 2 log ≡ change (puts 1 first 0 5) ∷ change (puts 1 first 5 6) ∷ commit 1 ∷ []
forgets = refl

-- no legal logs: two transactions at one place, a change taken back that isn't the newest, a step behind a commit, an end with a change that stands
two_at_one_place : IsLegal (start base) (change (puts 1 first 0 5) ∷ change (puts 2 first 5 7) ∷ []) → ⊥
two_at_one_place h = h.1.0.2.0 others refl

not_the_newest : IsLegal (start base) (change (puts 1 first 0 5) ∷ change (puts 1 second 0 7) ∷ compensation (puts 1 first 5 0) ∷ []) → ⊥
not_the_newest h = let put : 7 ≡ 5 = ap (λ (o : Option (Change ℕ)). (unwrap_or o (puts 1 first 0 0)).after) h.1.1.0.1 in omega (arith, put)

behind_its_commit : IsLegal (start base) (commit 1 ∷ change (puts 1 first 0 5) ∷ []) → ⊥
behind_its_commit h = h.1.0.0.0 refl

with_a_change : IsLegal (start base) (change (puts 1 first 0 5) ∷ rolled_back 1 ∷ []) → ⊥
with_a_change h = cons_is_none h.1.0.1

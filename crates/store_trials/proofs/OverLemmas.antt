-- What a step to the next row does to what is seen over the store below.
use Rattle.std.proofs.Common.{◌≡◌, ◌+◌, ℕ, List, refl, sym, ap, subst, ◌∙◌, true, false, Bool, arith, replicate, add-zero}
use Rattle.std.specs.Prelude.{Result, Ok, Err, IfOk}
use Rattle.store_api.specs.declared.answers.StoreAnswer.{StoreAnswer}
use Rattle.store_api.specs.declared.answers.Moved.{Moved}
use Rattle.store_api.specs.declared.answers.Moved.TheVariants.{Reached, Onward, Held}
use Rattle.store_api.specs.Effects.{MovesOn}
use Rattle.store_api.specs.Frames.{Stores}
use Rattle.store_api.specs.View.{View, Content, Holding}
use Rattle.store_trials.specs.Sent.{IsOver, seen_over, with_turns, turns_in, cleared, is_end_of_move}
use Rattle.store_trials.proofs.MarkLemmas.{cleared_here, nobody_here}

pub stores_over : (v v' : View) (d : Content) (marks marks' : List Bool) → Stores v v' d → Stores (seen_over v marks) (seen_over v' marks') d
stores_over v v' d marks marks' s = record {
  well = record { keeps_none = s.well.keeps_none; meters_same = s.well.meters_same };
  stored = s.stored;
}

-- the marks once a call has answered so
pub moves_over : (v v' : View) (marks : List Bool) (a : ℕ) (m : Moved) → MovesOn a v v' m → MovesOn a (seen_over v marks) (seen_over v' (cleared marks a (is_end_of_move (Ok m)))) m
moves_over v v' marks a Reached moves table rid at =
    let arrives = moves table rid at in
    record {
      at = arrives.at;
      first = arrives.first;
      place = arrives.place;
      turns = ap (λ n. n + turns_in (cleared marks a true) a) arrives.turns ∙ ap (λ n. 0 + n) (cleared_here marks a);
    }
moves_over v v' marks a Onward moves table rid at =
    let goes = moves table rid at in
    (omega (arith, goes.0), goes.1)
moves_over v v' marks a (Held b) moves table rid at =
    let held = moves table rid at in
    record {
      other = held.other;
      holds = held.holds;
      kept = ap (λ h. with_turns h (turns_in (cleared marks a true) a)) held.kept ∙ ap (λ n. record (v.actors a) { turns = 0 + n }) (cleared_here marks a);
    }

pub moved_over : (v v' : View) (marks marks' : List Bool) (a : ℕ) (answer : Result Moved StoreAnswer) → marks' ≡ cleared marks a (is_end_of_move answer)
    → IfOk answer (λ m. Stores v v' v.content × MovesOn a v v' m) → IfOk answer (λ m. Stores (seen_over v marks) (seen_over v' marks') v.content × MovesOn a (seen_over v marks) (seen_over v' marks') m)
moved_over v v' marks marks' a (Ok m) are done = (
  stores_over v v' v.content marks marks' done.0,
  subst (λ (ms : List Bool). MovesOn a (seen_over v marks) (seen_over v' ms) m) (sym are) (moves_over v v' marks a m done.1),
)
moved_over v v' marks marks' a (Err e) are done = tt

-- where nobody was sent onward yet
pub new_over : (v : View) → IsOver v (seen_over v (replicate 65 false))
new_over v = record {
  content_same = refl;
  everyone = λ a. ap (with_turns (v.actors a)) (nobody_here 65 a) ∙ no_turn_more (v.actors a);
  meters_same = refl;
  limit_same = refl;
  pages = refl;
}
  where
    no_turn_more : (h : Holding) → with_turns h 0 ≡ h
    no_turn_more h = λ i. record h { turns = add-zero h.turns i }

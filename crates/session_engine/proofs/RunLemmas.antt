-- What the public step knows of its connection.
use Rattle.std.proofs.Common.{◌≡◌, ℕ, zero, suc, ◌+◌, ◌<◌, ◌≤◌, List, [], ◌∷◌, length, get_or, Bool, true, false, refl, sym, ◌∙◌, ap, subst, arith, nat_le}
use Rattle.std.proofs.lemmas.Bool.Decides.{nat_tests}
use Rattle.sql_lexer.specs.Splitting.{spans_of}
use Rattle.session_engine.specs.declared.session.Phase.{Phase}
use Rattle.session_engine.specs.declared.session.Phase.TheVariants.{Idle, Resting, Asking, Preparing, Claiming, Working, Refusing, Committing, Forcing, Acknowledging, Leaving}
use Rattle.session_engine.specs.declared.session.Session.{Session}
use Rattle.session_engine.specs.declared.next.Next.{Next}
use Rattle.session_engine.specs.Pacing.{nexts_of}
use Rattle.session_engine.specs.State.{State, Holds, scripts_of, world_of}
use Rattle.session_engine.specs.Stepped.{HasEnded, NotEnded, ends_now}
use Rattle.session_engine.specs.declared.step.Step.{Step}
use Rattle.session_engine.specs.declared.step.Step.TheVariants.{Went, Blocked, Answered, Ended, Stopped, Memory}
use Rattle.journal_model.specs.declared.journal.Entry.{Entry}
use Rattle.session_engine.proofs.StepLemmas.{own_session, phase_at}

-- a connection for each script
pub scripts_length : (ss : List Session) → length (scripts_of ss) ≡ length ss
scripts_length [] = refl
scripts_length (s ∷ ss) = ap suc (scripts_length ss)

pub within : (ss : List Session) (k : ℕ) → k < length (scripts_of ss) → k < length ss
within ss k lt = let same = scripts_length ss in omega (arith, lt, same)

nexts_length : (ss : List Session) → length (nexts_of ss) ≡ length ss
nexts_length [] = refl
nexts_length (s ∷ ss) = ap suc (nexts_length ss)

pub both_lengths : {B C D E : Type 0} (ss : List Session) (v : List (List ℕ) × B × C × D × E × List Next) (b : B) (c : C) (d : D) (e : E) → (scripts_of ss, b, c, d, e, nexts_of ss) ≡ v → length v.5 ≡ length v.0
both_lengths {B = B} {C = C} {D = D} {E = E} ss v b c d e same = subst (λ (w : List (List ℕ) × B × C × D × E × List Next). length w.5 ≡ length w.0) same (nexts_length ss ∙ sym (scripts_length ss))

script_at : (ss : List Session) (k : ℕ) (r : Session) (d : List ℕ) → k < length ss → r ≡ get_or ss k r → get_or (scripts_of ss) k d ≡ r.script
script_at [] k r d lt at = absurd (omega arith)
script_at (s ∷ ss) zero r d lt at = ap (λ (x : Session). x.script) (sym at)
script_at (s ∷ ss) (suc k) r d lt at = script_at ss k r d (omega arith) at

-- who ends is idle, and its script is through
ends_idle : (p : Phase) (b : Bool) → ends_now p b ≡ true → (p ≡ Idle) × (b ≡ true)
ends_idle Idle b e = (refl, e)
ends_idle Resting b e = absurd (let x : false ≡ true = e in cc)
ends_idle Asking b e = absurd (let x : false ≡ true = e in cc)
ends_idle Preparing b e = absurd (let x : false ≡ true = e in cc)
ends_idle Claiming b e = absurd (let x : false ≡ true = e in cc)
ends_idle Working b e = absurd (let x : false ≡ true = e in cc)
ends_idle Refusing b e = absurd (let x : false ≡ true = e in cc)
ends_idle Committing b e = absurd (let x : false ≡ true = e in cc)
ends_idle Forcing b e = absurd (let x : false ≡ true = e in cc)
ends_idle Acknowledging b e = absurd (let x : false ≡ true = e in cc)
ends_idle Leaving b e = absurd (let x : false ≡ true = e in cc)

pub has_ended : (st : State) (last k : ℕ) (r : Session) → k < length st.ss → r ≡ get_or st.ss k r → ends_now r.phase (nat_le (length r.spans) r.begun) ≡ true → Holds st last → HasEnded (scripts_of st.ss) st.es (k + 1)
has_ended st last k r lt at e ok =
    let own = own_session st last k r lt at ok in
    let idle = ends_idle r.phase (nat_le (length r.spans) r.begun) e in
    let rests = phase_at Idle (world_of st.es) st.lock st.view last (k + 1) r idle.0 own in
    record {
      none = rests.1;
      all = λ j d same.
          let here : j ≡ k = omega (arith, same) in
          let script : get_or (scripts_of st.ss) j d ≡ r.script = ap (λ i. get_or (scripts_of st.ss) i d) here ∙ script_at st.ss k r d lt at in
          let spans : length (spans_of (get_or (scripts_of st.ss) j d)) ≡ length r.spans = ap (λ t. length (spans_of t)) script ∙ ap length (sym own.spans) in
          let begun = own.begun in
          let is = idle.1 in
          let through : length r.spans ≤ r.begun = grind (arith, nat_tests, is) in
          omega (arith, spans, begun, through);
    }

-- a step that goes on has not ended
pub never_ended : (result : Step) (scripts : List (List ℕ)) (es : List Entry) (c : ℕ) → NotEnded result → result ≡ Ended → HasEnded scripts es c
never_ended Ended scripts es c goes e = absurd goes
never_ended (Went x) scripts es c goes e = absurd (let y : Went x ≡ Ended = e in cc)
never_ended (Blocked w) scripts es c goes e = absurd (let y : Blocked w ≡ Ended = e in cc)
never_ended Answered scripts es c goes e = absurd (let y : Answered ≡ Ended = e in cc)
never_ended (Stopped s) scripts es c goes e = absurd (let y : Stopped s ≡ Ended = e in cc)
never_ended Memory scripts es c goes e = absurd (let y : Memory ≡ Ended = e in cc)

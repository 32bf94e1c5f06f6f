-- What a step owes to its pace: who does what next, whose pages moved, and that it led nearer to something that is done.
use Rattle.std.proofs.Common.{◌≡◌, ℕ, zero, suc, ◌+◌, ◌<◌, ◌≤◌, List, [], ◌∷◌, length, set, get_or, Bool, true, false, refl, sym, ◌∙◌, ap, subst, arith, inl, inr, nat_le, Option, Some}
use Rattle.std.specs.Prelude.{◌++◌}
use Rattle.std.proofs.lemmas.Bool.Decides.{nat_tests}
use Rattle.std.proofs.lemmas.List.{get_or-map, map-set, set-get_or, set-set, length-append}
use Rattle.store_api.specs.Effects.{GoesOn, IsHeld, TakesBack, Undoes}
use Rattle.journal_model.proofs.BaseLemmas.{at_same}
use Rattle.journal_model.specs.declared.journal.Entry.{Entry}
use Rattle.session_model.specs.declared.journal.Locked.{Locked}
use Rattle.store_api.specs.Frames.{Frame, GrowingFrame, StillFrame}
use Rattle.store_api.specs.View.{View, Content, Holding}
use Rattle.dby_types.specs.declared.number.RowId.{RowId}
use Rattle.dby_types.specs.declared.value.Value.{Value}
use Rattle.store_api.specs.declared.slot.Item.{Item}
use Rattle.store_api.specs.declared.slot.Item.TheVariants.{Created, Discarded}
use Rattle.store_api.specs.declared.answers.Undo.TheVariants as undo
use Rattle.lock_modes.specs.declared.mode.Mode.{Mode}
use Rattle.lock_modes.specs.declared.name.LockName.{LockName}
use Rattle.session_model.specs.declared.order.Order.{Order}
use Rattle.session_engine.specs.Asking.{behind, wanted}
use Rattle.session_engine.specs.Scanning.{IsWithheld, TurnsTo}
use Rattle.session_engine.specs.declared.scanning.Sought.TheVariants as sought
use Rattle.session_engine.specs.Binding.{bound_phase}
use Rattle.session_engine.specs.Blocking.{HasWhy}
use Rattle.session_engine.specs.Pacing.{asks, gets_done, claims, Acts, ComesOn, IsDone, Leads, Paces, Passes, is_way, stage, next_at, next_in, next_of, next_of_fill, next_of_plan, next_of_rows, next_of_scan, nexts_of, rank, waits}
use Rattle.session_engine.specs.Stepped.{IsFinished, IsHalt, IsNoted, IsTold}
use Rattle.session_engine.specs.declared.next.Build.TheVariants as build
use Rattle.session_engine.specs.declared.next.Close.TheVariants as close
use Rattle.session_engine.specs.declared.next.Next.{Next}
use Rattle.session_engine.specs.declared.next.Next.TheVariants as next
use Rattle.session_engine.specs.declared.next.Work.{Work}
use Rattle.session_engine.specs.declared.next.Work.TheVariants as work
use Rattle.session_engine.specs.declared.session.Phase.{Phase}
use Rattle.session_engine.specs.declared.session.Phase.TheVariants.{Idle, Resting, Asking, Preparing, Claiming, Working, Refusing, Committing, Forcing, Acknowledging, Leaving}
use Rattle.session_engine.specs.declared.session.Fill.{Fill}
use Rattle.session_engine.specs.declared.session.Plan.{Plan}
use Rattle.session_engine.specs.declared.session.Plan.TheVariants as plan
use Rattle.session_engine.specs.declared.session.Scan.{Scan}
use Rattle.session_engine.specs.declared.session.Where.{Where}
use Rattle.session_engine.specs.declared.session.Where.TheVariants as place
use Rattle.session_engine.specs.declared.session.Session.{Session}
use Rattle.session_engine.specs.declared.step.Event.{Event}
use Rattle.session_engine.specs.declared.step.Event.TheVariants as event
use Rattle.session_engine.specs.declared.step.Step.{Step}
use Rattle.session_engine.specs.declared.step.Why.TheVariants as why
use Rattle.session_engine.specs.declared.step.Step.TheVariants.{Went, Blocked, Answered, Ended, Stopped, Memory}

-- WHAT IT DOES NEXT is what its own state says
pub next_is : (ss : List Session) (c : ℕ) (r : Session) → c < length ss → r ≡ get_or ss c r → next_at (nexts_of ss) c ≡ next_of r
next_is ss c r lt at = get_or-map next_of ss c r next.End lt ∙ ap next_of (sym at)

-- nobody is behind the last connection
pub none_behind : (ss : List Session) (c : ℕ) → length ss ≤ c → next_at (nexts_of ss) c ≡ next.End
none_behind [] c le = refl
none_behind (s ∷ ss) zero le = absurd (omega arith)
none_behind (s ∷ ss) (suc c) le = none_behind ss c (omega arith)

-- WHOSE PAGES MOVED
pub acts_none : (a : ℕ) (v : View) → Acts a v v
acts_none a v = record { others = λ b ne. refl; one_more = omega arith; more_pages = omega arith; few_pages = omega arith }

pub acts_frame : (a b : ℕ) (v v' : View) → a ≡ b → Frame a v v' → Acts b v v'
acts_frame a b v v' same f = subst (λ x. Acts x v v') same (record { others = f.others; one_more = f.one_more; more_pages = (let e = f.pages_same in omega (arith, e)); few_pages = (let e = f.pages_same in omega (arith, e)) })

pub acts_growing : (a : ℕ) (v v' : View) → GrowingFrame a v v' → Acts a v v'
acts_growing a v v' f = record { others = f.others; one_more = f.one_more; more_pages = f.more_pages; few_pages = f.few_pages }

pub acts_same : (a b : ℕ) (v v' : View) → a ≡ b → Acts a v v' → Acts b v v'
acts_same a b v v' same h = subst (λ x. Acts x v v') same h

pub acts_still : (a : ℕ) (v v' : View) → StillFrame v v' → Acts a v v'
acts_still a v v' f = record {
  others = λ b ne. f.everyone b;
  one_more = (let e : (v'.actors a).pages ≡ (v.actors a).pages = ap (λ (h : Holding). h.pages) (f.everyone a) in omega (arith, e));
  more_pages = (let e = f.pages_same in omega (arith, e));
  few_pages = (let e = f.pages_same in omega (arith, e));
}

-- behind which all is let go of
pub acts_bare : (a b : ℕ) (v v' v'' : View) → a ≡ b → Acts b v v' → Frame a v' v'' → (v''.actors a).pages ≡ 0 → Acts b v v''
acts_bare a b v v' v'' actor h frame empty =
    let f : Frame b v' v'' = subst (λ x. Frame x v' v'') actor frame in
    let none : (v''.actors b).pages ≡ 0 = subst (λ x. (v''.actors x).pages ≡ 0) actor empty in
    let same = f.pages_same in
    let more = h.more_pages in
    let few = h.few_pages in
    record { others = λ x ne. f.others x ne ∙ h.others x ne; one_more = omega (arith, none); more_pages = omega (arith, same, more); few_pages = omega (arith, same, few) }

-- behind which nobody's pages move
pub acts_then : (a : ℕ) (v v' v'' : View) → Acts a v v' → StillFrame v' v'' → Acts a v v''
acts_then a v v' v'' h f =
    let same = f.pages_same in
    let more = h.more_pages in
    let few = h.few_pages in
    let one = h.one_more in
    let kept : (v''.actors a).pages ≡ (v'.actors a).pages = ap (λ (x : Holding). x.pages) (f.everyone a) in
    record { others = λ b ne. f.everyone b ∙ h.others b ne; one_more = omega (arith, kept, one); more_pages = omega (arith, same, more); few_pages = omega (arith, same, few) }

-- STEPS that get something done
no_way : (s : Step) → gets_done s ≡ true → is_way s ≡ true → ⊥
no_way (Went event.Fix) h e = let x : false ≡ true = h in cc
no_way (Went event.LetGo) h e = let x : false ≡ true = h in cc
no_way (Went event.Lock) h e = let x : false ≡ true = h in cc
no_way (Went event.Enqueue) h e = let x : false ≡ true = h in cc
no_way (Went event.Begin) h e = let x : false ≡ true = e in cc
no_way (Went event.Prepare) h e = let x : false ≡ true = e in cc
no_way (Went event.Woken) h e = let x : false ≡ true = e in cc
no_way (Went event.Read) h e = let x : false ≡ true = e in cc
no_way (Went event.Change) h e = let x : false ≡ true = e in cc
no_way (Went event.Undo) h e = let x : false ≡ true = e in cc
no_way (Went event.Rollback) h e = let x : false ≡ true = e in cc
no_way (Went event.Finish) h e = let x : false ≡ true = e in cc
no_way (Went event.Append) h e = let x : false ≡ true = e in cc
no_way (Went event.Force) h e = let x : false ≡ true = e in cc
no_way (Went event.Acknowledge) h e = let x : false ≡ true = e in cc
no_way (Blocked w) h e = let x : false ≡ true = h in cc
no_way Answered h e = let x : false ≡ true = e in cc
no_way Ended h e = let x : false ≡ true = e in cc
no_way (Stopped s) h e = let x : false ≡ true = e in cc
no_way Memory h e = let x : false ≡ true = e in cc

no_wait : (s : Step) → gets_done s ≡ true → waits s ≡ true → ⊥
no_wait (Went event.Fix) h e = let x : false ≡ true = h in cc
no_wait (Went event.LetGo) h e = let x : false ≡ true = h in cc
no_wait (Went event.Lock) h e = let x : false ≡ true = h in cc
no_wait (Went event.Enqueue) h e = let x : false ≡ true = h in cc
no_wait (Went event.Begin) h e = let x : false ≡ true = e in cc
no_wait (Went event.Prepare) h e = let x : false ≡ true = e in cc
no_wait (Went event.Woken) h e = let x : false ≡ true = e in cc
no_wait (Went event.Read) h e = let x : false ≡ true = e in cc
no_wait (Went event.Change) h e = let x : false ≡ true = e in cc
no_wait (Went event.Undo) h e = let x : false ≡ true = e in cc
no_wait (Went event.Rollback) h e = let x : false ≡ true = e in cc
no_wait (Went event.Finish) h e = let x : false ≡ true = e in cc
no_wait (Went event.Append) h e = let x : false ≡ true = e in cc
no_wait (Went event.Force) h e = let x : false ≡ true = e in cc
no_wait (Went event.Acknowledge) h e = let x : false ≡ true = e in cc
no_wait (Blocked w) h e = let x : false ≡ true = h in cc
no_wait Answered h e = let x : false ≡ true = e in cc
no_wait Ended h e = let x : false ≡ true = e in cc
no_wait (Stopped s) h e = let x : false ≡ true = e in cc
no_wait Memory h e = let x : false ≡ true = e in cc

pub done_noted : (ev : Event) (result : Step) → IsNoted ev result → gets_done (Went ev) ≡ true → gets_done result ≡ true
done_noted ev (Went x) is h = ap (λ y. gets_done (Went y)) is ∙ h
done_noted ev (Stopped s) is h = refl
done_noted ev (Blocked w) is h = absurd is
done_noted ev Answered is h = refl
done_noted ev Ended is h = refl
done_noted ev Memory is h = refl

pub done_finished : (result : Step) → IsFinished result → gets_done result ≡ true
done_finished Answered is = refl
done_finished (Went x) is = ap (λ y. gets_done (Went y)) is
done_finished (Stopped s) is = refl
done_finished (Blocked w) is = absurd is
done_finished Ended is = refl
done_finished Memory is = refl

pub done_told : (step result : Step) → IsTold step result → gets_done result ≡ true
done_told (Went x) (Went y) is = ap (λ z. gets_done (Went z)) is
done_told (Blocked w) (Went y) is = absurd is
done_told Answered (Went y) is = absurd is
done_told Ended (Went y) is = absurd is
done_told (Stopped s) (Went y) is = absurd is
done_told Memory (Went y) is = absurd is
done_told (Went x) (Blocked w) is = absurd is
done_told (Blocked x) (Blocked w) is = absurd is
done_told Answered (Blocked w) is = absurd is
done_told Ended (Blocked w) is = absurd is
done_told (Stopped s) (Blocked w) is = absurd is
done_told Memory (Blocked w) is = absurd is
done_told step Answered is = refl
done_told step Ended is = refl
done_told step (Stopped s) is = refl
done_told step Memory is = refl

-- a step that has stopped
pub done_halted : (result : Step) → IsHalt result → gets_done result ≡ true
done_halted (Stopped s) is = refl
done_halted (Went x) is = absurd is
done_halted (Blocked w) is = absurd is
done_halted Answered is = absurd is
done_halted Ended is = absurd is
done_halted Memory is = absurd is

pub claims_halted : (result : Step) → IsHalt result → claims result ≡ false
claims_halted (Stopped s) is = refl
claims_halted (Went x) is = absurd is
claims_halted (Blocked w) is = absurd is
claims_halted Answered is = absurd is
claims_halted Ended is = absurd is
claims_halted Memory is = absurd is

-- WHAT IS DONE
more : (es es' : List Entry) (e : Entry) → es' ≡ es ++ e ∷ [] → length es < length es'
more es es' e same = let l = length-append es (e ∷ []) in let n = ap length same in omega (arith, l, n)

-- A STEP that isn't only on the way, by what it does
paces_does : (c : ℕ) (result : Step) (ss : List Session) (s' : Session) (es es' : List Entry) (v v' : View) → gets_done result ≡ true → Acts (c + 1) v v' → IsDone (next_at (nexts_of ss) c) (next_of s') es es' v v'
    → Paces c result (nexts_of ss) (nexts_of (set ss c s')) es es' v v'
paces_does c result ss s' es es' v v' done acts does = record {
  to = next_of s';
  moved = map-set next_of ss c s';
  acts = acts;
  leads = λ e. absurd (no_way result done e);
  comes = λ e. absurd (no_way result done e);
  does = λ e. does;
  bare = λ e. absurd (no_wait result done e);
}

-- it puts an entry
pub paces_put : (c : ℕ) (result : Step) (ss : List Session) (s' : Session) (es es' : List Entry) (e : Entry) (v v' : View) → gets_done result ≡ true → es' ≡ es ++ e ∷ [] → Acts (c + 1) v v' → Paces c result (nexts_of ss) (nexts_of (set ss c s')) es es' v v'
paces_put c result ss s' es es' e v v' done same acts = paces_does c result ss s' es es' v v' done acts (inl (more es es' e same))

pub paces_two : (c : ℕ) (result : Step) (ss : List Session) (s' : Session) (es mid es' : List Entry) (a b : Entry) (v v' : View) → gets_done result ≡ true → mid ≡ es ++ a ∷ [] → es' ≡ mid ++ b ∷ [] → Acts (c + 1) v v' → Paces c result (nexts_of ss) (nexts_of (set ss c s')) es es' v v'
paces_two c result ss s' es mid es' a b v v' done first second acts =
    let one = more es mid a first in
    let two = more mid es' b second in
    paces_does c result ss s' es es' v v' done acts (inl (omega (arith, one, two)))

-- it comes further
pub paces_later : (c : ℕ) (result : Step) (ss : List Session) (s' : Session) (x : Next) (es es' : List Entry) (v v' : View) → gets_done result ≡ true → next_at (nexts_of ss) c ≡ x → stage x < stage (next_of s') → Acts (c + 1) v v'
    → Paces c result (nexts_of ss) (nexts_of (set ss c s')) es es' v v'
paces_later c result ss s' x es es' v v' done here later acts = paces_does c result ss s' es es' v v' done acts (inr (inl (subst (λ n. stage n < stage (next_of s')) (sym here) later)))

-- it passes a row
pub paces_passed : (c : ℕ) (result : Step) (ss : List Session) (s' : Session) (rid : RowId) (es es' : List Entry) (v v' : View) → gets_done result ≡ true → next_at (nexts_of ss) c ≡ next.Work (work.Read rid)
    → next_of s' ≡ next.Work (work.Seek (Some rid)) → Acts (c + 1) v v' → Paces c result (nexts_of ss) (nexts_of (set ss c s')) es es' v v'
paces_passed c result ss s' rid es es' v v' done here passed acts = paces_does c result ss s' es es' v v' done acts (inr (inr (inl (subst (λ n. Passes n (next_of s')) (sym here) passed))))

-- it takes a change back
pub paces_undid : (c t : ℕ) (result : Step) (item : Item) (ss : List Session) (s' : Session) (es es' : List Entry) (v v' : View) → gets_done result ≡ true → TakesBack t item v v' → Acts (c + 1) v v'
    → Paces c result (nexts_of ss) (nexts_of (set ss c s')) es es' v v'
paces_undid c t result item ss s' es es' v v' done back acts =
    paces_does c result ss s' es es' v v' done acts (inr (inr (inr (t, item, back.rest, back.newest, ap (λ (d : Content). d.changes t) back.stored.stored ∙ at_same v.content.changes t (Some back.rest)))))

-- .. or a container
pub paces_unmade : (c a t d : ℕ) (result : Step) (ss : List Session) (s' : Session) (es es' : List Entry) (v v' : View) → gets_done result ≡ true → Undoes a t d v v' undo.UndidContainer → Acts (c + 1) v v'
    → Paces c result (nexts_of ss) (nexts_of (set ss c s')) es es' v v'
paces_unmade c a t d result ss s' es es' v v' done back acts = elim back.0 [
  | inl made ↦ paces_undid c t result (Created made.0) ss s' es es' v v' done made.1 acts
  | inr gone ↦ paces_undid c t result (Discarded gone.0) ss s' es es' v v' done gone.1 acts
]

-- A STEP that tells of nothing done: the engine has stopped, or there was no memory, or the connection has ended
pub paces_kept : (c : ℕ) (result : Step) (ns : List Next) (es es' : List Entry) (v v' : View) → claims result ≡ false → gets_done result ≡ true → Acts (c + 1) v v' → Paces c result ns ns es es' v v'
paces_kept c result ns es es' v v' none done acts = record {
  to = next_at ns c;
  moved = sym (set-get_or ns c next.End);
  acts = acts;
  leads = λ e. absurd (no_way result done e);
  comes = λ e. absurd (no_way result done e);
  does = λ e. absurd (let x : false ≡ true = sym none ∙ e in cc);
  bare = λ e. absurd (no_wait result done e);
}

pub paces_halted : (c : ℕ) (result : Step) (ss : List Session) (s' : Session) (es es' : List Entry) (v v' : View) → claims result ≡ false → gets_done result ≡ true → Acts (c + 1) v v' → Paces c result (nexts_of ss) (nexts_of (set ss c s')) es es' v v'
paces_halted c result ss s' es es' v v' none done acts = record {
  to = next_of s';
  moved = map-set next_of ss c s';
  acts = acts;
  leads = λ e. absurd (no_way result done e);
  comes = λ e. absurd (no_way result done e);
  does = λ e. absurd (let x : false ≡ true = sym none ∙ e in cc);
  bare = λ e. absurd (no_wait result done e);
}

-- .. gives no reason to wait
pub why_done : (c : ℕ) (result : Step) (es : List Entry) (ls : List Locked) (v : View) → gets_done result ≡ true → HasWhy c result es ls v
why_done c (Went x) es ls v done = tt
why_done c (Blocked w) es ls v done = absurd (let x : false ≡ true = done in cc)
why_done c Answered es ls v done = tt
why_done c Ended es ls v done = tt
why_done c (Stopped s) es ls v done = tt
why_done c Memory es ls v done = tt

-- A STEP ON THE WAY, which leads nearer
pub paces_nearer : (c : ℕ) (ev : Event) (ss : List Session) (s' : Session) (x : Next) (es es' : List Entry) (v v' : View) → next_at (nexts_of ss) c ≡ x → waits (Went ev) ≡ false → claims (Went ev) ≡ false → Acts (c + 1) v v' → rank (next_of s') < rank x → ComesOn (next_of s') x
    → Paces c (Went ev) (nexts_of ss) (nexts_of (set ss c s')) es es' v v'
paces_nearer c ev ss s' x es es' v v' here still none acts nearer on = record {
  to = next_of s';
  moved = map-set next_of ss c s';
  acts = acts;
  leads = λ e. inl (subst (λ n. rank (next_of s') < rank n) (sym here) nearer);
  comes = λ e. subst (ComesOn (next_of s')) (sym here) on;
  does = λ e. absurd (let y : false ≡ true = sym none ∙ e in cc);
  bare = λ e. absurd (let y : false ≡ true = sym still ∙ e in cc);
}

-- .. or in which the same look goes on
pub paces_on : (c a : ℕ) (ev : Event) (ss : List Session) (r s' : Session) (x : Next) (es es' : List Entry) (v v' : View) → c < length ss → r ≡ get_or ss c r → next_at (nexts_of ss) c ≡ x → waits (Went ev) ≡ false → claims (Went ev) ≡ false → Acts (c + 1) v v' → 1 ≤ rank x → ComesOn x x
    → next_of s' ≡ next_of r → a ≡ c + 1 → GoesOn a v v' → Paces c (Went ev) (nexts_of ss) (nexts_of (set ss c s')) es es' v v'
paces_on c a ev ss r s' x es es' v v' lt at here still none acts some stays same actor on = record {
  to = next_of s';
  moved = map-set next_of ss c s';
  acts = acts;
  leads = λ e. inr (
    subst (λ n. 1 ≤ rank n) (sym here) some,
    ap rank (same ∙ sym (next_is ss c r lt at)),
    subst (λ b. (v'.actors b).turns ≡ (v.actors b).turns + 1) actor on,
  );
  comes = λ e. subst (ComesOn (next_of s')) (sym here) (subst (λ n. ComesOn n x) (sym (same ∙ sym (next_is ss c r lt at) ∙ here)) stays);
  does = λ e. absurd (let y : false ≡ true = sym none ∙ e in cc);
  bare = λ e. absurd (let y : false ≡ true = sym still ∙ e in cc);
}

-- how near what is done next is
pub at_refusing : (s : Session) → s.phase ≡ Refusing → next_of s ≡ next.Refuse
at_refusing s is = ap (λ p. next_in p s.plan s.opened (nat_le (length s.spans) s.begun)) is

pub at_working : (s : Session) → s.phase ≡ Working → next_of s ≡ next.Work (next_of_plan s.plan)
at_working s is = ap (λ p. next_in p s.plan s.opened (nat_le (length s.spans) s.begun)) is

-- .. in which memory, pages or log room were wanting: it is to be refused
pub paces_refused : (c : ℕ) (ev : Event) (ss : List Session) (s' : Session) (x : Next) (es es' : List Entry) (v v' : View) → next_at (nexts_of ss) c ≡ x → waits (Went ev) ≡ false → claims (Went ev) ≡ false → 1 < rank x → s'.phase ≡ Refusing → Acts (c + 1) v v'
    → Paces c (Went ev) (nexts_of ss) (nexts_of (set ss c s')) es es' v v'
paces_refused c ev ss s' x es es' v v' here still none far is acts =
    paces_nearer c ev ss s' x es es' v v' here still none acts (let e : rank (next_of s') ≡ 1 = ap rank (at_refusing s' is) in omega (arith, e, far)) (subst (λ n. ComesOn n x) (sym (at_refusing s' is)) tt)

-- .. in a step that isn't only on the way
pub paces_gives : (c : ℕ) (result : Step) (ss : List Session) (s' : Session) (x : Next) (es es' : List Entry) (v v' : View) → gets_done result ≡ true → next_at (nexts_of ss) c ≡ x → stage x < 6 → s'.phase ≡ Refusing → Acts (c + 1) v v'
    → Paces c result (nexts_of ss) (nexts_of (set ss c s')) es es' v v'
paces_gives c result ss s' x es es' v v' done here early is acts = paces_later c result ss s' x es es' v v' done here (let e : stage (next_of s') ≡ 6 = ap stage (at_refusing s' is) in omega (arith, e, early)) acts

-- .. in which what it looked for is there
pub paces_came : (c : ℕ) (ev : Event) (ss : List Session) (s' : Session) (x : Next) (es es' : List Entry) (v v' : View) → next_at (nexts_of ss) c ≡ x → waits (Went ev) ≡ false → claims (Went ev) ≡ false → 0 < rank x → s'.phase ≡ Working
    → rank (next.Work (next_of_plan s'.plan)) ≡ 0 → ComesOn (next.Work (next_of_plan s'.plan)) x → Acts (c + 1) v v' → Paces c (Went ev) (nexts_of ss) (nexts_of (set ss c s')) es es' v v'
paces_came c ev ss s' x es es' v v' here still none far is near on acts =
    paces_nearer c ev ss s' x es es' v v' here still none acts (let e : rank (next_of s') ≡ rank (next.Work (next_of_plan s'.plan)) = ap rank (at_working s' is) in omega (arith, e, near, far)) (subst (λ n. ComesOn n x) (sym (at_working s' is)) on)

-- WHO WAITS holds no page
pub paces_blocked : (c a : ℕ) (result : Step) (ss : List Session) (s' : Session) (es es' : List Entry) (v v' : View) → is_way result ≡ false → claims result ≡ false → Acts (c + 1) v v' → a ≡ c + 1 → (v'.actors a).pages ≡ 0 → Paces c result (nexts_of ss) (nexts_of (set ss c s')) es es' v v'
paces_blocked c a result ss s' es es' v v' still idle acts actor none = record {
  to = next_of s';
  moved = map-set next_of ss c s';
  acts = acts;
  leads = λ e. absurd (let x : false ≡ true = sym still ∙ e in cc);
  comes = λ e. absurd (let x : false ≡ true = sym still ∙ e in cc);
  does = λ e. absurd (let x : false ≡ true = sym idle ∙ e in cc);
  bare = λ e. subst (λ b. (v'.actors b).pages ≡ 0) actor none;
}

-- .. who waits in a queue, as it was found
pub paces_waits : (c : ℕ) (result : Step) (ss : List Session) (s' : Session) (es es' : List Entry) (v v' : View) → is_way result ≡ false → claims result ≡ false → waits result ≡ false → Acts (c + 1) v v' → Paces c result (nexts_of ss) (nexts_of (set ss c s')) es es' v v'
paces_waits c result ss s' es es' v v' still idle apart acts = record {
  to = next_of s';
  moved = map-set next_of ss c s';
  acts = acts;
  leads = λ e. absurd (let x : false ≡ true = sym still ∙ e in cc);
  comes = λ e. absurd (let x : false ≡ true = sym still ∙ e in cc);
  does = λ e. absurd (let x : false ≡ true = sym idle ∙ e in cc);
  bare = λ e. absurd (let x : false ≡ true = sym apart ∙ e in cc);
}

-- somebody holds the page
pub why_withheld : (a b c : ℕ) (es : List Entry) (ls : List Locked) (v : View) → a ≡ c → IsWithheld a b v → HasWhy c (Blocked (why.Latch b)) es ls v
why_withheld a b c es ls v same h = subst (λ x. IsWithheld x b v) same h

pub why_held : (a b c table : ℕ) (es : List Entry) (ls : List Locked) (v v' : View) → a ≡ c → IsHeld a b table v v' → HasWhy c (Blocked (why.Latch b)) es ls v
why_held a b c table es ls v v' same h = why_withheld a b c es ls v same (h.other, (table, h.holds.0, h.holds.1))

-- WHERE A CONNECTION IS by what it does next
abbrev pub fits : Next → Phase → Bool
fits next.End Idle = true
fits next.Begin Idle = true
fits next.Resume Resting = true
fits (next.Close close.GiveUp) Resting = true
fits next.Ask Asking = true
fits next.Prepare Preparing = true
fits next.Claim Claiming = true
fits (next.Work w) Working = true
fits next.Refuse Refusing = true
fits (next.Close close.Append) Committing = true
fits (next.Close close.Force) Forcing = true
fits (next.Close close.Acknowledge) Acknowledging = true
fits (next.Close close.Leave) Leaving = true
fits (next.Close close.Vanish) Leaving = true
fits _ _ = false

fits_own : (p : Phase) (pl : Plan) (opened through : Bool) → fits (next_in p pl opened through) p ≡ true
fits_own Idle pl opened true = refl
fits_own Idle pl opened false = refl
fits_own Resting pl opened true = refl
fits_own Resting pl opened false = refl
fits_own Asking pl opened through = refl
fits_own Preparing pl opened through = refl
fits_own Claiming pl opened through = refl
fits_own Working pl opened through = refl
fits_own Refusing pl opened through = refl
fits_own Committing pl opened through = refl
fits_own Forcing pl opened through = refl
fits_own Acknowledging pl opened through = refl
fits_own Leaving pl true through = refl
fits_own Leaving pl false through = refl

-- it is nowhere else
pub elsewhere : (ss : List Session) (c : ℕ) (r : Session) (x : Next) (p : Phase) → c < length ss → r ≡ get_or ss c r → next_at (nexts_of ss) c ≡ x → r.phase ≡ p → fits x p ≡ false → ⊥
elsewhere ss c r x p lt at here is apart =
    let own : fits (next_of r) r.phase ≡ true = fits_own r.phase r.plan r.opened (nat_le (length r.spans) r.begun) in
    let next : next_of r ≡ x = sym (next_is ss c r lt at) ∙ here in
    let there : fits x p ≡ true = sym (ap (λ n. fits n r.phase) next ∙ ap (fits x) is) ∙ own in
    (let z : false ≡ true = sym apart ∙ there in cc)

-- nobody does anything behind the last connection
pub beyond : (ss : List Session) (c : ℕ) (x : Next) → length ss ≤ c → next_at (nexts_of ss) c ≡ x → fits x Idle ≡ false → ⊥
beyond ss c x le here apart =
    let z : fits x Idle ≡ true = ap (λ n. fits n Idle) (sym here ∙ none_behind ss c le) in
    (let y : false ≡ true = sym apart ∙ z in cc)

-- what was bound, by what is done next
pub work_is : (ss : List Session) (c : ℕ) (r : Session) (w : Work) → c < length ss → r ≡ get_or ss c r → next_at (nexts_of ss) c ≡ next.Work w → r.phase ≡ Working → next_of_plan r.plan ≡ w
work_is ss c r w lt at here is =
    let own : next_of r ≡ next.Work (next_of_plan r.plan) = ap (λ p. next_in p r.plan r.opened (nat_le (length r.spans) r.begun)) is in
    ap (work_of (next_of_plan r.plan)) (sym own ∙ sym (next_is ss c r lt at) ∙ here)
  where
    work_of : Work → Next → Work
    work_of d (next.Work w) = w
    work_of d _ = d

abbrev pub suits : Work → Plan → Bool
suits (work.Seek after) (plan.Select scan) = true
suits (work.Read rid) (plan.Select scan) = true
suits work.Answer (plan.Select scan) = true
suits work.Widen (plan.Insert fill) = true
suits work.Fill (plan.Insert fill) = true
suits work.Count (plan.Insert fill) = true
suits (work.Build b) (plan.Create make) = true
suits work.Command plan.Nothing = true
suits work.Command (plan.Command c) = true
suits work.Command (plan.Refuse why) = true
suits _ _ = false

suits_scan : (scan : Scan) (at : Where) (after : Option RowId) → suits (next_of_scan at after) (plan.Select scan) ≡ true
suits_scan scan place.Lost after = refl
suits_scan scan (place.At rid) after = refl
suits_scan scan place.Ended after = refl

suits_fill : (fill : Fill) (rows : List (List Value)) (room : Bool) → suits (next_of_fill rows room) (plan.Insert fill) ≡ true
suits_fill fill [] room = refl
suits_fill fill (row ∷ rows) true = refl
suits_fill fill (row ∷ rows) false = refl

suits_own : (p : Plan) → suits (next_of_plan p) p ≡ true
suits_own plan.Nothing = refl
suits_own (plan.Command c) = refl
suits_own (plan.Select scan) = suits_scan scan scan.at scan.after
suits_own (plan.Insert fill) = suits_fill fill fill.rows.items fill.has_room
suits_own (plan.Create make) = refl
suits_own (plan.Refuse why) = refl

-- it was bound to nothing else
pub otherwise : (ss : List Session) (c : ℕ) (r : Session) (w : Work) (p : Plan) → c < length ss → r ≡ get_or ss c r → next_at (nexts_of ss) c ≡ next.Work w → r.phase ≡ Working → r.plan ≡ p → suits w p ≡ false → ⊥
otherwise ss c r w p lt at here is planned apart =
    let same : next_of_plan p ≡ w = ap next_of_plan (sym planned) ∙ work_is ss c r w lt at here is in
    let there : suits w p ≡ true = ap (λ y. suits y p) (sym same) ∙ suits_own p in
    (let z : false ≡ true = sym apart ∙ there in cc)

-- where a query is, by what is done next
looks : (at : Where) (was after : Option RowId) → next_of_scan at was ≡ work.Seek after → was ≡ after
looks place.Lost was after e = cc
looks (place.At rid) was after e = cc
looks place.Ended was after e = cc

stands : (at : Where) (was : Option RowId) (rid : RowId) → next_of_scan at was ≡ work.Read rid → at ≡ place.At rid
stands place.Lost was rid e = cc
stands (place.At r) was rid e = cc
stands place.Ended was rid e = cc

pub looks_from : (ss : List Session) (c : ℕ) (r : Session) (scan : Scan) (after : Option RowId) → c < length ss → r ≡ get_or ss c r → next_at (nexts_of ss) c ≡ next.Work (work.Seek after) → r.phase ≡ Working → r.plan ≡ plan.Select scan → scan.after ≡ after
looks_from ss c r scan after lt at here is planned = looks scan.at scan.after after (ap next_of_plan (sym planned) ∙ work_is ss c r (work.Seek after) lt at here is)

pub reads_at : (ss : List Session) (c : ℕ) (r : Session) (scan : Scan) (rid : RowId) → c < length ss → r ≡ get_or ss c r → next_at (nexts_of ss) c ≡ next.Work (work.Read rid) → r.phase ≡ Working → r.plan ≡ plan.Select scan → scan.at ≡ place.At rid
reads_at ss c r scan rid lt at here is planned = stands scan.at scan.after rid (ap next_of_plan (sym planned) ∙ work_is ss c r (work.Read rid) lt at here is)

-- THE SCRIPT, by what is done next
abbrev pub is_more : Next → Bool
is_more next.Begin = true
is_more next.Resume = true
is_more _ = false

gives_up_through : (p : Phase) (pl : Plan) (opened through : Bool) → next_in p pl opened through ≡ next.Close close.GiveUp → through ≡ true
gives_up_through Idle pl opened true e = refl
gives_up_through Idle pl opened false e = cc
gives_up_through Resting pl opened true e = refl
gives_up_through Resting pl opened false e = cc
gives_up_through Asking pl opened through e = cc
gives_up_through Preparing pl opened through e = cc
gives_up_through Claiming pl opened through e = cc
gives_up_through Working pl opened through e = cc
gives_up_through Refusing pl opened through e = cc
gives_up_through Committing pl opened through e = cc
gives_up_through Forcing pl opened through e = cc
gives_up_through Acknowledging pl opened through e = cc
gives_up_through Leaving pl true through e = cc
gives_up_through Leaving pl false through e = cc

pub through_at : (ss : List Session) (c : ℕ) (r : Session) → c < length ss → r ≡ get_or ss c r → next_at (nexts_of ss) c ≡ next.Close close.GiveUp → length r.spans ≤ r.begun
through_at ss c r lt at here =
    let is = gives_up_through r.phase r.plan r.opened (nat_le (length r.spans) r.begun) (sym (next_is ss c r lt at) ∙ here) in
    grind (arith, nat_tests, is)

more_yet : (p : Phase) (pl : Plan) (opened through : Bool) → is_more (next_in p pl opened through) ≡ true → through ≡ false
more_yet Idle pl opened true e = let x : false ≡ true = e in cc
more_yet Idle pl opened false e = refl
more_yet Resting pl opened true e = let x : false ≡ true = e in cc
more_yet Resting pl opened false e = refl
more_yet Asking pl opened through e = let x : false ≡ true = e in cc
more_yet Preparing pl opened through e = let x : false ≡ true = e in cc
more_yet Claiming pl opened through e = let x : false ≡ true = e in cc
more_yet Working pl opened through e = let x : false ≡ true = e in cc
more_yet Refusing pl opened through e = let x : false ≡ true = e in cc
more_yet Committing pl opened through e = let x : false ≡ true = e in cc
more_yet Forcing pl opened through e = let x : false ≡ true = e in cc
more_yet Acknowledging pl opened through e = let x : false ≡ true = e in cc
more_yet Leaving pl true through e = let x : false ≡ true = e in cc
more_yet Leaving pl false through e = let x : false ≡ true = e in cc

-- who begins a statement has one yet
pub begins_at : (ss : List Session) (c : ℕ) (r : Session) (x : Next) → c < length ss → r ≡ get_or ss c r → next_at (nexts_of ss) c ≡ x → is_more x ≡ true → r.begun < length r.spans
begins_at ss c r x lt at here more =
    let is = more_yet r.phase r.plan r.opened (nat_le (length r.spans) r.begun) (ap is_more (sym (next_is ss c r lt at) ∙ here) ∙ more) in
    grind (arith, nat_tests, is)

-- .. as it was found
pub next_here : (ss : List Session) (c : ℕ) (r : Session) (n x : Next) → c < length ss → r ≡ get_or ss c r → n ≡ next_of r → n ≡ x → next_at (nexts_of ss) c ≡ x
next_here ss c r n x lt at is same = next_is ss c r lt at ∙ sym is ∙ same

-- the same plan is taken up again
pub replanned : (r : Session) (p : Plan) → r.plan ≡ p → next_of (record r { plan = p }) ≡ next_of r
replanned r p is = ap (λ y. next_in r.phase y r.opened (nat_le (length r.spans) r.begun)) (sym is)

-- what a look found
pub came_near : (a : ℕ) (v v' : View) (at : Where) (after : Option RowId) → TurnsTo a v v' (sought.Came at) → rank (next.Work (next_of_scan at after)) ≡ 0
came_near a v v' place.Lost after h = absurd h
came_near a v v' (place.At rid) after h = refl
came_near a v v' place.Ended after h = refl

pub roomy_near : (rows : List (List Value)) → rank (next.Work (next_of_fill rows true)) ≡ 0
roomy_near [] = refl
roomy_near (row ∷ rows) = refl

pub spread_near : (behind within : Bool) → rank (next.Work (work.Build (next_of_rows behind true within))) ≡ 0
spread_near true within = refl
spread_near false true = refl
spread_near false false = refl

-- what a lock is asked for is nearer than the lock
rank_of_work : (w : Work) → rank (next.Work w) ≤ 2
rank_of_work (work.Seek after) = omega arith
rank_of_work (work.Read rid) = omega arith
rank_of_work work.Answer = omega arith
rank_of_work work.Widen = omega arith
rank_of_work work.Fill = omega arith
rank_of_work work.Count = omega arith
rank_of_work (work.Build build.Make) = omega arith
rank_of_work (work.Build build.Spread) = omega arith
rank_of_work (work.Build build.Lay) = omega arith
rank_of_work (work.Build build.List) = omega arith
rank_of_work (work.Build build.Done) = omega arith
rank_of_work work.Command = omega arith

granted_near : (p : Phase) (pl : Plan) (opened through : Bool) (order : Option Order) (x : LockName × Mode) → wanted p order pl ≡ Some x → rank (next_in (behind p) pl opened through) < 3
granted_near Asking pl opened through order x e = omega arith
granted_near Claiming pl opened through order x e = let few = rank_of_work (next_of_plan pl) in omega (arith, few)
granted_near Idle pl opened through order x e = cc
granted_near Resting pl opened through order x e = cc
granted_near Preparing pl opened through order x e = cc
granted_near Working pl opened through order x e = cc
granted_near Refusing pl opened through order x e = cc
granted_near Committing pl opened through order x e = cc
granted_near Forcing pl opened through order x e = cc
granted_near Acknowledging pl opened through order x e = cc
granted_near Leaving pl opened through order x e = cc

-- who asks comes to wherever it does
asks_on : (to x : Next) → asks x ≡ true → ComesOn to x
asks_on (next.Work (work.Read rid)) next.Ask e = tt
asks_on (next.Work (work.Read rid)) next.Claim e = tt
asks_on (next.Work (work.Read rid)) next.End e = let z : false ≡ true = e in cc
asks_on (next.Work (work.Read rid)) next.Begin e = let z : false ≡ true = e in cc
asks_on (next.Work (work.Read rid)) next.Resume e = let z : false ≡ true = e in cc
asks_on (next.Work (work.Read rid)) next.Prepare e = let z : false ≡ true = e in cc
asks_on (next.Work (work.Read rid)) (next.Work w) e = let z : false ≡ true = e in cc
asks_on (next.Work (work.Read rid)) next.Refuse e = let z : false ≡ true = e in cc
asks_on (next.Work (work.Read rid)) (next.Close k) e = let z : false ≡ true = e in cc
asks_on (next.Work (work.Seek after)) x e = tt
asks_on (next.Work work.Answer) x e = tt
asks_on (next.Work work.Widen) x e = tt
asks_on (next.Work work.Fill) x e = tt
asks_on (next.Work work.Count) x e = tt
asks_on (next.Work (work.Build k)) x e = tt
asks_on (next.Work work.Command) x e = tt
asks_on next.End x e = tt
asks_on next.Begin x e = tt
asks_on next.Resume x e = tt
asks_on next.Ask x e = tt
asks_on next.Prepare x e = tt
asks_on next.Claim x e = tt
asks_on next.Refuse x e = tt
asks_on (next.Close k) x e = tt

asks_rank : (x : Next) → asks x ≡ true → rank x ≡ 3
asks_rank next.Ask e = refl
asks_rank next.Claim e = refl
asks_rank next.End e = let z : false ≡ true = e in cc
asks_rank next.Begin e = let z : false ≡ true = e in cc
asks_rank next.Resume e = let z : false ≡ true = e in cc
asks_rank next.Prepare e = let z : false ≡ true = e in cc
asks_rank (next.Work w) e = let z : false ≡ true = e in cc
asks_rank next.Refuse e = let z : false ≡ true = e in cc
asks_rank (next.Close k) e = let z : false ≡ true = e in cc

-- A LOCK is granted at once
pub paces_granted : (c : ℕ) (ss : List Session) (r s' : Session) (x : LockName × Mode) (es es' : List Entry) (v v' : View) → asks (next_at (nexts_of ss) c) ≡ true → wanted r.phase r.order r.plan ≡ Some x → s' ≡ record r { phase = behind r.phase } → Acts (c + 1) v v'
    → Paces c (Went event.Lock) (nexts_of ss) (nexts_of (set ss c s')) es es' v v'
paces_granted c ss r s' x es es' v v' here asked is acts =
    paces_nearer c event.Lock ss s' (next_at (nexts_of ss) c) es es' v v' refl refl refl acts
    (let e : next_of s' ≡ next_in (behind r.phase) r.plan r.opened (nat_le (length r.spans) r.begun) = ap next_of is in
    let near = granted_near r.phase r.plan r.opened (nat_le (length r.spans) r.begun) r.order x asked in
    let same : rank (next_of s') ≡ rank (next_in (behind r.phase) r.plan r.opened (nat_le (length r.spans) r.begun)) = ap rank e in
    let three = asks_rank (next_at (nexts_of ss) c) here in
    omega (arith, near, same, three))
    (asks_on (next_of s') (next_at (nexts_of ss) c) here)

-- .. or there was no memory to ask for it
asks_early : (x : Next) → asks x ≡ true → stage x < 6
asks_early next.Ask e = omega arith
asks_early next.Claim e = omega arith
asks_early next.End e = let z : false ≡ true = e in cc
asks_early next.Begin e = let z : false ≡ true = e in cc
asks_early next.Resume e = let z : false ≡ true = e in cc
asks_early next.Prepare e = let z : false ≡ true = e in cc
asks_early (next.Work w) e = let z : false ≡ true = e in cc
asks_early next.Refuse e = let z : false ≡ true = e in cc
asks_early (next.Close k) e = let z : false ≡ true = e in cc

pub paces_starved : (c : ℕ) (ss : List Session) (s' : Session) (es es' : List Entry) (v v' : View) → asks (next_at (nexts_of ss) c) ≡ true → s'.phase ≡ Refusing → Acts (c + 1) v v' → Paces c (Went event.Prepare) (nexts_of ss) (nexts_of (set ss c s')) es es' v v'
paces_starved c ss s' es es' v v' here is acts = paces_gives c (Went event.Prepare) ss s' (next_at (nexts_of ss) c) es es' v v' refl refl (asks_early (next_at (nexts_of ss) c) here) is acts

-- .. or was granted since
stage_of_work : (w : Work) → 4 ≤ stage (next.Work w)
stage_of_work (work.Seek after) = omega arith
stage_of_work (work.Read rid) = omega arith
stage_of_work work.Answer = omega arith
stage_of_work work.Widen = omega arith
stage_of_work work.Fill = omega arith
stage_of_work work.Count = omega arith
stage_of_work (work.Build build.Make) = omega arith
stage_of_work (work.Build build.Spread) = omega arith
stage_of_work (work.Build build.Lay) = omega arith
stage_of_work (work.Build build.List) = omega arith
stage_of_work (work.Build build.Done) = omega arith
stage_of_work work.Command = omega arith

woken_later : (p : Phase) (pl : Plan) (opened through : Bool) (order : Option Order) (x : LockName × Mode) → wanted p order pl ≡ Some x → stage (next_in p pl opened through) < stage (next_in (behind p) pl opened through)
woken_later Asking pl opened through order x e = omega arith
woken_later Claiming pl opened through order x e = let some = stage_of_work (next_of_plan pl) in omega (arith, some)
woken_later Idle pl opened through order x e = cc
woken_later Resting pl opened through order x e = cc
woken_later Preparing pl opened through order x e = cc
woken_later Working pl opened through order x e = cc
woken_later Refusing pl opened through order x e = cc
woken_later Committing pl opened through order x e = cc
woken_later Forcing pl opened through order x e = cc
woken_later Acknowledging pl opened through order x e = cc
woken_later Leaving pl opened through order x e = cc

pub paces_woken : (c : ℕ) (ss : List Session) (r s' : Session) (x : LockName × Mode) (es es' : List Entry) (v v' : View) → c < length ss → r ≡ get_or ss c r → wanted r.phase r.order r.plan ≡ Some x → s' ≡ record r { phase = behind r.phase; queued = false } → Acts (c + 1) v v'
    → Paces c (Went event.Woken) (nexts_of ss) (nexts_of (set ss c s')) es es' v v'
paces_woken c ss r s' x es es' v v' lt at asked is acts =
    let later = woken_later r.phase r.plan r.opened (nat_le (length r.spans) r.begun) r.order x asked in
    let same : stage (next_of s') ≡ stage (next_in (behind r.phase) r.plan r.opened (nat_le (length r.spans) r.begun)) = ap (λ (y : Session). stage (next_of y)) is in
    paces_later c (Went event.Woken) ss s' (next_of r) es es' v v' refl (next_is ss c r lt at) (omega (arith, later, same)) acts

-- a statement is bound
pub paces_bound : (c : ℕ) (ss : List Session) (s' : Session) (es es' : List Entry) (v v' : View) → next_at (nexts_of ss) c ≡ next.Prepare → s'.phase ≡ bound_phase s'.plan → Acts (c + 1) v v' → Paces c (Went event.Prepare) (nexts_of ss) (nexts_of (set ss c s')) es es' v v'
paces_bound c ss s' es es' v v' here is acts = paces_later c (Went event.Prepare) ss s' next.Prepare es es' v v' refl here (subst (λ n. 2 < n) (sym (ap (λ p. stage (next_in p s'.plan s'.opened (nat_le (length s'.spans) s'.begun))) is)) (bound_later s'.plan s'.plan s'.opened (nat_le (length s'.spans) s'.begun))) acts
  where
    bound_later : (p pl : Plan) (opened through : Bool) → 2 < stage (next_in (bound_phase p) pl opened through)
    bound_later plan.Nothing pl opened through = omega arith
    bound_later (plan.Command k) pl opened through = let some = stage_of_work (next_of_plan pl) in omega (arith, some)
    bound_later (plan.Select scan) pl opened through = omega arith
    bound_later (plan.Insert fill) pl opened through = omega arith
    bound_later (plan.Create make) pl opened through = let some = stage_of_work (next_of_plan pl) in omega (arith, some)
    bound_later (plan.Refuse why) pl opened through = omega arith

-- what a method's own condition says of the connections that it has
pub here_inside : {A B C D E : Type 0} (ns : List Next) (k : ℕ) (x : Next) (v : A × B × C × D × E × List Next) (a : A) (b : B) (c : C) (d : D) (e : E) → (a, b, c, d, e, ns) ≡ v → next_at v.5 k ≡ x → next_at ns k ≡ x
here_inside {A = A} {B = B} {C = C} {D = D} {E = E} ns k x v a b c d e same h = ap (λ (w : A × B × C × D × E × List Next). next_at w.5 k) same ∙ h

-- whose script has ended in an open transaction leaves it next
pub gave_up : {A B C D E : Type 0} (ss : List Session) (k : ℕ) (s' : Session) (v : A × B × C × D × E × List Next) (a : A) (b : B) (c : C) (d : D) (e : E) → (a, b, c, d, e, nexts_of ss) ≡ v → s'.phase ≡ Leaving → s'.opened ≡ true
    → nexts_of (set ss k s') ≡ set v.5 k (next.Close close.Leave)
gave_up {A = A} {B = B} {C = C} {D = D} {E = E} ss k s' v a b c d e same is opened =
    map-set next_of ss k s'
    ∙ ap (set (nexts_of ss) k) (ap (λ p. next_in p s'.plan s'.opened (nat_le (length s'.spans) s'.begun)) is ∙ ap (λ o. next_in Leaving s'.plan o (nat_le (length s'.spans) s'.begun)) opened)
    ∙ ap (λ (w : A × B × C × D × E × List Next). set w.5 k (next.Close close.Leave)) same

-- what holds of the entries, the store and the connections inside holds of an engine as it is seen
pub inside : {A B C D E : Type 0} (P : B → D → List Next → Type 0) (v : A × B × C × D × E × List Next) (a : A) (b : B) (c : C) (d : D) (e : E) (ns : List Next) → (a, b, c, d, e, ns) ≡ v → P b d ns → P v.1 v.3 v.5
inside {A = A} {B = B} {C = C} {D = D} {E = E} P v a b c d e ns same h = subst (λ (w : A × B × C × D × E × List Next). P w.1 w.3 w.5) same h

-- so does a pace
pub paces_inside : {A C S E : Type 0} (view : S → View) (c : ℕ) (result : Step) (ns ns' : List Next) (es es' : List Entry) (st : S) (v' : View) (v : A × List Entry × C × S × E × List Next) (a : A) (k : C) (e : E) → (a, es, k, st, e, ns) ≡ v
    → Paces c result ns ns' es es' (view st) v' → Paces c result v.5 ns' v.1 es' (view v.3) v'
paces_inside {S = S} view c result ns ns' es es' st v' v a k e same h = inside (λ (bs : List Entry) (x : S) (ms : List Next). Paces c result ms ns' bs es' (view x) v') v a es k st e ns same h

pub asks_inside : {A B C D E : Type 0} (ns : List Next) (k : ℕ) (v : A × B × C × D × E × List Next) (a : A) (b : B) (c : C) (d : D) (e : E) → (a, b, c, d, e, ns) ≡ v → asks (next_at v.5 k) ≡ true → asks (next_at ns k) ≡ true
asks_inside {A = A} {B = B} {C = C} {D = D} {E = E} ns k v a b c d e same h = ap (λ (w : A × B × C × D × E × List Next). asks (next_at w.5 k)) same ∙ h

-- so does that it has stopped
pub paces_stopped : {A C S E : Type 0} (view : S → View) (c : ℕ) (result : Step) (ss : List Session) (s' : Session) (es : List Entry) (st st' : S) (v w : A × List Entry × C × S × E × List Next) (a : A) (k : C) (e : E) → (a, es, k, st, e, nexts_of ss) ≡ v
    → w.5 ≡ nexts_of (set ss c s') → w.1 ≡ es → w.3 ≡ st' → IsHalt result → Acts (c + 1) (view st) (view st') → Paces c result v.5 w.5 v.1 w.1 (view v.3) (view w.3)
paces_stopped {A = A} {C = C} {S = S} {E = E} view c result ss s' es st st' v w a k e same nexts entries store is acts =
    inside (λ (bs : List Entry) (x : S) (ns : List Next). Paces c result ns w.5 bs w.1 (view x) (view w.3)) v a es k st e (nexts_of ss) same
    (subst (λ (ns : List Next). Paces c result (nexts_of ss) ns es w.1 (view st) (view w.3)) (sym nexts)
    (subst (λ (x : S). Paces c result (nexts_of ss) (nexts_of (set ss c s')) es w.1 (view st) (view x)) (sym store)
    (paces_halted c result ss s' es w.1 (view st) (view st') (claims_halted result is) (done_halted result is) acts)))

-- .. before anything was looked at
pub paces_stopped_still : {A C S E : Type 0} (view : S → View) (c : ℕ) (result : Step) (ss : List Session) (es : List Entry) (st st' : S) (v w : A × List Entry × C × S × E × List Next) (a : A) (k : C) (e : E) → (a, es, k, st, e, nexts_of ss) ≡ v
    → w.5 ≡ nexts_of ss → w.1 ≡ es → w.3 ≡ st' → IsHalt result → Acts (c + 1) (view st) (view st') → Paces c result v.5 w.5 v.1 w.1 (view v.3) (view w.3)
paces_stopped_still {A = A} {C = C} {S = S} {E = E} view c result ss es st st' v w a k e same nexts entries store is acts =
    paces_inside view c result (nexts_of ss) w.5 es w.1 st (view w.3) v a k e same
    (subst (λ (ns : List Next). Paces c result (nexts_of ss) ns es w.1 (view st) (view w.3)) (sym nexts)
    (subst (λ (x : S). Paces c result (nexts_of ss) (nexts_of ss) es w.1 (view st) (view x)) (sym store)
    (paces_kept c result (nexts_of ss) es w.1 (view st) (view st') (claims_halted result is) (done_halted result is) acts)))

-- one that gives up, and then leaves
next_left : (ns : List Next) (c : ℕ) (to : Next) → next_at ns c ≡ next.Close close.GiveUp → next_at (set ns c to) c ≡ to
next_left [] c to e = cc
next_left (n ∷ ns) zero to e = refl
next_left (n ∷ ns) (suc c) to e = next_left ns c to e

leaves_on : (to : Next) → ComesOn to (next.Close close.GiveUp)
leaves_on (next.Work (work.Read rid)) = tt
leaves_on (next.Work (work.Seek after)) = tt
leaves_on (next.Work work.Answer) = tt
leaves_on (next.Work work.Widen) = tt
leaves_on (next.Work work.Fill) = tt
leaves_on (next.Work work.Count) = tt
leaves_on (next.Work (work.Build k)) = tt
leaves_on (next.Work work.Command) = tt
leaves_on next.End = tt
leaves_on next.Begin = tt
leaves_on next.Resume = tt
leaves_on next.Ask = tt
leaves_on next.Prepare = tt
leaves_on next.Claim = tt
leaves_on next.Refuse = tt
leaves_on (next.Close k) = tt

pub paces_gave_up : (c : ℕ) (result : Step) (ns ms ns' : List Next) (es mid es' : List Entry) (v u v' : View) → next_at ns c ≡ next.Close close.GiveUp → ms ≡ set ns c (next.Close close.Leave) → Paces c result ms ns' mid es' u v' → mid ≡ es → u ≡ v → Paces c result ns ns' es es' v v'
paces_gave_up c result ns ms ns' es mid es' v u v' here leaves h kept same =
    let left : next_at ms c ≡ next.Close close.Leave = ap (λ xs. next_at xs c) leaves ∙ next_left ns c (next.Close close.Leave) here in
    let near : rank (next_at ms c) ≡ rank (next_at ns c) = ap rank left ∙ sym (ap rank here) in
    let step : next_at ms c ≡ next.Close close.Leave → IsDone (next_at ms c) h.to mid es' u v' → IsDone (next_at ns c) h.to mid es' u v' = λ at. λ d. elim d [
      | inl more ↦ inl more
      | inr other ↦ elim other [
        | inl later ↦ inr (inl (let one : stage (next_at ms c) ≡ stage (next_at ns c) = ap stage at ∙ sym (ap stage here) in omega (arith, one, later)))
        | inr rest ↦ elim rest [
          | inl passes ↦ absurd (subst (λ n. Passes n h.to) at passes)
          | inr shrinks ↦ inr (inr (inr shrinks))
        ]
      ]
    ] in
    subst (λ (es : List Entry). Paces c result ns ns' es es' v v') kept (subst (λ (x : View). Paces c result ns ns' mid es' x v') same (record {
      to = h.to;
      moved = h.moved ∙ ap (λ xs. set xs c h.to) leaves ∙ set-set ns c (next.Close close.Leave) h.to;
      acts = h.acts;
      leads = λ e. subst (λ n. Leads n (rank h.to) (u.actors (c + 1)).turns (v'.actors (c + 1)).turns) near (h.leads e);
      comes = λ e. subst (ComesOn h.to) (sym here) (leaves_on h.to);
      does = λ e. step left (h.does e);
      bare = h.bare;
    }))

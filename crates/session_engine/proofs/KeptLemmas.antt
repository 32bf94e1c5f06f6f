-- What a step leaves of the journal, way by way.
use Rattle.std.proofs.Common.{◌≡◌, ◌≢◌, ℕ, ◌+◌, ◌<◌, ◌≤◌, length, List, [], ◌∷◌, ◌++◌, set, get_or, Bool, true, false, refl, sym, ◌∙◌, ap, subst, arith, append-nil, append_assoc, Option, inl, inr}
use Rattle.std.specs.Prelude.{◌⊎◌, Result, Ok, Err, IfErr, Some, None}
use Rattle.store_api.specs.View.{View, Content, Meters}
use Rattle.store_api.specs.Frames.{HasCause, OnlyCounts, Spends, Stores, never_full}
use Rattle.store_api.specs.declared.answers.StoreAnswer.{StoreAnswer}
use Rattle.store_api.specs.declared.answers.StoreAnswer.TheVariants.{Failed, Damaged, Full, Memory as NoMemory}
use Rattle.journal_model.specs.declared.journal.Entry.{Entry}
use Rattle.journal_model.specs.declared.journal.Entry.TheVariants as entry
use Rattle.dby_types.specs.declared.number.TxnNo.{TxnNo}
use Rattle.dby_types.specs.declared.number.Damage.{Damage}
use Rattle.dby_types.specs.declared.state.SqlState.{SqlState}
use Rattle.dby_types.specs.declared.state.SqlState.TheVariants as state
use Rattle.session_engine.specs.declared.session.Session.{Session}
use Rattle.session_engine.specs.declared.step.Event.{Event}
use Rattle.session_engine.specs.declared.step.Event.TheVariants.{Begin, Rollback}
use Rattle.session_engine.specs.declared.step.Event.TheVariants as event
use Rattle.session_engine.specs.declared.step.Stop.{Stop}
use Rattle.session_engine.specs.declared.step.Step.{Step}
use Rattle.session_engine.specs.declared.step.Step.TheVariants.{Went, Blocked, Answered, Ended, Stopped, Memory}
use Rattle.session_engine.specs.declared.session.Phase.{Phase}
use Rattle.session_engine.specs.declared.session.Phase.TheVariants.{Idle, Resting, Asking, Preparing, Claiming, Working, Refusing, Committing, Forcing, Acknowledging, Leaving}
use Rattle.session_engine.specs.State.{State, Holds, PhaseHolds, scripts_of, world_of}
use Rattle.session_engine.proofs.StepLemmas.{own_session, phase_at}
use Rattle.session_model.specs.World.{World, Txn, opening, replay}
use Rattle.table_model.specs.Tables.{no_tables}
use Rattle.lock_modes.specs.Lock.{Lock}
use Rattle.journal_model.proofs.BaseLemmas.{at_same}
use Rattle.journal_model.specs.declared.journal.Refusal.{Refusal}
use Rattle.sql_ast.specs.declared.statement.Statement.{Statement}
use Rattle.dby_types.specs.declared.number.ConnNo.{ConnNo}
use Rattle.dby_types.specs.declared.number.Level.{Level}
use Rattle.session_engine.specs.Stepped.{Grows, HaltsFor, HasStopped, NotEnded, Refuses, Shows, IsHalt, IsOwn, IsTold, stop_after, least_of, most_of, comes_in, comes_with, is_told, is_end, may_fail, either, IsNoted, IsFinished, KeepsFor}
use Rattle.session_engine.proofs.MoveLemmas.{scripts_same}

-- the scripts stay
pub kept_scripts : (ss : List Session) (k : ℕ) (r s' : Session) → r ≡ get_or ss k r → s'.script ≡ r.script → scripts_of (set ss k s') ≡ scripts_of ss
kept_scripts ss k r s' at same = scripts_same ss k s' r (same ∙ ap (λ (s : Session). s.script) at)

-- NO ENTRY
pub grows_none : (c : ℕ) (result : Step) (es es' : List Entry) → least_of result ≡ 0 → es' ≡ es → Grows c result es es'
grows_none c result es es' none same = record { added = []; at_end = same ∙ sym (append-nil es); few = omega arith; least = omega (arith, none); kinds = tt; own = tt }

-- of a step that may have stopped
least_noted : (ev : Event) (result : Step) → IsNoted ev result → least_of (Went ev) ≡ 0 → least_of result ≡ 0
least_noted ev (Went x) is none = ap (λ y. least_of (Went y)) is ∙ none
least_noted ev (Stopped s) is none = refl
least_noted ev (Blocked why) is none = absurd is
least_noted ev Answered is none = absurd is
least_noted ev Ended is none = absurd is
least_noted ev Memory is none = absurd is

pub grows_nothing : (c : ℕ) (ev : Event) (result : Step) (es es' : List Entry) → IsNoted ev result → least_of (Went ev) ≡ 0 → es' ≡ es → Grows c result es es'
grows_nothing c ev result es es' is none same = grows_none c result es es' (least_noted ev result is none) same

-- of one that has stopped
pub halted : (result : Step) → IsHalt result → least_of result ≡ 0
halted (Stopped s) is = refl
halted (Went x) is = absurd is
halted (Blocked why) is = absurd is
halted Answered is = absurd is
halted Ended is = absurd is
halted Memory is = absurd is

pub grows_halted : (c : ℕ) (result : Step) (es es' : List Entry) → IsHalt result → es' ≡ es → Grows c result es es'
grows_halted c result es es' is same = grows_none c result es es' (halted result is) same

pub halt_goes : (result : Step) → IsHalt result → NotEnded result
halt_goes (Stopped s) is = tt
halt_goes (Went x) is = tt
halt_goes (Blocked why) is = tt
halt_goes Answered is = tt
halt_goes Ended is = absurd is
halt_goes Memory is = tt

at_least : (result : Step) → 1 ≤ most_of result
at_least (Went event.Begin) = omega arith
at_least (Went event.Prepare) = omega arith
at_least (Went event.Fix) = omega arith
at_least (Went event.LetGo) = omega arith
at_least (Went event.Lock) = omega arith
at_least (Went event.Enqueue) = omega arith
at_least (Went event.Woken) = omega arith
at_least (Went event.Read) = omega arith
at_least (Went event.Change) = omega arith
at_least (Went event.Undo) = omega arith
at_least (Went event.Rollback) = omega arith
at_least (Went event.Finish) = omega arith
at_least (Went event.Append) = omega arith
at_least (Went event.Force) = omega arith
at_least (Went event.Acknowledge) = omega arith
at_least (Blocked why) = omega arith
at_least Answered = omega arith
at_least Ended = omega arith
at_least (Stopped s) = omega arith
at_least Memory = omega arith

at_most_one : (result : Step) → least_of result ≤ 1
at_most_one (Went event.Begin) = omega arith
at_most_one (Went event.Prepare) = omega arith
at_most_one (Went event.Fix) = omega arith
at_most_one (Went event.LetGo) = omega arith
at_most_one (Went event.Lock) = omega arith
at_most_one (Went event.Enqueue) = omega arith
at_most_one (Went event.Woken) = omega arith
at_most_one (Went event.Read) = omega arith
at_most_one (Went event.Change) = omega arith
at_most_one (Went event.Undo) = omega arith
at_most_one (Went event.Rollback) = omega arith
at_most_one (Went event.Finish) = omega arith
at_most_one (Went event.Append) = omega arith
at_most_one (Went event.Force) = omega arith
at_most_one (Went event.Acknowledge) = omega arith
at_most_one (Blocked why) = omega arith
at_most_one Answered = omega arith
at_most_one Ended = omega arith
at_most_one (Stopped s) = omega arith
at_most_one Memory = omega arith

-- who has a transaction
abbrev pub is_busy : Phase → Bool
is_busy Idle = false
is_busy _ = true

busy_conn : (p : Phase) (w : World) (l : Lock) (v : View) (last c : ℕ) (r : Session) → is_busy p ≡ true → PhaseHolds p w l v last c r → (w.txns r.txn.0).conn ≡ c
busy_conn Idle w l v last c r busy h = absurd (let x : false ≡ true = busy in cc)
busy_conn Resting w l v last c r busy h = h.0.conn
busy_conn Asking w l v last c r busy h = h.0.conn
busy_conn Preparing w l v last c r busy h = h.0.conn
busy_conn Claiming w l v last c r busy h = h.0.conn
busy_conn Working w l v last c r busy h = h.0.conn
busy_conn Refusing w l v last c r busy h = h.0.conn
busy_conn Committing w l v last c r busy h = h.0.conn
busy_conn Forcing w l v last c r busy h = h.0.conn
busy_conn Acknowledging w l v last c r busy h = h.0.conn
busy_conn Leaving w l v last c r busy h = h.0.conn

-- the world before an entry is one in which its transaction is the connection's
pub own_conn : (st : State) (last k : ℕ) (r : Session) (p : Phase) → k < length st.ss → r ≡ get_or st.ss k r → r.phase ≡ p → is_busy p ≡ true → Holds st last → ((replay (opening no_tables) st.es).txns r.txn.0).conn ≡ k + 1
own_conn st last k r p lt at is busy ok = busy_conn p (world_of st.es) st.lock st.view last (k + 1) r busy (phase_at p (world_of st.es) st.lock st.view last (k + 1) r is (own_session st last k r lt at ok))

-- ONE ENTRY
pub grows_one : (c : ℕ) (result : Step) (es es' : List Entry) (e : Entry) → es' ≡ es ++ e ∷ [] → comes_in result e ≡ true → IsOwn c (replay (opening no_tables) es) e → Grows c result es es'
grows_one c result es es' e same comes own = record { added = e ∷ []; at_end = same; few = at_least result; least = at_most_one result; kinds = (comes, tt); own = (own, tt) }

-- of a step that may have stopped
comes_noted : (ev : Event) (result : Step) (e : Entry) → IsNoted ev result → comes_with ev e ≡ true → may_fail e ≡ true → comes_in result e ≡ true
comes_noted ev (Went x) e is comes fails = ap (λ (y : Event). comes_with y e) is ∙ comes
comes_noted ev (Stopped s) e is comes fails = fails
comes_noted ev (Blocked why) e is comes fails = absurd is
comes_noted ev Answered e is comes fails = absurd is
comes_noted ev Ended e is comes fails = absurd is
comes_noted ev Memory e is comes fails = absurd is

pub grows_noted : (c : ℕ) (ev : Event) (result : Step) (es es' : List Entry) (e : Entry) → IsNoted ev result → comes_with ev e ≡ true → may_fail e ≡ true → es' ≡ es ++ e ∷ [] → IsOwn c (replay (opening no_tables) es) e → Grows c result es es'
grows_noted c ev result es es' e is comes fails same own = grows_one c result es es' e same (comes_noted ev result e is comes fails) own

-- of a statement's answer
either_left : (a b : Bool) → a ≡ true → either a b ≡ true
either_left true b e = refl
either_left false b e = absurd (let x : false ≡ true = e in cc)

either_right : (a b : Bool) → b ≡ true → either a b ≡ true
either_right true b e = refl
either_right false b e = e

comes_finished : (result : Step) (e : Entry) → IsFinished result → is_told e ≡ true → comes_in result e ≡ true
comes_finished Answered e is told = either_left (is_told e) (is_end e) told
comes_finished (Went x) e is told = ap (λ (y : Event). comes_with y e) is ∙ told
comes_finished (Stopped s) e is told = absurd is
comes_finished (Blocked why) e is told = absurd is
comes_finished Ended e is told = absurd is
comes_finished Memory e is told = absurd is

pub grows_finished : (c : ℕ) (result : Step) (es es' : List Entry) (e : Entry) → IsFinished result → is_told e ≡ true → es' ≡ es ++ e ∷ [] → IsOwn c (replay (opening no_tables) es) e → Grows c result es es'
grows_finished c result es es' e is told same own = grows_one c result es es' e same (comes_finished result e is told) own

-- of a rollback
comes_told : (t : TxnNo) (step result : Step) → IsNoted Rollback step → IsTold step result → comes_in result (entry.RolledBack t) ≡ true
comes_told t (Went x) Answered noted is = refl
comes_told t (Went x) (Went y) noted is = ap (λ (z : Event). comes_with z (entry.RolledBack t)) is
comes_told t (Stopped s) (Stopped r) noted is = refl
comes_told t (Went x) (Blocked why) noted is = absurd is
comes_told t (Went x) Ended noted is = absurd is
comes_told t (Went x) (Stopped r) noted is = absurd is
comes_told t (Went x) Memory noted is = absurd is
comes_told t (Stopped s) (Went x) noted is = absurd is
comes_told t (Stopped s) (Blocked why) noted is = absurd is
comes_told t (Stopped s) Answered noted is = absurd is
comes_told t (Stopped s) Ended noted is = absurd is
comes_told t (Stopped s) Memory noted is = absurd is
comes_told t (Blocked why) result noted is = absurd noted
comes_told t Answered result noted is = absurd noted
comes_told t Ended result noted is = absurd noted
comes_told t Memory result noted is = absurd noted

pub grows_told : (c : ℕ) (t : TxnNo) (step result : Step) (es es' : List Entry) → IsNoted Rollback step → IsTold step result → es' ≡ es ++ entry.RolledBack t ∷ [] → ((replay (opening no_tables) es).txns t.0).conn ≡ c → Grows c result es es'
grows_told c t step result es es' noted is same own = grows_one c result es es' (entry.RolledBack t) same (comes_told t step result noted is) own

-- TWO ENTRIES, of a statement that is refused as it begins
pub grows_two : (c : ℕ) (es es' es'' : List Entry) (t : TxnNo) (k : ConnNo) (l : Level) (text : Statement) (why : Refusal) → es' ≡ es ++ entry.Started t k l text ∷ [] → es'' ≡ es' ++ entry.Refused t why ∷ [] → k.0 ≡ c → Grows c (Went Begin) es es''
grows_two c es es' es'' t k l text why first second own = record {
  added = entry.Started t k l text ∷ entry.Refused t why ∷ [];
  at_end = second ∙ ap (λ xs. xs ++ entry.Refused t why ∷ []) first ∙ append_assoc es (entry.Started t k l text ∷ []) (entry.Refused t why ∷ []);
  few = omega arith;
  least = omega arith;
  kinds = (refl, (refl, tt));
  own = (own, (ap (λ (x : Txn). x.conn) (at_same (replay (opening no_tables) es).txns t.0 _) ∙ own, tt));
}

-- HOW A STEP ENDS
pub stops_finished : (result : Step) (old : Option Stop) → IsFinished result → stop_after result old ≡ old
stops_finished Answered old is = refl
stops_finished (Went x) old is = refl
stops_finished (Stopped s) old is = absurd is
stops_finished (Blocked why) old is = refl
stops_finished Ended old is = refl
stops_finished Memory old is = refl

pub cause_finished : (result : Step) (v : View) → IsFinished result → HasStopped result v
cause_finished Answered v is = tt
cause_finished (Went x) v is = tt
cause_finished (Stopped s) v is = absurd is
cause_finished (Blocked why) v is = tt
cause_finished Ended v is = tt
cause_finished Memory v is = tt

pub goes_finished : (result : Step) → IsFinished result → NotEnded result
goes_finished Answered is = tt
goes_finished (Went x) is = tt
goes_finished (Stopped s) is = tt
goes_finished (Blocked why) is = tt
goes_finished Ended is = absurd is
goes_finished Memory is = tt

pub goes_noted : (ev : Event) (result : Step) → IsNoted ev result → NotEnded result
goes_noted ev (Went x) is = tt
goes_noted ev (Stopped s) is = tt
goes_noted ev (Blocked why) is = tt
goes_noted ev Answered is = tt
goes_noted ev Ended is = absurd is
goes_noted ev Memory is = tt

pub stops_told : (step result : Step) (old : Option Stop) → IsNoted Rollback step → IsTold step result → stop_after result old ≡ stop_after step old
stops_told (Went x) Answered old noted is = refl
stops_told (Went x) (Went y) old noted is = refl
stops_told (Went x) (Blocked why) old noted is = refl
stops_told (Went x) Ended old noted is = refl
stops_told (Went x) (Stopped r) old noted is = absurd is
stops_told (Went x) Memory old noted is = refl
stops_told (Stopped s) (Stopped r) old noted is = ap Some is
stops_told (Stopped s) (Went x) old noted is = absurd is
stops_told (Stopped s) (Blocked why) old noted is = absurd is
stops_told (Stopped s) Answered old noted is = absurd is
stops_told (Stopped s) Ended old noted is = absurd is
stops_told (Stopped s) Memory old noted is = absurd is
stops_told (Blocked why) result old noted is = absurd noted
stops_told Answered result old noted is = absurd noted
stops_told Ended result old noted is = absurd noted
stops_told Memory result old noted is = absurd noted

pub cause_told : (step result : Step) (v : View) → IsTold step result → HasStopped step v → HasStopped result v
cause_told (Stopped s) (Stopped r) v is h = subst (λ (x : Stop). Shows x v) (sym is) h
cause_told step Answered v is h = tt
cause_told step (Went y) v is h = tt
cause_told step (Blocked why) v is h = tt
cause_told step Ended v is h = tt
cause_told step Memory v is h = tt
cause_told (Went x) (Stopped r) v is h = absurd is
cause_told (Blocked why) (Stopped r) v is h = absurd is
cause_told Answered (Stopped r) v is h = absurd is
cause_told Ended (Stopped r) v is h = absurd is
cause_told Memory (Stopped r) v is h = absurd is

pub goes_told : (step result : Step) → IsNoted Rollback step → IsTold step result → NotEnded result
goes_told step (Went x) noted is = tt
goes_told step (Stopped s) noted is = tt
goes_told step (Blocked why) noted is = tt
goes_told step Answered noted is = tt
goes_told step Memory noted is = tt
goes_told (Went x) Ended noted is = absurd is
goes_told (Stopped x) Ended noted is = absurd is
goes_told (Blocked why) Ended noted is = absurd noted
goes_told Answered Ended noted is = absurd noted
goes_told Ended Ended noted is = absurd noted
goes_told Memory Ended noted is = absurd noted

-- WHY: an answer Failed or Damaged is one that the store keeps
pub keeps_for : (memory : Type 0) (full : SqlState → Type 0) (damaged : Damage → Type 0) (left : Content) (old new : View) (e : StoreAnswer) → HasCause memory full damaged left old new e → KeepsFor new e
keeps_for memory full damaged left old new Failed h = elim h.0 [ inl k ↦ ap (λ (m : Meters). m.keeps) k.meters_same ∙ k.kept | inr f ↦ ap (λ (m : Meters). m.keeps) f.meters_are ]
keeps_for memory full damaged left old new (Damaged d) h = elim h.0 [ inl k ↦ ap (λ (m : Meters). m.keeps) k.meters_same ∙ k.kept | inr f ↦ ap (λ (m : Meters). m.keeps) f.1.meters_are ]
keeps_for memory full damaged left old new (Full state) h = tt
keeps_for memory full damaged left old new NoMemory h = tt

pub keeps_in : {T : Type 0} (memory : Type 0) (full : SqlState → Type 0) (damaged : Damage → Type 0) (left : Content) (old new : View) (result : Result T StoreAnswer) → IfErr result (HasCause memory full damaged left old new) → IfErr result (KeepsFor new)
keeps_in memory full damaged left old new (Ok x) h = tt
keeps_in memory full damaged left old new (Err e) h = keeps_for memory full damaged left old new e h

-- .. never that it is full, and memory is free, or not wanting
pub refuses_for : (memory : Type 0) (damaged : Damage → Type 0) (left : Content) (old new : View) (e : StoreAnswer) → HasCause memory never_full damaged left old new e → Refuses new e
refuses_for memory damaged left old new Failed h = keeps_for memory never_full damaged left old new Failed h
refuses_for memory damaged left old new (Damaged d) h = keeps_for memory never_full damaged left old new (Damaged d) h
refuses_for memory damaged left old new (Full state) h = absurd h.0
refuses_for memory damaged left old new NoMemory h = tt

pub refuses_sure : (damaged : Damage → Type 0) (left : Content) (old new : View) (e : StoreAnswer) → HasCause ⊥ never_full damaged left old new e → Refuses new e
refuses_sure damaged left old new e h = refuses_for ⊥ damaged left old new e h

pub refuses_held : (content : Content) (old new : View) (e : StoreAnswer) → Stores old new content → (e ≡ NoMemory) ⊎ (new.meters.keeps ≡ Some e) → Refuses new e
refuses_held content old new e stores h = elim h [
  | inl none ↦ subst (Refuses new) (sym none) tt
  | inr k ↦ absurd (let x : None ≡ Some e = sym stores.well.keeps_none ∙ sym (ap (λ (m : Meters). m.keeps) stores.well.meters_same) ∙ k in cc)
]

pub halts_for : (damaged : Damage → Type 0) (left : Content) (old new : View) (e : StoreAnswer) → HasCause ⊥ never_full damaged left old new e → HaltsFor new e
halts_for damaged left old new Failed h = keeps_for ⊥ never_full damaged left old new Failed h
halts_for damaged left old new (Damaged d) h = keeps_for ⊥ never_full damaged left old new (Damaged d) h
halts_for damaged left old new (Full state) h = absurd h.0
halts_for damaged left old new NoMemory h = absurd h.0

pub halts_but : (v : View) (e : StoreAnswer) → e ≢ NoMemory → Refuses v e → HaltsFor v e
halts_but v Failed ne h = h
halts_but v (Damaged d) ne h = h
halts_but v (Full state) ne h = h
halts_but v NoMemory ne h = absurd (ne refl)

-- one that isn't full
pub refuses_full : (v : View) (e : StoreAnswer) → ((s : SqlState) → e ≢ Full s) → KeepsFor v e → Refuses v e
refuses_full v Failed ne h = h
refuses_full v (Damaged d) ne h = h
refuses_full v (Full state) ne h = absurd (ne state refl)
refuses_full v NoMemory ne h = tt

pub halts_open : (v : View) (e : StoreAnswer) → ((s : SqlState) → e ≢ Full s) → e ≢ NoMemory → KeepsFor v e → HaltsFor v e
halts_open v e full ne h = halts_but v e ne (refuses_full v e full h)

-- a store is full of pages or of log
spends : (s : SqlState) (old new : Meters) → s ≢ state.PagesSpent → s ≢ state.LogSpent → Spends s old new → ⊥
spends state.Deadlock old new pages log h = h
spends state.DuplicateKey old new pages log h = h
spends state.NullNotAllowed old new pages log h = h
spends state.TextTooLong old new pages log h = h
spends state.OutOfRange old new pages log h = h
spends state.DivisionByZero old new pages log h = h
spends (state.Syntax at) old new pages log h = h
spends state.NoTable old new pages log h = h
spends state.NoColumn old new pages log h = h
spends state.AmbiguousColumn old new pages log h = h
spends state.NotInTarget old new pages log h = h
spends state.ValueCount old new pages log h = h
spends state.NotComparable old new pages log h = h
spends state.NotStorable old new pages log h = h
spends state.NameExists old new pages log h = h
spends state.NothingToDrop old new pages log h = h
spends state.NoParent old new pages log h = h
spends state.CheckFails old new pages log h = h
spends state.NotBuilt old new pages log h = h
spends state.PagesSpent old new pages log h = absurd (pages refl)
spends state.LogSpent old new pages log h = absurd (log refl)
spends state.TooLarge old new pages log h = h
spends state.StatementTooLong old new pages log h = h
spends state.NameTwice old new pages log h = h
spends state.Grouping old new pages log h = h
spends state.WrongOperand old new pages log h = h
spends state.SecondPrimaryKey old new pages log h = h
spends state.CursorState old new pages log h = h
spends state.CursorQuery old new pages log h = h
spends state.CursorsSpent old new pages log h = h
spends state.CursorOpen old new pages log h = h
spends state.NoParentKey old new pages log h = h
spends state.IsParent old new pages log h = h
spends state.CheckTooLong old new pages log h = h

pub spends_both : (s : SqlState) (old new : View) → s ≢ state.PagesSpent → s ≢ state.LogSpent → OnlyCounts s old new → ⊥
spends_both s old new pages log h = spends s old.meters new.meters pages log h.counted

pub keeps_held : (v : View) (e : StoreAnswer) → (e ≡ NoMemory) ⊎ (v.meters.keeps ≡ Some e) → KeepsFor v e
keeps_held v Failed h = elim h [ inl none ↦ (let x : Failed ≡ NoMemory = none in cc) | inr k ↦ k ]
keeps_held v (Damaged d) h = elim h [ inl none ↦ (let x : Damaged d ≡ NoMemory = none in cc) | inr k ↦ k ]
keeps_held v (Full state) h = tt
keeps_held v NoMemory h = tt

-- A statement is told: answered or refused.
use Rattle.std.proofs.Common.{◌≡◌, ◌≢◌, ℕ, zero, suc, ◌+◌, ◌<◌, ◌≤◌, List, [], ◌∷◌, ◌++◌, length, map, set, get_or, reverse, length-append, Bool, true, false, refl, sym, ◌∙◌, ap, subst, arith, inl, inr, Option, Some, None}
use Rattle.std.specs.Prelude.{◌&&◌, ◌||◌, IsTrue, if◌then◌else◌}
use Rattle.std.proofs.lemmas.List.{get_or-set_same}
use Rattle.std.proofs.Math.ListN.{length-set}
use Rattle.std.proofs.lemmas.Bool.{both_ways, and_parts}
use Rattle.dby_types.specs.declared.answer.Answer.{Answer}
use Rattle.dby_types.specs.declared.answer.Component.{Component}
use Rattle.dby_types.specs.declared.state.SqlState.TheVariants as state
use Rattle.dby_types.specs.declared.number.TxnNo.{TxnNo}
use Rattle.lock_modes.specs.Lock.{Lock}
use Rattle.lock_modes.specs.Waits.{waiting}
use Rattle.sql_lexer.specs.Splitting.{spans_of}
use Rattle.sql_commands.specs.declared.command.Command.{Command}
use Rattle.sql_commands.specs.declared.command.Command.TheVariants as command
use Rattle.sql_forms.specs.declared.form.Form.TheVariants.{CreateTable, Insert, Select}
use Rattle.table_model.specs.Tables.{Tables, Made, laid_over, no_tables}
use Rattle.store_api.specs.declared.slot.Item.{Item}
use Rattle.store_api.specs.View.{View, Content, changes_in}
use Rattle.journal_model.specs.declared.journal.Entry.TheVariants as entry
use Rattle.journal_model.specs.declared.journal.Refusal.{Refusal}
use Rattle.journal_model.specs.declared.journal.Refusal.TheVariants.{Sql, Memory}
use Rattle.journal_model.proofs.BaseLemmas.{at_same, at_other}
use Rattle.session_model.specs.declared.order.Order.{Order}
use Rattle.session_model.specs.declared.order.Order.TheVariants as ordered
use Rattle.session_model.specs.Orders.{order_of, told_of, Passes, PassesOrder}
use Rattle.session_model.specs.World.{ends_if, World, Txn, Conn, Stage, said, denied, pin_of, resting, committing, leaving, running, apply, opening, after_answered, after_refused, wants_log, set_conn, seen, is_untold, is_ended, is_returnable}
use Rattle.session_model.specs.Legal.{view as view_at, AnswerMeets, Owes, HasEvidence, NullInOrder, IsMeant, is_lasting, is_owed}
use Rattle.session_model.specs.Places.{Relies, locks_of}
use Rattle.session_model.proofs.BaseLemmas.{count_is}
use Rattle.session_model.proofs.EntryLemmas.{quiet_others, answered_kept, refused_kept}
use Rattle.session_engine.specs.declared.session.Phase.{Phase}
use Rattle.session_engine.specs.declared.session.Phase.TheVariants.{Idle, Resting, Asking, Preparing, Claiming, Working, Refusing, Committing, Forcing, Acknowledging, Leaving}
use Rattle.session_engine.specs.declared.session.Plan.{Plan}
use Rattle.session_engine.specs.declared.session.Plan.TheVariants as plan
use Rattle.session_engine.specs.declared.session.Session.{Session}
use Rattle.session_engine.specs.Follows.{Follows, level_set, automatic_set}
use Rattle.session_engine.specs.State.{MakesAlone, State, Holds, SessionHolds, Busy, Commands, Refuses, RefusesFor, Works, Stands, Mirrors, Reflects, PhaseHolds, IsStage, IsShown, WaitsNot, IsOpened, IsUnchanged, HaveSlots, ends_in, opens, world_of, txn_of}
use Rattle.session_engine.proofs.ListedLemmas.{quiet_catalog}
use Rattle.session_engine.proofs.MoveLemmas.{store_holds, entered}
use Rattle.session_engine.proofs.StepLemmas.{own_session, phase_at, stepping}
use Rattle.session_engine.proofs.EndLemmas.{conn_at, at_conn, mirrors_nil, refuses_pages}

follows_stage : (p : Phase) (x : Stage) → Follows p x → IsStage p x
follows_stage Idle x h = h
follows_stage Resting x h = h
follows_stage Asking x h = absurd h
follows_stage Preparing x h = absurd h
follows_stage Claiming x h = absurd h
follows_stage Working x h = absurd h
follows_stage Refusing x h = absurd h
follows_stage Committing x h = h
follows_stage Forcing x h = absurd h
follows_stage Acknowledging x h = absurd h
follows_stage Leaving x h = ap is_returnable h

follows_phase : (p : Phase) (w : World) (l : Lock) (v : View) (last c : ℕ) (s : Session) → Follows p (w.txns (txn_of s)).stage → Busy w l v last c s → WaitsNot s → IsOpened s → PhaseHolds p w l v last c s
follows_phase Idle w l v last c s h b q o = absurd h
follows_phase Resting w l v last c s h b q o = (b, q, o)
follows_phase Asking w l v last c s h b q o = absurd h
follows_phase Preparing w l v last c s h b q o = absurd h
follows_phase Claiming w l v last c s h b q o = absurd h
follows_phase Working w l v last c s h b q o = absurd h
follows_phase Refusing w l v last c s h b q o = absurd h
follows_phase Committing w l v last c s h b q o = (b, q, o)
follows_phase Forcing w l v last c s h b q o = absurd h
follows_phase Acknowledging w l v last c s h b q o = absurd h
follows_phase Leaving w l v last c s h b q o = (b, q, λ live. h)

-- a session's part, where its transaction's number is known
pub record BusyWith (w : World) (l : Lock) (v : View) (last c : ℕ) (s : Session) (t : TxnNo) : Type 0 where
  pub stage : IsStage s.phase (w.txns t.0).stage
  pub conn : (w.txns t.0).conn ≡ c
  pub mine : (w.conns c).txn ≡ Some t.0
  pub positive : 1 ≤ t.0
  pub numbered : t.0 ≤ last
  pub numbers : map (λ m. m.number) (w.txns t.0).changes ≡ reverse s.made.items
  pub reflects : Reflects s.opened (v.content.changes t.0) (w.txns t.0).changes
  pub slots : HaveSlots v (w.txns t.0).changes
  pub containers : MakesAlone w.committed l t.0 (changes_in (v.content.changes t.0)) (w.txns t.0).changes
  pub idle : s.queued ≡ false → waiting l t ≡ None

pub busy_at : (w : World) (l : Lock) (v : View) (last c : ℕ) (s : Session) (t : TxnNo) → s.txn ≡ t → BusyWith w l v last c s t → Busy w l v last c s
busy_at w l v last c s t e h =
    let k : BusyWith w l v last c s s.txn = subst (BusyWith w l v last c s) (sym e) h in
    record { stage = k.stage; conn = k.conn; mine = k.mine; positive = k.positive; numbered = k.numbered; numbers = k.numbers; reflects = k.reflects; slots = k.slots; containers = k.containers; idle = k.idle }

untold_open : (x : Stage) → is_untold x ≡ true → is_ended x ≡ false
untold_open x h = grind arith

-- an answer sets a connection's level and autocommit alone
set_begun : (o : Option Order) (k : Conn) → (set_conn o k).begun ≡ k.begun
set_begun None k = refl
set_begun (Some (ordered.Form f)) k = refl
set_begun (Some (ordered.Command command.Commit)) k = refl
set_begun (Some (ordered.Command command.Rollback)) k = refl
set_begun (Some (ordered.Command (command.Autocommit on))) k = refl
set_begun (Some (ordered.Command (command.SetIsolation level))) k = refl

set_txn : (o : Option Order) (k : Conn) → (set_conn o k).txn ≡ k.txn
set_txn None k = refl
set_txn (Some (ordered.Form f)) k = refl
set_txn (Some (ordered.Command command.Commit)) k = refl
set_txn (Some (ordered.Command command.Rollback)) k = refl
set_txn (Some (ordered.Command (command.Autocommit on))) k = refl
set_txn (Some (ordered.Command (command.SetIsolation level))) k = refl

set_closed : (o : Option Order) (k : Conn) → (set_conn o k).closed ≡ k.closed
set_closed None k = refl
set_closed (Some (ordered.Form f)) k = refl
set_closed (Some (ordered.Command command.Commit)) k = refl
set_closed (Some (ordered.Command command.Rollback)) k = refl
set_closed (Some (ordered.Command (command.Autocommit on))) k = refl
set_closed (Some (ordered.Command (command.SetIsolation level))) k = refl

pub answers : (st : State) (last k : ℕ) (r s' : Session) (answer : Answer) (joined : List (List Component)) (from to : ℕ)
    → k < length st.ss → r ≡ get_or st.ss k r → r.phase ≡ Working
    → Follows s'.phase (after_answered (order_of ((world_of st.es).txns (txn_of r)).text) r.automatic ((world_of st.es).txns (txn_of r)).first)
    → s'.level ≡ (set_conn (order_of ((world_of st.es).txns (txn_of r)).text) ((world_of st.es).conns (k + 1))).level
    → s'.automatic ≡ (set_conn (order_of ((world_of st.es).txns (txn_of r)).text) ((world_of st.es).conns (k + 1))).automatic
    → s'.txn ≡ r.txn → s'.script ≡ r.script → s'.spans ≡ r.spans → s'.begun ≡ r.begun → s'.closed ≡ r.closed → s'.opened ≡ r.opened → s'.queued ≡ r.queued → s'.made.items ≡ r.made.items
    → AnswerMeets no_tables st.es (world_of st.es) (txn_of r) answer joined from to → Passes ((world_of st.es).txns (txn_of r)).text (seen (world_of st.es) (txn_of r))
    → (is_owed ((world_of st.es).txns (txn_of r)).level (order_of ((world_of st.es).txns (txn_of r)).text) (said answer) ≡ true
    → Relies (world_of st.es) (locks_of st.lock.grants) (pin_of (txn_of r) ((world_of st.es).txns (txn_of r)) (said answer)))
    → Holds st last
    → Holds (record { es = st.es ++ entry.Answered r.txn answer joined from to ∷ []; ls = st.ls; lock = st.lock; ss = set st.ss k s'; view = st.view; named = st.named }) last
answers st last k r s' answer joined from to lt at is follows level automatic txn script spans begun closed opened queued made meets passes rests ok =
    let w = world_of st.es in
    let l = locks_of st.lock.grants in
    let a = txn_of r in
    let e = entry.Answered r.txn answer joined from to in
    let w' = apply w e in
    let mine = own_session st last k r lt at ok in
    let p = phase_at Working w st.lock st.view last (k + 1) r is mine in
    let busy = p.0 in
    let stage : (w.txns a).stage ≡ running = subst (λ q. IsStage q (w.txns a).stage) is busy.stage in
    let o = order_of (w.txns a).text in
    let same : txn_of s' ≡ a = ap (λ t. t.0) txn in
    let x : w'.txns a ≡ _ = at_same w.txns a _ in
    let kept : w'.conns (k + 1) ≡ set_conn o (w.conns (k + 1)) = conn_at w a (k + 1) _ busy.conn ∙ at_conn w a (k + 1) busy.conn (set_conn o) in
    let automatic_is : (w.conns (w.txns a).conn).automatic ≡ r.automatic = at_conn w a (k + 1) busy.conn (λ y. y.automatic) ∙ mine.automatic in
    let follows' : Follows s'.phase (w'.txns a).stage = subst (Follows s'.phase) (sym (ap (λ (y : Txn). y.stage) x ∙ ap (λ b. after_answered o b (w.txns a).first) automatic_is)) follows in
    let busy' : Busy w' st.lock st.view last (k + 1) s' = busy_at w' st.lock st.view last (k + 1) s' r.txn txn (record {
      stage = follows_stage s'.phase (w'.txns a).stage follows';
      conn = ap (λ (y : Txn). y.conn) x ∙ busy.conn;
      mine = ap (λ (y : Conn). y.txn) kept ∙ set_txn o (w.conns (k + 1)) ∙ busy.mine;
      positive = busy.positive;
      numbered = busy.numbered;
      numbers = ap (λ (y : Txn). map (λ m. m.number) y.changes) x ∙ busy.numbers ∙ ap reverse (sym made);
      reflects = subst (λ b. Reflects b (st.view.content.changes a) (w'.txns a).changes) (sym opened) (subst (λ (y : Txn). Reflects r.opened (st.view.content.changes a) y.changes) (sym x) busy.reflects);
      slots = subst (λ (y : Txn). HaveSlots st.view y.changes) (sym x) busy.slots;
      containers = subst (λ (y : Txn). MakesAlone w.committed st.lock a (changes_in (st.view.content.changes a)) y.changes) (sym x) busy.containers;
      idle = λ q. busy.idle p.1;
    }) in
    let own : SessionHolds w' st.lock st.view last (k + 1) s' = record {
      begun = ap (λ (y : Conn). y.begun) kept ∙ set_begun o (w.conns (k + 1)) ∙ mine.begun ∙ sym begun;
      level = ap (λ (y : Conn). y.level) kept ∙ sym level;
      automatic = ap (λ (y : Conn). y.automatic) kept ∙ sym automatic;
      closed = λ live. ap (λ (y : Conn). y.closed) kept ∙ set_closed o (w.conns (k + 1)) ∙ mine.closed (sym closed ∙ live);
      spans = spans ∙ mine.spans ∙ ap spans_of (sym script);
      phase = follows_phase s'.phase w' st.lock st.view last (k + 1) s' (subst (λ t. Follows s'.phase (w'.txns t).stage) (sym same) follows') busy' (queued ∙ p.1) (opened ∙ p.2);
    } in
    entered st last e a k s' st.view last (record { session = stage; undo = tt; change = tt; refusal = passes }) meets
    (answered_kept r.txn answer joined from to w l stage rests ok.shared)
    (stepping st last w' k r s' st.view lt at busy p.1 (quiet_others a w l w' refl refl refl (λ t ne. at_other w.txns a _ t ne))
    (store_holds l a (k + 1) st.view st.view refl (λ b ne. refl) refl)
    (λ i ne. at_other w.conns (w.txns a).conn _ i (λ e. ne (e ∙ busy.conn))) own (inl same) script (omega arith) ok.last_is ok.given ok.stored
    (quiet_catalog a st.view st.view w w' st.named refl (λ n. refl) refl (λ t ne. at_other w.txns a _ t ne) (inl (ap (λ (y : Txn). y.changes) x)) ok.cataloged)) ok

-- A COMMAND'S ANSWER
pub command_meets : (st : State) (last k : ℕ) (r : Session) (c : Command) (place : ℕ) → place ≡ length st.es → Commands (world_of st.es) st.lock st.view r c
    → AnswerMeets no_tables st.es (world_of st.es) (txn_of r) (told_of c) [] place place
command_meets st last k r c place at h =
    let w = world_of st.es in
    let count : w.count ≡ length st.es = count_is (opening no_tables) st.es ∙ (let n = length st.es in omega arith) in
    let since : (w.txns (txn_of r)).started < w.count = h.runs.since in
    record {
      after = omega (arith, count, since, at);
      order = omega arith;
      within = omega (arith, at);
      own = [];
      changes = h.unchanged;
      owes = subst (λ o. Owes o (view_at no_tables st.es w (txn_of r)) place place (told_of c) [] []) (sym h.order) (record { is_told = refl; unread = refl; none = refl });
    }

pub command_passes : (w : World) (l : Lock) (v : View) (s : Session) (c : Command) → Commands w l v s c → Passes (w.txns (txn_of s)).text (seen w (txn_of s))
command_passes w l v s c h = record { short = h.runs.short; order = subst (λ o. PassesOrder o (seen w (txn_of s))) (sym h.order) h.built }

pub command_rests : (w : World) (l : Lock) (v : View) (s : Session) (c : Command) → Commands w l v s c → Relies w (locks_of l.grants) (pin_of (txn_of s) (w.txns (txn_of s)) (said (told_of c)))
command_rests w l v s c h = record {
  catalog = h.catalog;
  number = 1;
  rows = λ rid. h.catalog 1 rid refl;
  meant = subst (λ o. IsMeant o (w.txns (txn_of s)).text (laid_over (w.txns (txn_of s)).begun w.committed) 1 (said (told_of c)) (w.txns (txn_of s)).begun (w.txns (txn_of s)).changes) (sym h.order) tt;
}

-- A REFUSAL
lasting_shows : (text : List ℕ) (f : Tables) (why : Refusal) → is_lasting (denied why) ≡ true → HasEvidence text f why → Passes text f × NullInOrder (order_of text) f
lasting_shows text f Memory lasts h = absurd (both_ways false refl lasts)
lasting_shows text f (Sql state.NullNotAllowed rows) lasts h = (h.1, h.2)
lasting_shows text f (Sql state.Deadlock rows) lasts h = absurd (both_ways false refl lasts)
lasting_shows text f (Sql state.DuplicateKey rows) lasts h = absurd (both_ways false refl lasts)
lasting_shows text f (Sql state.TextTooLong rows) lasts h = absurd (both_ways false refl lasts)
lasting_shows text f (Sql state.OutOfRange rows) lasts h = absurd (both_ways false refl lasts)
lasting_shows text f (Sql state.DivisionByZero rows) lasts h = absurd (both_ways false refl lasts)
lasting_shows text f (Sql (state.Syntax at) rows) lasts h = absurd (both_ways false refl lasts)
lasting_shows text f (Sql state.NoTable rows) lasts h = absurd (both_ways false refl lasts)
lasting_shows text f (Sql state.NoColumn rows) lasts h = absurd (both_ways false refl lasts)
lasting_shows text f (Sql state.AmbiguousColumn rows) lasts h = absurd (both_ways false refl lasts)
lasting_shows text f (Sql state.NotInTarget rows) lasts h = absurd (both_ways false refl lasts)
lasting_shows text f (Sql state.ValueCount rows) lasts h = absurd (both_ways false refl lasts)
lasting_shows text f (Sql state.NotComparable rows) lasts h = absurd (both_ways false refl lasts)
lasting_shows text f (Sql state.NotStorable rows) lasts h = absurd (both_ways false refl lasts)
lasting_shows text f (Sql state.NameExists rows) lasts h = absurd (both_ways false refl lasts)
lasting_shows text f (Sql state.NothingToDrop rows) lasts h = absurd (both_ways false refl lasts)
lasting_shows text f (Sql state.NoParent rows) lasts h = absurd (both_ways false refl lasts)
lasting_shows text f (Sql state.CheckFails rows) lasts h = absurd (both_ways false refl lasts)
lasting_shows text f (Sql state.NotBuilt rows) lasts h = absurd (both_ways false refl lasts)
lasting_shows text f (Sql state.PagesSpent rows) lasts h = absurd (both_ways false refl lasts)
lasting_shows text f (Sql state.LogSpent rows) lasts h = absurd (both_ways false refl lasts)
lasting_shows text f (Sql state.TooLarge rows) lasts h = absurd (both_ways false refl lasts)
lasting_shows text f (Sql state.StatementTooLong rows) lasts h = absurd (both_ways false refl lasts)
lasting_shows text f (Sql state.NameTwice rows) lasts h = absurd (both_ways false refl lasts)
lasting_shows text f (Sql state.Grouping rows) lasts h = absurd (both_ways false refl lasts)
lasting_shows text f (Sql state.WrongOperand rows) lasts h = absurd (both_ways false refl lasts)
lasting_shows text f (Sql state.SecondPrimaryKey rows) lasts h = absurd (both_ways false refl lasts)
lasting_shows text f (Sql state.CursorState rows) lasts h = absurd (both_ways false refl lasts)
lasting_shows text f (Sql state.CursorQuery rows) lasts h = absurd (both_ways false refl lasts)
lasting_shows text f (Sql state.CursorsSpent rows) lasts h = absurd (both_ways false refl lasts)
lasting_shows text f (Sql state.CursorOpen rows) lasts h = absurd (both_ways false refl lasts)
lasting_shows text f (Sql state.NoParentKey rows) lasts h = absurd (both_ways false refl lasts)
lasting_shows text f (Sql state.IsParent rows) lasts h = absurd (both_ways false refl lasts)
lasting_shows text f (Sql state.CheckTooLong rows) lasts h = absurd (both_ways false refl lasts)

denied_meant : (o : Option Order) (text : List ℕ) (f : Tables) (n : ℕ) (why : Refusal) (before after : List Made) → Passes text f → NullInOrder o f → IsMeant o text f n (denied why) before after
denied_meant None text f n why before after p h = (p, h)
denied_meant (Some (ordered.Command c)) text f n why before after p h = (p, h)
denied_meant (Some (ordered.Form (CreateTable name columns))) text f n why before after p h = (p, h)
denied_meant (Some (ordered.Form (Insert name tuples))) text f n why before after p h = (p, h)
denied_meant (Some (ordered.Form (Select name))) text f n why before after p h = (p, h)

shown_evidence : (w : World) (l : Lock) (s : Session) (why : Refusal) → IsShown w l s why → HasEvidence (w.txns (txn_of s)).text (seen w (txn_of s)) why
shown_evidence w l s why h = elim h [ inl free ↦ free.0 (seen w (txn_of s)) | inr rests ↦ rests.1 ]

shown_rests : (w : World) (l : Lock) (s : Session) (why : Refusal) → IsShown w l s why → is_owed (w.txns (txn_of s)).level (order_of (w.txns (txn_of s)).text) (denied why) ≡ true
    → Relies w (locks_of l.grants) (pin_of (txn_of s) (w.txns (txn_of s)) (denied why))
shown_rests w l s why h owed =
    let lasts : is_lasting (denied why) ≡ true = (and_parts _ _ owed).0 in
    elim h [
      | inl free ↦ absurd (both_ways _ free.1 lasts)
      | inr rests ↦ (let both = lasting_shows (w.txns (txn_of s)).text (seen w (txn_of s)) why lasts rests.1 in record {
        catalog = rests.0;
        number = 1;
        rows = λ rid. rests.0 1 rid refl;
        meant = denied_meant (order_of (w.txns (txn_of s)).text) (w.txns (txn_of s)).text (seen w (txn_of s)) 1 why (w.txns (txn_of s)).begun (w.txns (txn_of s)).changes both.0 both.1;
      })
    ]

-- nothing of its own is left
stands_none : (mark : ℕ) (items : List Item) (x : Txn) → Stands mark items x → length items ≡ mark → x.changes ≡ x.begun
stands_none mark items x h len = go h.own_items h.own h.items_are h.changes_are h.mirrors_own
  where
    go : (oi : List Item) (own : List Made) → items ≡ oi ++ h.base → x.changes ≡ own ++ x.begun → Mirrors oi own → x.changes ≡ x.begun
    go [] own e c m = c ∙ ap (λ y. y ++ x.begun) (mirrors_nil own m)
    go (i ∷ oi) own e c m = (let more = ap length e in let base = h.length_is in let sum = length-append oi h.base in absurd (omega (arith, more, base, len, sum)))

-- whatever the connection was doing
pub denies : (st : State) (last k : ℕ) (r s' : Session) (why : Refusal)
    → k < length st.ss → r ≡ get_or st.ss k r → Busy (world_of st.es) st.lock st.view last (k + 1) r → WaitsNot r → is_untold ((world_of st.es).txns (txn_of r)).stage ≡ true
    → ((world_of st.es).txns (txn_of r)).first ≡ r.first → IsUnchanged (world_of st.es) r → IsShown (world_of st.es) st.lock r why
    → Follows s'.phase (after_refused why r.automatic r.first)
    → s'.level ≡ r.level → s'.automatic ≡ r.automatic → s'.txn ≡ r.txn → s'.script ≡ r.script → s'.spans ≡ r.spans → s'.begun ≡ r.begun → (s'.closed ≡ false → ((world_of st.es).conns (k + 1)).closed ≡ false)
    → s'.opened ≡ r.opened → s'.queued ≡ r.queued → s'.made.items ≡ r.made.items
    → ((w' : World) → Follows s'.phase (w'.txns (txn_of s')).stage → Busy w' st.lock st.view last (k + 1) s' → PhaseHolds s'.phase w' st.lock st.view last (k + 1) s')
    → Holds st last
    → Holds (record { es = st.es ++ entry.Refused r.txn why ∷ []; ls = st.ls; lock = st.lock; ss = set st.ss k s'; view = st.view; named = st.named }) last
denies st last k r s' why lt at busy quiet untold first unchanged shown follows level automatic txn script spans begun closed opened queued made finish ok =
    let w = world_of st.es in
    let l = locks_of st.lock.grants in
    let a = txn_of r in
    let e = entry.Refused r.txn why in
    let w' = apply w e in
    let mine = own_session st last k r lt at ok in
    let open_still : is_ended (w.txns a).stage ≡ false = untold_open (w.txns a).stage untold in
    let same : txn_of s' ≡ a = ap (λ t. t.0) txn in
    let x : w'.txns a ≡ _ = at_same w.txns a _ in
    let automatic_is : (w.conns (w.txns a).conn).automatic ≡ r.automatic = at_conn w a (k + 1) busy.conn (λ y. y.automatic) ∙ mine.automatic in
    let follows' : Follows s'.phase (w'.txns a).stage = subst (Follows s'.phase) (sym (ap (λ (y : Txn). y.stage) x ∙ ap (λ b. after_refused why b (w.txns a).first) automatic_is ∙ ap (after_refused why r.automatic) first)) follows in
    let busy' : Busy w' st.lock st.view last (k + 1) s' = busy_at w' st.lock st.view last (k + 1) s' r.txn txn (record {
      stage = follows_stage s'.phase (w'.txns a).stage follows';
      conn = ap (λ (y : Txn). y.conn) x ∙ busy.conn;
      mine = busy.mine;
      positive = busy.positive;
      numbered = busy.numbered;
      numbers = ap (λ (y : Txn). map (λ m. m.number) y.changes) x ∙ busy.numbers ∙ ap reverse (sym made);
      reflects = subst (λ b. Reflects b (st.view.content.changes a) (w'.txns a).changes) (sym opened) (subst (λ (y : Txn). Reflects r.opened (st.view.content.changes a) y.changes) (sym x) busy.reflects);
      slots = subst (λ (y : Txn). HaveSlots st.view y.changes) (sym x) busy.slots;
      containers = subst (λ (y : Txn). MakesAlone w.committed st.lock a (changes_in (st.view.content.changes a)) y.changes) (sym x) busy.containers;
      idle = λ q. busy.idle quiet;
    }) in
    let own : SessionHolds w' st.lock st.view last (k + 1) s' = record {
      begun = mine.begun ∙ sym begun;
      level = mine.level ∙ sym level;
      automatic = mine.automatic ∙ sym automatic;
      closed = closed;
      spans = spans ∙ mine.spans ∙ ap spans_of (sym script);
      phase = finish w' (subst (λ t. Follows s'.phase (w'.txns t).stage) (sym same) follows') busy';
    } in
    entered st last e a k s' st.view last
    (record { session = untold; undo = unchanged; change = tt; refusal = shown_evidence w st.lock r why shown }) tt
    (refused_kept r.txn why w l open_still (shown_rests w st.lock r why shown) ok.shared)
    (stepping st last w' k r s' st.view lt at busy quiet (quiet_others a w l w' refl refl refl (λ t ne. at_other w.txns a _ t ne))
    (store_holds l a (k + 1) st.view st.view refl (λ b ne. refl) refl)
    (λ i ne. refl) own (inl same) script (omega arith) ok.last_is ok.given ok.stored
    (quiet_catalog a st.view st.view w w' st.named refl (λ n. refl) refl (λ t ne. at_other w.txns a _ t ne) (inl (ap (λ (y : Txn). y.changes) x)) ok.cataloged)) ok

pub refuses : (st : State) (last k : ℕ) (r s' : Session) (why : Refusal)
    → k < length st.ss → r ≡ get_or st.ss k r → r.phase ≡ Refusing → r.plan ≡ plan.Refuse why → length (changes_in (st.view.content.changes (txn_of r))) ≡ r.mark
    → Follows s'.phase (after_refused why r.automatic r.first)
    → s'.level ≡ r.level → s'.automatic ≡ r.automatic
    → s'.txn ≡ r.txn → s'.script ≡ r.script → s'.spans ≡ r.spans → s'.begun ≡ r.begun → s'.closed ≡ r.closed → s'.opened ≡ r.opened → s'.queued ≡ r.queued → s'.made.items ≡ r.made.items
    → Holds st last
    → Holds (record { es = st.es ++ entry.Refused r.txn why ∷ []; ls = st.ls; lock = st.lock; ss = set st.ss k s'; view = st.view; named = st.named }) last
refuses st last k r s' why lt at is planned none_left follows level automatic txn script spans begun closed opened queued made ok =
    let w = world_of st.es in
    let a = txn_of r in
    let mine = own_session st last k r lt at ok in
    let p = phase_at Refusing w st.lock st.view last (k + 1) r is mine in
    let h : Refuses w st.lock st.view r why = subst (RefusesFor w st.lock st.view r) planned p.3 in
    let untold : is_untold (w.txns a).stage ≡ true = subst (λ q. IsStage q (w.txns a).stage) is p.0.stage in
    denies st last k r s' why lt at p.0 p.1 untold h.first (stands_none r.mark (changes_in (st.view.content.changes a)) (w.txns a) h.stands none_left) h.shown follows
    level automatic txn script spans begun (λ live. mine.closed (sym closed ∙ live)) opened queued made
    (λ w' now busy'. follows_phase s'.phase w' st.lock st.view last (k + 1) s' now busy' (queued ∙ p.1) (opened ∙ p.2)) ok

-- a connection that refuses has a refusal, whose own items stand behind those of before it
pub record RefusesWith (w : World) (l : Lock) (v : View) (r : Session) : Type 0 where
  pub why : Refusal
  pub planned : r.plan ≡ plan.Refuse why
  pub refuses : Refuses w l v r why

refusal_in : (p : Plan) (w : World) (l : Lock) (v : View) (r : Session) → r.plan ≡ p → RefusesFor w l v r p → RefusesWith w l v r
refusal_in plan.Nothing w l v r e h = absurd h
refusal_in (plan.Command c) w l v r e h = absurd h
refusal_in (plan.Select scan) w l v r e h = absurd h
refusal_in (plan.Insert fill) w l v r e h = absurd h
refusal_in (plan.Create make) w l v r e h = absurd h
refusal_in (plan.Refuse why) w l v r e h = record { why = why; planned = e; refuses = h }

pub refusal_of : (st : State) (last k : ℕ) (r : Session) → k < length st.ss → r ≡ get_or st.ss k r → r.phase ≡ Refusing → Holds st last → RefusesWith (world_of st.es) st.lock st.view r
refusal_of st last k r lt at is ok = refusal_in r.plan (world_of st.es) st.lock st.view r refl (phase_at Refusing (world_of st.es) st.lock st.view last (k + 1) r is (own_session st last k r lt at ok)).3

stands_length : (mark : ℕ) (items : List Item) (x : Txn) → Stands mark items x → mark ≤ length items
stands_length mark items x h = (let e : length items ≡ length (h.own_items ++ h.base) = ap length h.items_are in let sum = length-append h.own_items h.base in let base = h.length_is in omega (arith, e, sum, base))

-- so there are at least those
pub refusal_mark : (st : State) (last k : ℕ) (r : Session) → k < length st.ss → r ≡ get_or st.ss k r → r.phase ≡ Refusing → Holds st last → r.mark ≤ length (changes_in (st.view.content.changes (txn_of r)))
refusal_mark st last k r lt at is ok = stands_length r.mark _ _ (refusal_of st last k r lt at is ok).refuses.stands

-- and the transaction is open in the store
pub refusal_open : (st : State) (last k : ℕ) (r : Session) → k < length st.ss → r ≡ get_or st.ss k r → r.phase ≡ Refusing → Holds st last → st.view.content.changes (txn_of r) ≢ None
refusal_open st last k r lt at is ok none =
    let p = phase_at Refusing (world_of st.es) st.lock st.view last (k + 1) r is (own_session st last k r lt at ok) in
    let h : Reflects true (st.view.content.changes (txn_of r)) ((world_of st.es).txns (txn_of r)).changes = subst (λ o. Reflects o (st.view.content.changes (txn_of r)) ((world_of st.es).txns (txn_of r)).changes) p.2 p.0.reflects in
    (let e : None ≡ Some h.0 = sym none ∙ h.1 in cc)

-- A COMMAND, whole
command_level : (c : Command) (k : Conn) → (set_conn (Some (ordered.Command c)) k).level ≡ level_set c k.level
command_level command.Commit k = refl
command_level command.Rollback k = refl
command_level (command.Autocommit on) k = refl
command_level (command.SetIsolation level) k = refl

command_automatic : (c : Command) (k : Conn) → (set_conn (Some (ordered.Command c)) k).automatic ≡ automatic_set c k.automatic
command_automatic command.Commit k = refl
command_automatic command.Rollback k = refl
command_automatic (command.Autocommit on) k = refl
command_automatic (command.SetIsolation level) k = refl

command_in : (w : World) (l : Lock) (v : View) (r : Session) (c : Command) (p : Plan) → p ≡ plan.Command c → (k : ℕ) → Works w l v k r p → Commands w l v r c
command_in w l v r c p e k h = subst (Works w l v k r) e h

pub commands : (st : State) (last k place : ℕ) (r : Session) (c : Command) (phase : Phase) → k < length st.ss → r ≡ get_or st.ss k r → r.phase ≡ Working → r.plan ≡ plan.Command c → place ≡ length st.es
    → Follows phase (after_answered (Some (ordered.Command c)) r.automatic r.first) → Holds st last
    → Holds (record {
      es = st.es ++ entry.Answered r.txn (told_of c) [] place place ∷ [];
      ls = st.ls;
      lock = st.lock;
      ss = set st.ss k (record r { phase = phase; level = level_set c r.level; automatic = automatic_set c r.automatic; plan = plan.Nothing });
      view = st.view;
      named = st.named;
    }) last
commands st last k place r c phase lt at is planned here follows ok =
    let w = world_of st.es in
    let mine = own_session st last k r lt at ok in
    let p = phase_at Working w st.lock st.view last (k + 1) r is mine in
    let h : Commands w st.lock st.view r c = command_in w st.lock st.view r c r.plan planned (k + 1) p.3 in
    answers st last k r (record r { phase = phase; level = level_set c r.level; automatic = automatic_set c r.automatic; plan = plan.Nothing }) (told_of c) [] place place lt at is
    (subst (λ o. Follows phase (after_answered o r.automatic (w.txns (txn_of r)).first)) (sym h.order) (subst (λ b. Follows phase (after_answered (Some (ordered.Command c)) r.automatic b)) (sym h.runs.first) follows))
    (ap (level_set c) (sym mine.level) ∙ sym (ap (λ o. (set_conn o (w.conns (k + 1))).level) h.order ∙ command_level c (w.conns (k + 1))))
    (ap (automatic_set c) (sym mine.automatic) ∙ sym (ap (λ o. (set_conn o (w.conns (k + 1))).automatic) h.order ∙ command_automatic c (w.conns (k + 1))))
    refl refl refl refl refl refl refl refl (command_meets st last k r c place here h) (command_passes w st.lock st.view r c h) (λ owed. command_rests w st.lock st.view r c h) ok

pub not_done : IsTrue false → ⊥
not_done h = both_ways false refl h

-- A REFUSAL, whole, behind a look at the store in which nothing of the statement was left
pub set_twice : (ss : List Session) (k : ℕ) (a b : Session) → set (set ss k a) k b ≡ set ss k b
set_twice [] k a b = refl
set_twice (s ∷ ss) zero a b = refl
set_twice (s ∷ ss) (suc k) a b = ap (λ xs. s ∷ xs) (set_twice ss k a b)

pub tells_refusal : (st : State) (last k : ℕ) (r : Session) (why : Refusal) (v' : View) (phase : Phase) (next : Plan)
    → k < length st.ss → r ≡ get_or st.ss k r → r.phase ≡ Refusing → r.plan ≡ plan.Refuse why → length (changes_in (st.view.content.changes (txn_of r))) ≡ r.mark
    → v'.content ≡ st.view.content → ((b : ℕ) → b ≢ k + 1 → v'.actors b ≡ st.view.actors b) → v'.limit ≡ st.view.limit → Follows phase (after_refused why r.automatic r.first) → Holds st last
    → Holds (record { es = st.es ++ entry.Refused r.txn why ∷ []; ls = st.ls; lock = st.lock; ss = set st.ss k (record r { phase = phase; plan = next }); view = v'; named = st.named }) last
tells_refusal st last k r why v' phase next lt at is planned none_left content actors limit follows ok =
    let st1 : State = record { es = st.es; ls = st.ls; lock = st.lock; ss = set st.ss k r; view = v'; named = st.named } in
    let one : Holds st1 last = refuses_pages st last k r why v' lt at is planned content actors limit ok in
    let s' : Session = record r { phase = phase; plan = next } in
    subst (λ ss. Holds (record { es = st.es ++ entry.Refused r.txn why ∷ []; ls = st.ls; lock = st.lock; ss = ss; view = v'; named = st.named }) last) (set_twice st.ss k r s')
    (refuses st1 last k r s' why (subst (λ n. k < n) (sym (length-set st.ss k r)) lt) (sym (get_or-set_same st.ss k r r lt)) is planned
    (ap (λ (d : Content). length (changes_in (d.changes (txn_of r)))) content ∙ none_left) follows refl refl refl refl refl refl refl refl refl refl one)

-- what a connection may still have to put once a refusal is told, and a statement's answer
refused_ends : (b : Bool) (p : Phase) → Follows p (if b then leaving else resting) → ends_in p ≡ 1
refused_ends true Leaving h = refl
refused_ends true Idle h = absurd h
refused_ends true Resting h = (let e : leaving ≡ resting = h in cc)
refused_ends true Asking h = absurd h
refused_ends true Preparing h = absurd h
refused_ends true Claiming h = absurd h
refused_ends true Working h = absurd h
refused_ends true Refusing h = absurd h
refused_ends true Committing h = (let e : leaving ≡ committing = h in cc)
refused_ends true Forcing h = absurd h
refused_ends true Acknowledging h = absurd h
refused_ends false Resting h = refl
refused_ends false Idle h = absurd h
refused_ends false Leaving h = refl
refused_ends false Asking h = absurd h
refused_ends false Preparing h = absurd h
refused_ends false Claiming h = absurd h
refused_ends false Working h = absurd h
refused_ends false Refusing h = absurd h
refused_ends false Committing h = (let e : resting ≡ committing = h in cc)
refused_ends false Forcing h = absurd h
refused_ends false Acknowledging h = absurd h

pub told_ends : (p : Phase) (why : Refusal) (automatic first : Bool) → Follows p (after_refused why automatic first) → ends_in p ≡ 1
told_ends p why automatic first h = refused_ends (automatic || (wants_log why && first)) p h

pub told_opens : (p : Phase) (x : Stage) → Follows p x → opens p ≡ 1
told_opens Idle x h = absurd h
told_opens Resting x h = refl
told_opens Asking x h = absurd h
told_opens Preparing x h = absurd h
told_opens Claiming x h = absurd h
told_opens Working x h = absurd h
told_opens Refusing x h = absurd h
told_opens Committing x h = refl
told_opens Forcing x h = absurd h
told_opens Acknowledging x h = absurd h
told_opens Leaving x h = refl

pub told_at_most : (p : Phase) (x : Stage) → Follows p x → ends_in p ≤ 2
told_at_most Idle x h = absurd h
told_at_most Resting x h = omega arith
told_at_most Asking x h = absurd h
told_at_most Preparing x h = absurd h
told_at_most Claiming x h = absurd h
told_at_most Working x h = absurd h
told_at_most Refusing x h = absurd h
told_at_most Committing x h = omega arith
told_at_most Forcing x h = absurd h
told_at_most Acknowledging x h = absurd h
told_at_most Leaving x h = omega arith

-- what it may still have to put once its answer is told
pub done_ends : (b : Bool) (p : Phase) → Follows p (ends_if b) → (1 ≤ ends_in p) × (ends_in p ≤ 2) × (opens p ≡ 1)
done_ends true Committing h = (omega arith, omega arith, refl)
done_ends true Idle h = absurd h
done_ends true Resting h = (omega arith, omega arith, refl)
done_ends true Asking h = absurd h
done_ends true Preparing h = absurd h
done_ends true Claiming h = absurd h
done_ends true Working h = absurd h
done_ends true Refusing h = absurd h
done_ends true Forcing h = absurd h
done_ends true Acknowledging h = absurd h
done_ends true Leaving h = (omega arith, omega arith, refl)
done_ends false Committing h = (omega arith, omega arith, refl)
done_ends false Idle h = absurd h
done_ends false Resting h = (omega arith, omega arith, refl)
done_ends false Asking h = absurd h
done_ends false Preparing h = absurd h
done_ends false Claiming h = absurd h
done_ends false Working h = absurd h
done_ends false Refusing h = absurd h
done_ends false Forcing h = absurd h
done_ends false Acknowledging h = absurd h
done_ends false Leaving h = (omega arith, omega arith, refl)

-- A statement asks for the lock that it needs next: it has it at once, or waits and has it later, or is refused for want of memory.
use Rattle.std.proofs.Common.{◌≡◌, ◌≢◌, ℕ, suc, ◌+◌, ◌<◌, ◌≤◌, List, [], ◌∷◌, ◌++◌, length, map, set, get_or, Bool, true, false, refl, sym, ◌∙◌, ap, subst, arith, inl, inr, Option, Some, None, append_assoc, append-nil, length-append}
use Rattle.std.specs.Prelude.{◌⊎◌, ◌&&◌, ◌||◌, not, if◌then◌else◌, cond}
use Rattle.std.specs.List.{find, filter}
use Rattle.std.proofs.lemmas.Bool.{both_ways, cases_Bool}
use Rattle.std.proofs.lemmas.List.Elements.{All-filter}
use Rattle.dby_types.specs.declared.number.RowId.{RowId}
use Rattle.dby_types.specs.declared.number.TxnNo.{TxnNo}
use Rattle.lock_modes.specs.declared.cycle.Edge.{Edge}
use Rattle.lock_modes.specs.declared.entry.Request.{Request}
use Rattle.lock_modes.specs.declared.event.LockEvent.TheVariants.{Granted, Queued}
use Rattle.lock_modes.specs.declared.mode.Mode.{Mode}
use Rattle.lock_modes.specs.declared.mode.Mode.TheVariants.{TS, TX}
use Rattle.lock_modes.specs.declared.name.LockName.{LockName}
use Rattle.lock_modes.specs.declared.name.LockName.TheVariants.{Dictionary, Table}
use Rattle.lock_modes.specs.Lock.{Lock, Grants, queue, request, apply, has_grant}
use Rattle.lock_modes.specs.Modes.{has_mode}
use Rattle.lock_modes.specs.Names.{same_txn, same_name}
use Rattle.lock_modes.specs.Proper.{IsRefused, MayHave}
use Rattle.lock_modes.specs.Waits.{waits_for, waiting, ahead, blocks_wait, IsBlocked, AllBlocked, IsSettled}
use Rattle.lock_modes.proofs.NamesLemmas.{txn_refl}
use Rattle.lock_modes.proofs.ApartLemmas.{stays}
use Rattle.lock_manager.specs.Blocking.{IsBlocker, IsUnblocked}
use Rattle.store_api.specs.View.{View, Content, live, changes_in}
use Rattle.table_model.specs.Tables.{Each}
use Rattle.journal_model.specs.declared.journal.Refusal.{Refusal}
use Rattle.journal_model.specs.declared.journal.Refusal.TheVariants.{Memory}
use Rattle.session_model.specs.declared.order.Order.{Order}
use Rattle.session_model.specs.Legal.{Wants, IsPurpose, dictionary_mode}
use Rattle.session_model.specs.Places.{ReadsCatalog, locks_of, guard}
use Rattle.session_model.specs.World.{World, Stage, running, seen, is_untold}
use Rattle.session_engine.specs.declared.session.Phase.{Phase}
use Rattle.session_engine.specs.declared.session.Phase.TheVariants.{Idle, Resting, Asking, Preparing, Claiming, Working, Refusing, Committing, Forcing, Acknowledging, Leaving}
use Rattle.session_engine.specs.declared.session.Plan.{Plan}
use Rattle.session_engine.specs.declared.session.Plan.TheVariants as plan
use Rattle.session_engine.specs.declared.session.Scan.{Scan}
use Rattle.session_engine.specs.declared.session.Fill.{Fill}
use Rattle.session_engine.specs.declared.session.Session.{Session}
use Rattle.session_engine.specs.Asking.{wanted, claimed, behind, in_want}
use Rattle.session_engine.specs.Scanning.{IsScanned, IsUnread, IsWhere}
use Rattle.session_engine.specs.Blocking.{HasWhy}
use Rattle.session_engine.specs.declared.step.Step.TheVariants.{Blocked}
use Rattle.session_engine.specs.declared.step.Why.TheVariants.{Lock as InTheWay}
use Rattle.session_engine.specs.State.{State, Holds, SessionHolds, Busy, Asks, Selects, Waiting, Claims, Works, IsPromised, IsUnchanged, IsMarked, IsOpened, IsStage, Mirrors, PhaseHolds, IsShown, ends_in, opens, world_of, txn_of}
use Rattle.session_engine.proofs.AskLemmas.{granted, queued, relies_on_catalog, writes_catalog}
use Rattle.session_engine.proofs.BeginLemmas.{absent}
use Rattle.session_engine.proofs.EventLemmas.{has_granted}
use Rattle.session_engine.proofs.ListedLemmas.{still_catalog}
use Rattle.session_engine.proofs.MoveLemmas.{moved, same_others, store_holds}
use Rattle.session_engine.proofs.QueueLemmas.{asks_of, find_here, find_later, none_asks, queue_granted}
use Rattle.session_engine.proofs.ScanLemmas.{nothing_read}
use Rattle.session_engine.proofs.StartLemmas.{mirrored}
use Rattle.sql_lexer.specs.Splitting.{spans_of}
use Rattle.journal_model.specs.Levels.{row_of}
use Rattle.session_engine.proofs.StepLemmas.{own_session, stepping_idle}

-- WHO WAITS FOR NOBODY has no request in a settled queue
found_blocked : (g : Grants) (t : TxnNo) (before rs : List Request) (r : Request) → find (asks_of t) rs ≡ Some r → AllBlocked g before rs → IsBlocked g (before ++ ahead t rs) r
found_blocked g t before [] r e h = cc
found_blocked g t before (q ∷ rs) r e h = elim (cases_Bool (same_txn q.txn t)) [
  | inl hit ↦
      let here : Some q ≡ Some r = sym (find_here (asks_of t) q rs hit) ∙ e in
      let same : q ≡ r = cc in
      subst (λ b. IsBlocked g (before ++ (if b then [] else (q ∷ ahead t rs))) r) (sym hit) (subst (λ xs. IsBlocked g xs r) (sym (append-nil before)) (subst (IsBlocked g before) same h.0))
  | inr miss ↦
      let later : find (asks_of t) rs ≡ Some r = sym (find_later (asks_of t) q rs miss) ∙ e in
      subst (λ b. IsBlocked g (before ++ (if b then [] else (q ∷ ahead t rs))) r) (sym miss)
      (subst (λ xs. IsBlocked g xs r) (append_assoc before (q ∷ []) (ahead t rs)) (found_blocked g t (before ++ q ∷ []) rs r later h.1))
]

pub unblocked_idle : (l : Lock) (t : TxnNo) → IsUnblocked l t None → IsSettled l → waiting l t ≡ None
unblocked_idle l t free settled = go (waiting l t) refl
  where
    go : (x : Option Request) → waiting l t ≡ x → waiting l t ≡ None
    go None e = e
    go (Some r) e = absurd (found_blocked l.grants t [] (queue l) r e settled (λ h. ap (λ x. blocks_wait l t x h) (sym e) ∙ free h refl))

-- locks only grow for one's own grant
granted_idle : (l : Lock) (t : TxnNo) (n : LockName) (m : Mode) → waiting l t ≡ None → waiting (apply l (Granted t n m)) t ≡ None
granted_idle l t n m idle = ap (find (asks_of t)) (queue_granted l t n m)
    ∙ absent t _ (All-filter (λ q. not (same_txn q.txn t && same_name q.name n)) (λ q. same_txn q.txn t ≡ false) (queue l) (none_asks t (queue l) idle))

-- all that a transaction has, it has still
abbrev pub Grows : TxnNo → Lock → Lock → Type 0
Grows t l l' = (n : LockName) (m : Mode) → has_mode (l.grants t n) m ≡ true → has_mode (l'.grants t n) m ≡ true

-- a request stands in the queue
found_among : (t : TxnNo) (front : List Request) (r : Request) (back : List Request) → find (asks_of t) front ≡ None → same_txn r.txn t ≡ true → find (asks_of t) (front ++ r ∷ back) ≡ Some r
found_among t [] r back e hit = find_here (asks_of t) r back hit
found_among t (x ∷ front) r back e hit = elim (cases_Bool (same_txn x.txn t)) [
  | inl here ↦ (let c : Some x ≡ None = sym (find_here (asks_of t) x front here) ∙ e in cc)
  | inr miss ↦ find_later (asks_of t) x (front ++ r ∷ back) miss ∙ found_among t front r back (sym (find_later (asks_of t) x front miss) ∙ e) hit
]

front_none : (t : TxnNo) (xs ys : List Request) → find (asks_of t) (xs ++ ys) ≡ None → find (asks_of t) xs ≡ None
front_none t [] ys e = refl
front_none t (x ∷ xs) ys e = elim (cases_Bool (same_txn x.txn t)) [
  | inl here ↦ (let c : Some x ≡ None = sym (find_here (asks_of t) x (xs ++ ys) here) ∙ e in cc)
  | inr miss ↦ find_later (asks_of t) x xs miss ∙ front_none t xs ys (sym (find_later (asks_of t) x (xs ++ ys) miss) ∙ e)
]

queued_waits : (b : Bool) (l : Lock) (t : TxnNo) (n : LockName) (m : Mode) → waiting l t ≡ None
    → find (asks_of t) (queue (if b then record l { conversions = l.conversions ++ request t n m ∷ [] } else record l { requests = l.requests ++ request t n m ∷ [] })) ≡ Some (request t n m)
queued_waits true l t n m idle = ap (find (asks_of t)) (append_assoc l.conversions (request t n m ∷ []) l.requests) ∙ found_among t l.conversions (request t n m) l.requests (front_none t l.conversions l.requests idle) (txn_refl t)
queued_waits false l t n m idle = ap (find (asks_of t)) (sym (append_assoc l.conversions l.requests (request t n m ∷ []))) ∙ found_among t (queue l) (request t n m) [] idle (txn_refl t)

-- WHAT A CONNECTION WANTS, whatever its phase
pub record Wanting (w : World) (l : Lock) (v : View) (last c : ℕ) (s : Session) (n : LockName) (m : Mode) : Type 0 where
  pub busy : Busy w l v last c s
  pub opened : IsOpened s
  pub promised : s.queued ≡ true → IsPromised l s n m
  pub wants : Wants w (txn_of s) n m
  pub rooted : (n ≡ Dictionary) ⊎ ReadsCatalog (locks_of l.grants) (txn_of s)
  pub first : (w.txns (txn_of s)).first ≡ s.first
  pub marked : IsMarked v s
  pub unchanged : IsUnchanged w s
  -- what it may do once it has the lock
  pub goes_on : (l' : Lock) → Grows s.txn l l' → waiting l' s.txn ≡ None → has_mode (l'.grants s.txn n) m ≡ true
      → PhaseHolds (behind s.phase) w l' v last c (record s { queued = false; phase = behind s.phase })
  -- and while it waits
  pub waits_on : (l' : Lock) (v' : View) → Grows s.txn l l' → v'.content ≡ v.content → waiting l' s.txn ≡ Some (request s.txn n m) → PhaseHolds s.phase w l' v' last c (record s { queued = true })

reads_grow : (l l' : Lock) (t : TxnNo) (table : ℕ) (rid : RowId) → Grows t l l' → (locks_of l.grants).reads t.0 table rid ≡ true → (locks_of l'.grants).reads t.0 table rid ≡ true
reads_grow l l' t table rid k h = elim (cases_Bool (has_mode (l.grants t (guard table)) TS)) [
  | inl shared ↦ ap (λ b. b || has_mode (l'.grants t (guard table)) TX) (k (guard table) TS shared)
  | inr none ↦ (let own : has_mode (l.grants t (guard table)) TX ≡ true = ap (λ b. b || has_mode (l.grants t (guard table)) TX) (sym none) ∙ h in or_last (has_mode (l'.grants t (guard table)) TS) (k (guard table) TX own))
]
  where
    or_last : {b : Bool} (a : Bool) → b ≡ true → (a || b) ≡ true
    or_last true h = refl
    or_last false h = h

-- the connection goes on, or waits: it is as busy
busy_on : (w : World) (l l' : Lock) (v v' : View) (last c : ℕ) (s s' : Session) → Grows s.txn l l' → s' ≡ record s { queued = s'.queued; phase = s'.phase } → v'.content ≡ v.content → ((s'.queued ≡ false) → waiting l' s.txn ≡ None) → IsStage s'.phase (w.txns (txn_of s)).stage → Busy w l v last c s → Busy w l' v' last c s'
busy_on w l l' v v' last c s s' grows is content idle stage b =
    subst (Busy w l' v' last c) (sym is)
    (subst (λ (d : Content). Busy w l' (record v' { content = d }) last c (record s { queued = s'.queued; phase = s'.phase })) (sym content) (record {
      stage = stage;
      conn = b.conn;
      mine = b.mine;
      positive = b.positive;
      numbered = b.numbered;
      numbers = b.numbers;
      reflects = b.reflects;
      slots = b.slots;
      containers = elim b.containers [ inl none ↦ inl none | inr made ↦ inr (λ table rid c. grows (guard table) TX (made.0 table rid c), made.1) ];
      idle = idle;
    }))

asking_wants : (w : World) (l : Lock) (v : View) (last c : ℕ) (s : Session) → s.phase ≡ Asking → Busy w l v last c s → IsOpened s → Asks w l v s → Wanting w l v last c s Dictionary (dictionary_mode s.order)
asking_wants w l v last c s is busy opened h = record {
  busy = busy;
  opened = opened;
  promised = h.promised;
  wants = record { runs = runs; purpose = ap dictionary_mode h.order };
  rooted = inl refl;
  first = h.runs.first;
  marked = h.marked;
  unchanged = h.unchanged;
  goes_on = λ l' k idle has.
      subst (λ p. PhaseHolds (behind p) w l' v last c (record s { queued = false; phase = behind p })) (sym is) (
        busy_on w l l' v v last c s (record s { queued = false; phase = Preparing }) k refl refl (λ q. idle) runs busy,
        refl,
        opened,
        record { runs = record { first = h.runs.first; since = h.runs.since; short = h.runs.short }; marked = h.marked; unchanged = h.unchanged; order = h.order; catalog = relies_on_catalog l' s.txn s.order has; alone = λ c. writes_catalog l' s.txn s.order c has },
      );
  waits_on = λ l' v' k content waits.
      subst (λ p. PhaseHolds p w l' v' last c (record s { queued = true })) (sym is) (
        busy_on w l l' v v' last c s (record s { queued = true }) k refl content (λ q. absurd (both_ways true q refl)) (subst (λ p. IsStage p (w.txns (txn_of s)).stage) (sym is) runs) busy,
        opened,
        record {
          runs = record { first = h.runs.first; since = h.runs.since; short = h.runs.short };
          marked = ap (λ (d : Content). length (changes_in (d.changes (txn_of s)))) content ∙ h.marked;
          unchanged = h.unchanged;
          order = h.order;
          promised = λ q. inl waits;
        },
      );
}
  where
    runs : (w.txns (txn_of s)).stage ≡ running
    runs = subst (λ p. IsStage p (w.txns (txn_of s)).stage) is busy.stage

claiming_wants : (w : World) (l : Lock) (v : View) (last c : ℕ) (s : Session) (scan : Scan) → s.phase ≡ Claiming → s.plan ≡ plan.Select scan → Busy w l v last c s → IsOpened s
    → Selects w l v s scan → IsUnread scan → (s.queued ≡ true → IsPromised l s (Table scan.number) TS) → Wanting w l v last c s (Table scan.number) TS
claiming_wants w l v last c s scan is planned busy opened h unread promised = record {
  busy = busy;
  opened = opened;
  promised = promised;
  wants = record { runs = runs; purpose = subst (λ o. IsPurpose o (seen w (txn_of s)) (Table scan.number) TS) (sym h.order) (refl, (h.target, h.number)) };
  rooted = inr h.catalog;
  first = h.runs.first;
  marked = h.marked;
  unchanged = h.unchanged;
  goes_on = λ l' k idle has.
      subst (λ p. PhaseHolds (behind p) w l' v last c (record s { queued = false; phase = behind p })) (sym is) (
        busy_on w l l' v v last c s (record s { queued = false; phase = Working }) k refl refl (λ q. idle) runs busy,
        refl,
        opened,
        subst (Works w l' v c (record s { queued = false; phase = Working })) (sym planned) (record {
          selects = record {
            runs = record { first = h.runs.first; since = h.runs.since; short = h.runs.short };
            marked = h.marked;
            unchanged = h.unchanged;
            name = h.name;
            order = h.order;
            catalog = λ table rid x. reads_grow l l' s.txn table rid k (h.catalog table rid x);
            target = h.target;
            number = h.number;
            user = h.user;
            names = h.names;
          };
          reads = λ rid. ap (λ b. has_mode (l'.grants s.txn (if b then Dictionary else Table scan.number)) TS || has_mode (l'.grants s.txn (if b then Dictionary else Table scan.number)) TX) h.user
              ∙ ap (λ b. b || has_mode (l'.grants s.txn (Table scan.number)) TX) has;
          read = subst (λ a. IsScanned (w.current scan.number) a scan.tuples.items) (sym unread.first) (subst (IsScanned (w.current scan.number) None) (sym unread.none) (nothing_read (w.current scan.number)));
          rows = unread.no_rows ∙ sym (ap (map row_of) unread.none);
          at = subst (IsWhere v.content.heaps scan.number scan.after) (sym unread.nowhere) tt;
        }),
      );
  waits_on = λ l' v' k content waits.
      subst (λ p. PhaseHolds p w l' v' last c (record s { queued = true })) (sym is) (
        busy_on w l l' v v' last c s (record s { queued = true }) k refl content (λ q. absurd (both_ways true q refl)) (subst (λ p. IsStage p (w.txns (txn_of s)).stage) (sym is) runs) busy,
        opened,
        subst (Claims w l' v' (record s { queued = true })) (sym planned) (
          record {
            runs = record { first = h.runs.first; since = h.runs.since; short = h.runs.short };
            marked = ap (λ (d : Content). length (changes_in (d.changes (txn_of s)))) content ∙ h.marked;
            unchanged = h.unchanged;
            name = h.name;
            order = h.order;
            catalog = λ table rid x. reads_grow l l' s.txn table rid k (h.catalog table rid x);
            target = h.target;
            number = h.number;
            user = h.user;
            names = h.names;
          },
          unread,
          λ q. inl waits,
        ),
      );
}
  where
    runs : (w.txns (txn_of s)).stage ≡ running
    runs = subst (λ p. IsStage p (w.txns (txn_of s)).stage) is busy.stage

filling_wants : (w : World) (l : Lock) (v : View) (last c : ℕ) (s : Session) (fill : Fill) → s.phase ≡ Claiming → s.plan ≡ plan.Insert fill → Busy w l v last c s → IsOpened s
    → Waiting w l v s fill → (s.queued ≡ true → IsPromised l s (Table fill.number) TX) → Wanting w l v last c s (Table fill.number) TX
filling_wants w l v last c s fill is planned busy opened h promised = record {
  busy = busy;
  opened = opened;
  promised = promised;
  wants = record { runs = runs; purpose = subst (λ o. IsPurpose o (seen w (txn_of s)) (Table fill.number) TX) (sym h.inserts.order) (refl, (h.inserts.suits.target, h.inserts.number)) };
  rooted = inr h.inserts.catalog;
  first = h.inserts.runs.first;
  marked = h.marked;
  unchanged = h.unchanged;
  goes_on = λ l' k idle has.
      subst (λ p. PhaseHolds (behind p) w l' v last c (record s { queued = false; phase = behind p })) (sym is) (
        busy_on w l l' v v last c s (record s { queued = false; phase = Working }) k refl refl (λ q. idle) runs busy,
        refl,
        opened,
        subst (Works w l' v c (record s { queued = false; phase = Working })) (sym planned) (record {
          inserts = record {
            runs = record { first = h.inserts.runs.first; since = h.inserts.runs.since; short = h.inserts.runs.short };
            name = h.inserts.name;
            tuples = h.inserts.tuples;
            order = h.inserts.order;
            catalog = λ table rid x. reads_grow l l' s.txn table rid k (h.inserts.catalog table rid x);
            suits = h.inserts.suits;
            whole = h.inserts.whole;
            fitting = h.inserts.fitting;
            number = h.inserts.number;
            user = h.inserts.user;
            count = h.inserts.count;
          };
          writes = λ rid. ap (λ b. has_mode (l'.grants s.txn (if b then Dictionary else Table fill.number)) TX) h.inserts.user ∙ has;
          stands = record {
            own_items = [];
            base = changes_in (v.content.changes (txn_of s));
            own = [];
            items_are = refl;
            length_is = h.marked;
            changes_are = h.unchanged;
            mirrors_own = tt;
            mirrors_base = subst (Mirrors (changes_in (v.content.changes (txn_of s)))) h.unchanged (mirrored s.opened (v.content.changes (txn_of s)) (w.txns (txn_of s)).changes opened busy.reflects);
          };
          users = tt;
          done = [];
          rest = h.all;
          puts = refl;
          room = λ on. absurd (both_ways fill.has_room h.no_room on);
        }),
      );
  waits_on = λ l' v' k content waits.
      subst (λ p. PhaseHolds p w l' v' last c (record s { queued = true })) (sym is) (
        busy_on w l l' v v' last c s (record s { queued = true }) k refl content (λ q. absurd (both_ways true q refl)) (subst (λ p. IsStage p (w.txns (txn_of s)).stage) (sym is) runs) busy,
        opened,
        subst (Claims w l' v' (record s { queued = true })) (sym planned) (
          record {
            inserts = record {
              runs = record { first = h.inserts.runs.first; since = h.inserts.runs.since; short = h.inserts.runs.short };
              name = h.inserts.name;
              tuples = h.inserts.tuples;
              order = h.inserts.order;
              catalog = λ table rid x. reads_grow l l' s.txn table rid k (h.inserts.catalog table rid x);
              suits = h.inserts.suits;
              whole = h.inserts.whole;
              fitting = h.inserts.fitting;
              number = h.inserts.number;
              user = h.inserts.user;
              count = h.inserts.count;
            };
            marked = ap (λ (d : Content). length (changes_in (d.changes (txn_of s)))) content ∙ h.marked;
            unchanged = h.unchanged;
            all = h.all;
            no_room = h.no_room;
          },
          λ q. inl waits,
        ),
      );
}
  where
    runs : (w.txns (txn_of s)).stage ≡ running
    runs = subst (λ p. IsStage p (w.txns (txn_of s)).stage) is busy.stage

-- both
claimed_wants : (p : Plan) (w : World) (l : Lock) (v : View) (last c : ℕ) (s : Session) (n : LockName) (m : Mode) → s.phase ≡ Claiming → s.plan ≡ p → Busy w l v last c s → IsOpened s → Claims w l v s p → claimed p ≡ Some (n, m) → Wanting w l v last c s n m
claimed_wants plan.Nothing w l v last c s n m is planned busy opened h e = absurd h
claimed_wants (plan.Command d) w l v last c s n m is planned busy opened h e = absurd h
claimed_wants (plan.Select scan) w l v last c s n m is planned busy opened h e =
    let asked : LockName × Mode = (Table scan.number, TS) in
    let both : asked ≡ (n, m) = cc in
    let name : Table scan.number ≡ n = ap (λ x. x.0) both in
    let mode : TS ≡ m = ap (λ x. x.1) both in
    subst (λ k. Wanting w l v last c s k m) name (subst (λ k. Wanting w l v last c s (Table scan.number) k) mode (claiming_wants w l v last c s scan is planned busy opened h.0 h.1 h.2))
claimed_wants (plan.Insert fill) w l v last c s n m is planned busy opened h e =
    let asked : LockName × Mode = (Table fill.number, TX) in
    let both : asked ≡ (n, m) = cc in
    let name : Table fill.number ≡ n = ap (λ x. x.0) both in
    let mode : TX ≡ m = ap (λ x. x.1) both in
    subst (λ k. Wanting w l v last c s k m) name (subst (λ k. Wanting w l v last c s (Table fill.number) k) mode (filling_wants w l v last c s fill is planned busy opened h.0 h.1))
claimed_wants (plan.Create make) w l v last c s n m is planned busy opened h e = absurd h
claimed_wants (plan.Refuse why) w l v last c s n m is planned busy opened h e = absurd h

wanting : (p : Phase) (w : World) (l : Lock) (v : View) (last c : ℕ) (s : Session) (n : LockName) (m : Mode) → s.phase ≡ p → PhaseHolds p w l v last c s → wanted p s.order s.plan ≡ Some (n, m) → Wanting w l v last c s n m
wanting Idle w l v last c s n m is h e = cc
wanting Resting w l v last c s n m is h e = cc
wanting Asking w l v last c s n m is h e =
    let asked : LockName × Mode = (Dictionary, dictionary_mode s.order) in
    let both : asked ≡ (n, m) = cc in
    let name : Dictionary ≡ n = ap (λ x. x.0) both in
    let mode : dictionary_mode s.order ≡ m = ap (λ x. x.1) both in
    subst (λ k. Wanting w l v last c s k m) name (subst (λ k. Wanting w l v last c s Dictionary k) mode (asking_wants w l v last c s is h.0 h.1 h.2))
wanting Preparing w l v last c s n m is h e = cc
wanting Claiming w l v last c s n m is h e = claimed_wants s.plan w l v last c s n m is refl h.0 h.1 h.2 e
wanting Working w l v last c s n m is h e = cc
wanting Refusing w l v last c s n m is h e = cc
wanting Committing w l v last c s n m is h e = cc
wanting Forcing w l v last c s n m is h e = cc
wanting Acknowledging w l v last c s n m is h e = cc
wanting Leaving w l v last c s n m is h e = cc

pub wants_at : (st : State) (last k : ℕ) (r : Session) (n : LockName) (m : Mode) → k < length st.ss → r ≡ get_or st.ss k r → wanted r.phase r.order r.plan ≡ Some (n, m) → Holds st last
    → Wanting (world_of st.es) st.lock st.view last (k + 1) r n m
wants_at st last k r n m lt at e ok = wanting r.phase (world_of st.es) st.lock st.view last (k + 1) r n m refl (own_session st last k r lt at ok).phase e

-- it waits for who is in its way
pub why_queued : (st : State) (last k : ℕ) (r : Session) (n : LockName) (m : Mode) (e : Edge) → k < length st.ss → r ≡ get_or st.ss k r → wanted r.phase r.order r.plan ≡ Some (n, m) → IsBlocker st.lock r.txn None e → Holds st last
    → HasWhy (k + 1) (Blocked (InTheWay e.holder)) st.es st.ls st.view
why_queued st last k r n m e lt at asks blocks ok =
    let h = wants_at st last k r n m lt at asks ok in
    (r.txn, h.busy.mine, subst (λ (l : Lock). waits_for l r.txn e.holder ≡ true) (sym ok.fold) (subst (λ (t : TxnNo). waits_for st.lock t e.holder ≡ true) blocks.waiter blocks.edge.blocked))

-- the other parts of a session
own_part : (w : World) (l l' : Lock) (v v' : View) (last c : ℕ) (r s' : Session) → s' ≡ record r { queued = s'.queued; phase = s'.phase; plan = s'.plan; order = s'.order; made = s'.made } → SessionHolds w l v last c r → PhaseHolds s'.phase w l' v' last c s' → SessionHolds w l' v' last c s'
own_part w l l' v v' last c r s' is mine phase = record {
  begun = mine.begun ∙ sym (ap (λ (x : Session). x.begun) is);
  level = mine.level ∙ sym (ap (λ (x : Session). x.level) is);
  automatic = mine.automatic ∙ sym (ap (λ (x : Session). x.automatic) is);
  closed = λ live. mine.closed (sym (ap (λ (x : Session). x.closed) is) ∙ live);
  spans = subst (λ (x : Session). x.spans ≡ spans_of x.script) (sym is) mine.spans;
  phase = phase;
}

-- GRANTED AT ONCE
pub asks_at_once : (st : State) (last place k : ℕ) (r : Session) (n : LockName) (m : Mode) → k < length st.ss → r ≡ get_or st.ss k r → wanted r.phase r.order r.plan ≡ Some (n, m) → r.queued ≡ false → place ≡ length st.es
    → MayHave st.lock (request r.txn n m) → Holds st last
    → Holds (record { es = st.es; ls = st.ls ++ record { place = place; event = Granted r.txn n m } ∷ []; lock = apply st.lock (Granted r.txn n m); ss = set st.ss k (record r { phase = behind r.phase }); view = st.view; named = st.named }) last
asks_at_once st last place k r n m lt at e quiet here may ok =
    let w = world_of st.es in
    let h = wants_at st last k r n m lt at e ok in
    let idle = h.busy.idle quiet in
    let l' = apply st.lock (Granted r.txn n m) in
    let s' : Session = record r { phase = behind r.phase } in
    let same : record r { queued = false; phase = behind r.phase } ≡ s' = ap (λ q. record r { queued = q; phase = behind r.phase }) (sym quiet) in
    granted st last place k r s' n m lt at here h.busy idle may h.wants refl refl
    (own_part w st.lock l' st.view st.view last (k + 1) r s' refl (own_session st last k r lt at ok)
    (subst (PhaseHolds (behind r.phase) w l' st.view last (k + 1)) same (h.goes_on l' (λ a b x. stays st.lock (Granted r.txn n m) r.txn a b refl x) (granted_idle st.lock r.txn n m idle) (has_granted st.lock r.txn n m)))) ok

-- QUEUED
pub asks_and_waits : (st : State) (last place k : ℕ) (r : Session) (n : LockName) (m : Mode) (v' : View) → k < length st.ss → r ≡ get_or st.ss k r → wanted r.phase r.order r.plan ≡ Some (n, m) → r.queued ≡ false → place ≡ length st.es
    → IsRefused st.lock (request r.txn n m) → v'.content ≡ st.view.content → ((b : ℕ) → b ≢ k + 1 → v'.actors b ≡ st.view.actors b) → v'.limit ≡ st.view.limit → Holds st last
    → Holds (record { es = st.es; ls = st.ls ++ record { place = place; event = Queued r.txn n m } ∷ []; lock = apply st.lock (Queued r.txn n m); ss = set st.ss k (record r { queued = true }); view = v'; named = st.named }) last
asks_and_waits st last place k r n m v' lt at e quiet here refused content actors limit ok =
    let w = world_of st.es in
    let h = wants_at st last k r n m lt at e ok in
    let idle = h.busy.idle quiet in
    let l' = apply st.lock (Queued r.txn n m) in
    queued st last place k r (record r { queued = true }) n m v' lt at here h.busy idle refused h.wants h.rooted refl refl
    (own_part w st.lock l' st.view v' last (k + 1) r (record r { queued = true }) refl (own_session st last k r lt at ok)
    (h.waits_on l' v' (λ a b x. stays st.lock (Queued r.txn n m) r.txn a b refl x) content (queued_waits (has_grant st.lock.grants r.txn n) st.lock r.txn n m idle)))
    content actors limit ok

-- a step in which nothing but the connection moves
pub own_move : (st : State) (last k : ℕ) (r s' : Session) → k < length st.ss → r ≡ get_or st.ss k r → Busy (world_of st.es) st.lock st.view last (k + 1) r → waiting st.lock r.txn ≡ None
    → s' ≡ record r { queued = s'.queued; phase = s'.phase; plan = s'.plan; order = s'.order; made = s'.made } → PhaseHolds s'.phase (world_of st.es) st.lock st.view last (k + 1) s' → Holds st last
    → Holds (record { es = st.es; ls = st.ls; lock = st.lock; ss = set st.ss k s'; view = st.view; named = st.named }) last
own_move st last k r s' lt at busy idle is phase ok =
    let w = world_of st.es in
    moved st last (txn_of r) k s' st.view (stepping_idle st last w k r s' st.view st.named lt at busy idle (λ t ne. same_others w st.lock t)
    (store_holds (locks_of st.lock.grants) (txn_of r) (k + 1) st.view st.view refl (λ b ne. refl) refl) (λ i ne. refl)
    (own_part w st.lock st.lock st.view st.view last (k + 1) r s' is (own_session st last k r lt at ok) phase)
    (inl (ap txn_of is)) (ap (λ (x : Session). x.script) is) (omega arith) ok.last_is ok.given ok.stored ok.cataloged) ok

-- and the pages that it holds
pub own_step : (st : State) (last k : ℕ) (r s' : Session) (v' : View) → k < length st.ss → r ≡ get_or st.ss k r → Busy (world_of st.es) st.lock st.view last (k + 1) r → waiting st.lock r.txn ≡ None
    → s' ≡ record r { queued = s'.queued; phase = s'.phase; plan = s'.plan; order = s'.order; made = s'.made } → v'.content ≡ st.view.content → ((b : ℕ) → b ≢ k + 1 → v'.actors b ≡ st.view.actors b) → v'.limit ≡ st.view.limit
    → PhaseHolds s'.phase (world_of st.es) st.lock v' last (k + 1) s' → Holds st last
    → Holds (record { es = st.es; ls = st.ls; lock = st.lock; ss = set st.ss k s'; view = v'; named = st.named }) last
own_step st last k r s' v' lt at busy idle is content actors limit phase ok =
    let w = world_of st.es in
    moved st last (txn_of r) k s' v' (stepping_idle st last w k r s' v' st.named lt at busy idle (λ t ne. same_others w st.lock t)
    (store_holds (locks_of st.lock.grants) (txn_of r) (k + 1) st.view v' content actors limit) (λ i ne. refl)
    (own_part w st.lock st.lock st.view v' last (k + 1) r s' is (own_session st last k r lt at ok) phase)
    (inl (ap txn_of is)) (ap (λ (x : Session). x.script) is) (omega arith) ok.last_is
    (subst (λ (x : Content). Each (λ n. n < x.next_container) w.given) (sym content) ok.given)
    (λ table rid. ap (λ (x : Content). live (x.heaps table rid)) content ∙ ok.stored table rid)
    (still_catalog st.view v' w st.named content ok.cataloged)) ok

-- GRANTED SINCE
pub wakes : (st : State) (last k : ℕ) (r : Session) (n : LockName) (m : Mode) → k < length st.ss → r ≡ get_or st.ss k r → wanted r.phase r.order r.plan ≡ Some (n, m) → r.queued ≡ true
    → waiting st.lock r.txn ≡ None → Holds st last
    → Holds (record { es = st.es; ls = st.ls; lock = st.lock; ss = set st.ss k (record r { queued = false; phase = behind r.phase }); view = st.view; named = st.named }) last
wakes st last k r n m lt at e on idle ok =
    let w = world_of st.es in
    let h = wants_at st last k r n m lt at e ok in
    own_move st last k r (record r { queued = false; phase = behind r.phase }) lt at h.busy idle refl
    (h.goes_on st.lock (λ a b x. x) idle (elim (h.promised on) [
      | inl waits ↦ (let c : None ≡ Some (request r.txn n m) = sym idle ∙ waits in cc)
      | inr has ↦ has
    ])) ok

-- REFUSED before anything was changed
pub refusing_unchanged : (w : World) (l : Lock) (v : View) (last c : ℕ) (s : Session) (why : Refusal) → Busy w l v last c s → waiting l s.txn ≡ None → IsOpened s → (w.txns (txn_of s)).stage ≡ running → (w.txns (txn_of s)).first ≡ s.first
    → IsMarked v s → IsUnchanged w s → IsShown w l s why
    → PhaseHolds Refusing w l v last c (record s { queued = false; phase = Refusing; plan = plan.Refuse why })
refusing_unchanged w l v last c s why busy idle opened runs first marked unchanged shown = (
  busy_with w l v last c s (plan.Refuse why) (subst (λ (x : Stage). is_untold x ≡ true) (sym runs) refl) idle busy,
  refl,
  opened,
  record {
    first = first;
    shown = shown;
    stands = record {
      own_items = [];
      base = changes_in (v.content.changes (txn_of s));
      own = [];
      items_are = refl;
      length_is = marked;
      changes_are = unchanged;
      mirrors_own = tt;
      mirrors_base = subst (Mirrors (changes_in (v.content.changes (txn_of s)))) unchanged (mirrored s.opened (v.content.changes (txn_of s)) (w.txns (txn_of s)).changes opened busy.reflects);
    };
  },
)
  where
    busy_with : (w : World) (l : Lock) (v : View) (last c : ℕ) (s : Session) (p : Plan) → is_untold (w.txns (txn_of s)).stage ≡ true → waiting l s.txn ≡ None → Busy w l v last c s → Busy w l v last c (record s { queued = false; phase = Refusing; plan = p })
    busy_with w l v last c s p stage idle b = record {
      stage = stage;
      conn = b.conn;
      mine = b.mine;
      positive = b.positive;
      numbered = b.numbered;
      numbers = b.numbers;
      reflects = b.reflects;
      slots = b.slots;
      containers = b.containers;
      idle = λ q. idle;
    }

-- FOR WANT OF MEMORY
pub starves : (st : State) (last k : ℕ) (r : Session) (n : LockName) (m : Mode) → k < length st.ss → r ≡ get_or st.ss k r → wanted r.phase r.order r.plan ≡ Some (n, m) → r.queued ≡ false → Holds st last
    → Holds (record { es = st.es; ls = st.ls; lock = st.lock; ss = set st.ss k (in_want r); view = st.view; named = st.named }) last
starves st last k r n m lt at e quiet ok =
    let w = world_of st.es in
    let h = wants_at st last k r n m lt at e ok in
    let idle = h.busy.idle quiet in
    let same : record r { queued = false; phase = Refusing; plan = plan.Refuse Memory } ≡ in_want r = ap (λ q. record r { queued = q; phase = Refusing; plan = plan.Refuse Memory }) (sym quiet) in
    own_move st last k r (in_want r) lt at h.busy idle refl
    (subst (PhaseHolds Refusing w st.lock st.view last (k + 1)) same
    (refusing_unchanged w st.lock st.view last (k + 1) r Memory h.busy idle h.opened h.wants.runs h.first h.marked h.unchanged (inl ((λ tables. tt), refl)))) ok

-- what it may still have to put
pub wanted_ends : (p : Phase) (o : Option Order) (q : Plan) (n : LockName) (m : Mode) → wanted p o q ≡ Some (n, m) → (ends_in p ≡ 3) × (opens p ≡ 1) × (ends_in (behind p) ≡ 3) × (opens (behind p) ≡ 1)
wanted_ends Idle o q n m e = cc
wanted_ends Resting o q n m e = cc
wanted_ends Asking o q n m e = (refl, refl, refl, refl)
wanted_ends Preparing o q n m e = cc
wanted_ends Claiming o q n m e = (refl, refl, refl, refl)
wanted_ends Working o q n m e = cc
wanted_ends Refusing o q n m e = cc
wanted_ends Committing o q n m e = cc
wanted_ends Forcing o q n m e = cc
wanted_ends Acknowledging o q n m e = cc
wanted_ends Leaving o q n m e = cc

-- the queue is longer by the request
pub queue_longer : (b : Bool) (l : Lock) (r : Request) → length (queue (if b then record l { conversions = l.conversions ++ r ∷ [] } else record l { requests = l.requests ++ r ∷ [] })) ≡ length (queue l) + 1
queue_longer true l r =
    let one = length-append (l.conversions ++ r ∷ []) l.requests in
    let two = length-append l.conversions (r ∷ []) in
    let three = length-append l.conversions l.requests in
    omega (arith, one, two, three)
queue_longer false l r =
    let one = length-append l.conversions (l.requests ++ r ∷ []) in
    let two = length-append l.requests (r ∷ []) in
    let three = length-append l.conversions l.requests in
    omega (arith, one, two, three)

pub queue_no_longer : (l : Lock) (t : TxnNo) (n : LockName) (m : Mode) → length (queue (apply l (Granted t n m))) ≤ length (queue l)
queue_no_longer l t n m = (let e = ap length (queue_granted l t n m) in let le = fewer (λ q. not (same_txn q.txn t && same_name q.name n)) (queue l) in omega (arith, e, le))
  where
    one_more : (b : Bool) (r : Request) (xs rs : List Request) → length xs ≤ length rs → length (cond b (r ∷ xs) xs) ≤ suc (length rs)
    one_more true r xs rs h = omega (arith, h)
    one_more false r xs rs h = omega (arith, h)

    fewer : (keep : Request → Bool) (rs : List Request) → length (filter keep rs) ≤ length rs
    fewer keep [] = omega arith
    fewer keep (r ∷ rs) = one_more (keep r) r (filter keep rs) rs (fewer keep rs)

-- What each step of a connection owes, from the part of the connection itself. r is the session before.
use Rattle.std.proofs.Common.{◌≡◌, ◌≢◌, ℕ, zero, suc, ◌+◌, ◌<◌, ◌≤◌, List, [], ◌∷◌, ◌++◌, length, map, set, get_or, reverse, Bool, true, false, refl, sym, ◌∙◌, ap, subst, arith, inl, inr, None, Vec, Global, vec_len, vec_capacity}
use Rattle.std.specs.Prelude.{◌⊎◌, All}
use Rattle.std.proofs.lemmas.List.{get_or_default}
use Rattle.std.proofs.lemmas.Bool.{both_ways, eq-eqb}
use Rattle.dby_types.specs.declared.number.RowId.{RowId}
use Rattle.dby_types.specs.declared.number.TxnNo.{TxnNo}
use Rattle.lock_modes.specs.declared.entry.Request.{Request}
use Rattle.lock_modes.specs.Lock.{Lock, queue}
use Rattle.lock_modes.specs.Waits.{waiting}
use Rattle.table_model.specs.Tables.{Made, Each}
use Rattle.store_api.specs.declared.slot.Item.{Item}
use Rattle.store_api.specs.declared.slot.Item.TheVariants.{Changed, Created, Discarded}
use Rattle.std.specs.Prelude.{OnOk, IfErr, Result, Ok, Err}
use Rattle.dby_types.specs.declared.number.Damage.{Damage}
use Rattle.dby_types.specs.declared.state.SqlState.{SqlState}
use Rattle.lock_manager.specs.declared.table.LockTable.{LockTable}
use Rattle.lock_manager.specs.Table.{lock}
use Rattle.journal_model.specs.declared.journal.Entry.{Entry}
use Rattle.session_model.specs.declared.journal.Locked.{Locked}
use Rattle.store_api.specs.declared.answers.StoreAnswer.{StoreAnswer}
use Rattle.store_api.specs.declared.answers.StoreAnswer.TheVariants.{Failed, Damaged, Full, Memory as NoMemory}
use Rattle.store_api.specs.Frames.{Stores, HasCause, never_full}
use Rattle.store_api.specs.Effects.{committed, without_discarded, without_txn}
use Rattle.store_api.specs.View.{View, Content, live, changes_in}
use Rattle.journal_model.specs.declared.journal.Entry.TheVariants as entry
use Rattle.journal_model.proofs.BaseLemmas.{at_same, at_other}
use Rattle.session_model.specs.World.{World, Txn, committing, settled, apply}
use Rattle.session_model.specs.Places.{Others, locks_of}
use Rattle.session_model.proofs.EntryLemmas.{committed_others, committed_kept}
use Rattle.session_engine.specs.declared.session.Phase.{Phase}
use Rattle.session_engine.specs.declared.session.Phase.TheVariants.{Committing, Forcing, Acknowledging}
use Rattle.session_engine.specs.declared.session.Session.{Session}
use Rattle.session_engine.specs.Dictionary.{Named}
use Rattle.session_engine.specs.Listed.{Cataloged}
use Rattle.session_engine.specs.Engine.{EngineHolds, state}
use Rattle.session_engine.proofs.SpentLemmas.{spent_kept}
use Rattle.session_engine.specs.State.{MakesAlone, has_made, State, Holds, SessionHolds, Busy, HaveSlots, Mirrors, Reflects, PhaseHolds, IsStage, WaitsNot, world_of, txn_of}
use Rattle.session_engine.proofs.ListedLemmas.{quiet_catalog, still_catalog}
use Rattle.session_engine.proofs.QueueLemmas.{none_asks}
use Rattle.session_engine.proofs.MoveLemmas.{Stepping, StoreMoves, store_holds, lock_same, same_others, entered, moved}
use Rattle.session_engine.proofs.RoomLemmas.{room_after}
use Rattle.session_engine.proofs.StableLemmas.{session_kept}

-- THE SESSION ITSELF
pub own_session : (st : State) (last k : ℕ) (r : Session) → k < length st.ss → r ≡ get_or st.ss k r → Holds st last → SessionHolds (world_of st.es) st.lock st.view last (k + 1) r
own_session st last k r lt at ok = subst (SessionHolds (world_of st.es) st.lock st.view last (k + 1)) (sym at) (ok.each k r lt)

pub phase_at : (p : Phase) (w : World) (l : Lock) (v : View) (last c : ℕ) (r : Session) → r.phase ≡ p → SessionHolds w l v last c r → PhaseHolds p w l v last c r
phase_at p w l v last c r is h = subst (λ q. PhaseHolds q w l v last c r) is h.phase

-- who waits for nothing has no request
pub asks_nothing : (t : TxnNo) (l : Lock) → waiting l t ≡ None → All (λ (r : Request). r.txn.0 ≢ t.0) (queue l)
asks_nothing t l h = λ i d lt e. both_ways _ (none_asks t (queue l) h i d lt) (eq-eqb (get_or (queue l) i d).txn.0 t.0 e)

-- a transaction is that of one connection
pub apart_of : (w : World) (l : Lock) (v : View) (last c a : ℕ) → (w.txns a).conn ≡ c → (i : ℕ) (s : Session) → i ≢ c → Busy w l v last i s → txn_of s ≢ a
apart_of w l v last c a own i s ne b e = ne (sym b.conn ∙ ap (λ t. (w.txns t).conn) e ∙ own)

-- A STEP of a transaction that is open, and whose request, if it had one, doesn't wait
pub stepping_idle : (st : State) (last : ℕ) (w' : World) (k : ℕ) (r s' : Session) (v' : View) (named' : List Named) → k < length st.ss → r ≡ get_or st.ss k r
    → Busy (world_of st.es) st.lock st.view last (k + 1) r → waiting st.lock r.txn ≡ None
    → ((t : ℕ) → t ≢ txn_of r → Others t (world_of st.es) (locks_of st.lock.grants) w' (locks_of st.lock.grants)) → StoreMoves (locks_of st.lock.grants) (txn_of r) (k + 1) st.view v'
    → ((i : ℕ) → i ≢ k + 1 → w'.conns i ≡ (world_of st.es).conns i) → SessionHolds w' st.lock v' last (k + 1) s'
    → ((txn_of s' ≡ txn_of r) ⊎ (v'.content.changes (txn_of r) ≡ None)) → s'.script ≡ r.script → (world_of st.es).count ≤ w'.count → w'.last ≡ last
    → Each (λ n. n < v'.content.next_container) w'.given → ((table : ℕ) (rid : RowId) → live (v'.content.heaps table rid) ≡ w'.current table rid)
    → Cataloged v' w' named' → Stepping st last w' (txn_of r) k s' v' last named'
stepping_idle st last w' k r s' v' named' lt at busy idle others store conns own has script more last_is given stored cataloged = record {
  within = lt;
  positive = busy.positive;
  others = others;
  store = store;
  conns = conns;
  apart = apart_of (world_of st.es) st.lock st.view last (k + 1) (txn_of r) busy.conn;
  free = asks_nothing r.txn st.lock idle;
  own = own;
  was = λ d. inl (ap txn_of (get_or_is st.ss k r d lt at));
  has = has;
  script = λ d. script ∙ ap (λ (s : Session). s.script) (sym (get_or_is st.ss k r d lt at));
  more = more;
  last_is = last_is;
  grows = omega arith;
  below = busy.numbered;
  given = given;
  stored = stored;
  cataloged = cataloged;
}
  where
    get_or_is : (ss : List Session) (k : ℕ) (r d : Session) → k < length ss → r ≡ get_or ss k r → get_or ss k d ≡ r
    get_or_is ss k r d lt at = get_or_default ss k d r lt ∙ sym at

-- and that has none
pub stepping_with : (st : State) (last : ℕ) (w' : World) (k : ℕ) (r s' : Session) (v' : View) (named' : List Named) → k < length st.ss → r ≡ get_or st.ss k r
    → (busy : Busy (world_of st.es) st.lock st.view last (k + 1) r) → WaitsNot r
    → ((t : ℕ) → t ≢ txn_of r → Others t (world_of st.es) (locks_of st.lock.grants) w' (locks_of st.lock.grants)) → StoreMoves (locks_of st.lock.grants) (txn_of r) (k + 1) st.view v'
    → ((i : ℕ) → i ≢ k + 1 → w'.conns i ≡ (world_of st.es).conns i) → SessionHolds w' st.lock v' last (k + 1) s'
    → ((txn_of s' ≡ txn_of r) ⊎ (v'.content.changes (txn_of r) ≡ None)) → s'.script ≡ r.script → (world_of st.es).count ≤ w'.count → w'.last ≡ last
    → Each (λ n. n < v'.content.next_container) w'.given → ((table : ℕ) (rid : RowId) → live (v'.content.heaps table rid) ≡ w'.current table rid)
    → Cataloged v' w' named' → Stepping st last w' (txn_of r) k s' v' last named'
stepping_with st last w' k r s' v' named' lt at busy quiet = stepping_idle st last w' k r s' v' named' lt at busy (busy.idle quiet)

-- .. and leaves the dictionary as it is
pub stepping : (st : State) (last : ℕ) (w' : World) (k : ℕ) (r s' : Session) (v' : View) → k < length st.ss → r ≡ get_or st.ss k r
    → (busy : Busy (world_of st.es) st.lock st.view last (k + 1) r) → WaitsNot r
    → ((t : ℕ) → t ≢ txn_of r → Others t (world_of st.es) (locks_of st.lock.grants) w' (locks_of st.lock.grants)) → StoreMoves (locks_of st.lock.grants) (txn_of r) (k + 1) st.view v'
    → ((i : ℕ) → i ≢ k + 1 → w'.conns i ≡ (world_of st.es).conns i) → SessionHolds w' st.lock v' last (k + 1) s'
    → ((txn_of s' ≡ txn_of r) ⊎ (v'.content.changes (txn_of r) ≡ None)) → s'.script ≡ r.script → (world_of st.es).count ≤ w'.count → w'.last ≡ last
    → Each (λ n. n < v'.content.next_container) w'.given → ((table : ℕ) (rid : RowId) → live (v'.content.heaps table rid) ≡ w'.current table rid)
    → Cataloged v' w' st.named → Stepping st last w' (txn_of r) k s' v' last st.named
stepping st last w' k r s' v' lt at busy quiet = stepping_idle st last w' k r s' v' st.named lt at busy (busy.idle quiet)

-- THE COMMIT RECORD
no_discards : (items : List Item) (ms : List Made) (d : Content) → Mirrors items ms → without_discarded items d ≡ d
no_discards [] ms d h = refl
no_discards (Created c ∷ items) ms d h = no_discards items ms d h
no_discards (Changed table rid before ∷ items) [] d h = absurd h
no_discards (Changed table rid before ∷ items) (m ∷ ms) d h = no_discards items ms d h.3
no_discards (Discarded c ∷ items) ms d h = absurd h

committed_is : (opened : Bool) (d : Content) (t : ℕ) (ms : List Made) → Reflects opened (d.changes t) ms → committed d t ≡ without_txn d t
committed_is true d t ms h = ap (λ i. without_txn (without_discarded (changes_in i) d) t) h.1 ∙ ap (λ x. without_txn x t) (no_discards h.0 ms d h.2)
committed_is false d t ms h = ap (λ i. without_txn (without_discarded (changes_in i) d) t) h.0

pub appends : (st : State) (last k : ℕ) (r : Session) (made : Vec ℕ Global) (v' : View) → k < length st.ss → r ≡ get_or st.ss k r → r.phase ≡ Committing → made.items ≡ []
    → v'.content ≡ committed st.view.content (txn_of r) → ((b : ℕ) → v'.actors b ≡ st.view.actors b) → v'.limit ≡ st.view.limit → Holds st last
    → Holds (record { es = st.es ++ entry.Committed r.txn ∷ []; ls = st.ls; lock = st.lock; ss = set st.ss k (record r { phase = Forcing; opened = false; made = made }); view = v'; named = st.named }) last
appends st last k r made v' lt at is none content actors limit ok =
    let w = world_of st.es in
    let e = entry.Committed r.txn in
    let w' = apply w e in
    let mine = own_session st last k r lt at ok in
    let p = phase_at Committing w st.lock st.view last (k + 1) r is mine in
    let busy = p.0 in
    let x : w'.txns (txn_of r) ≡ _ = at_same w.txns (txn_of r) _ in
    let stage : (w.txns (txn_of r)).stage ≡ committing = subst (λ q. IsStage q (w.txns (txn_of r)).stage) is busy.stage in
    let plain : v'.content ≡ without_txn st.view.content (txn_of r) = content ∙ committed_is r.opened st.view.content (txn_of r) (w.txns (txn_of r)).changes busy.reflects in
    let closed_there : v'.content.changes (txn_of r) ≡ None = ap (λ (d : Content). d.changes (txn_of r)) plain ∙ at_same st.view.content.changes (txn_of r) None in
    let s' : Session = record r { phase = Forcing; opened = false; made = made } in
    let own : SessionHolds w' st.lock v' last (k + 1) s' = record {
      begun = mine.begun;
      level = mine.level;
      automatic = mine.automatic;
      closed = mine.closed;
      spans = mine.spans;
      phase = (
        record {
          stage = ap (λ (y : Txn). y.stage) x;
          conn = ap (λ (y : Txn). y.conn) x ∙ busy.conn;
          mine = busy.mine;
          positive = busy.positive;
          numbered = busy.numbered;
          numbers = ap (λ (y : Txn). map (λ m. m.number) y.changes) x ∙ ap reverse (sym none);
          reflects = (closed_there, ap (λ (y : Txn). y.changes) x);
          slots = subst (λ (y : Txn). HaveSlots v' y.changes) (sym x) tt;
          containers = inl (ap (λ i. has_made (changes_in i)) closed_there);
          idle = busy.idle;
        },
        p.1,
        refl,
      );
    } in
    entered st last e (txn_of r) k s' v' last (record { session = stage; undo = tt; change = tt; refusal = tt }) tt (committed_kept r.txn w (locks_of st.lock.grants) ok.shared)
    (stepping st last w' k r s' v' lt at busy p.1 (committed_others r.txn w (locks_of st.lock.grants) ok.shared)
    (record {
      txns = λ t ne. ap (λ (d : Content). d.changes t) plain ∙ at_other st.view.content.changes (txn_of r) None t ne;
      actors = λ b ne. actors b;
      limit_same = limit;
      heaps = λ t ne reads table rid h. ap (λ (d : Content). d.heaps table rid) plain;
      columns = λ t ne reads table. ap (λ (d : Content). d.columns table) plain;
      next = (let same = ap (λ (d : Content). d.next_container) plain in omega (arith, same));
    })
    (λ i ne. refl) own (inl refl) refl (omega arith) ok.last_is
    (subst (λ (d : Content). Each (λ n. n < d.next_container) w.given) (sym plain) ok.given)
    (λ table rid. ap (λ (d : Content). live (d.heaps table rid)) plain ∙ ok.stored table rid)
    (quiet_catalog (txn_of r) st.view v' w w' st.named refl (λ n. ap (λ (d : Content). d.columns n) plain) (ap (λ (d : Content). d.next_container) plain) (λ t ne. at_other w.txns (txn_of r) _ t ne) (inr (ap (λ (y : Txn). y.changes) x)) ok.cataloged)) ok

-- WHAT IS STORED behind a call without memory and room of its own, whatever it answers
pub stored_after : (damaged : Damage → Type 0) (left : Content) (v v' : View) (answer : Result (Unit {0}) StoreAnswer)
    → OnOk answer (Stores v v' left) → IfErr answer (HasCause ⊥ never_full damaged left v v') → v'.content ≡ left
stored_after damaged left v v' (Ok x) ok err = ok.stored
stored_after damaged left v v' (Err Failed) ok err = err.1
stored_after damaged left v v' (Err (Damaged d)) ok err = err.1
stored_after damaged left v v' (Err (Full s)) ok err = absurd err.0
stored_after damaged left v v' (Err NoMemory) ok err = absurd err.0

-- A STEP OF THE STORE ALONE, in which it changes nothing that is stored and nobody's pages
pub still_store : (st : State) (last : ℕ) (v' : View) → v'.content ≡ st.view.content → ((b : ℕ) → v'.actors b ≡ st.view.actors b) → v'.limit ≡ st.view.limit → Holds st last
    → Holds (record { es = st.es; ls = st.ls; lock = st.lock; ss = st.ss; view = v'; named = st.named }) last
still_store st last v' content actors limit ok = record {
  legal = ok.legal;
  shared = ok.shared;
  apart = ok.apart;
  fold = ok.fold;
  alone = ok.alone;
  waits = ok.waits;
  each = λ i d lt. session_kept (world_of st.es) st.lock st.view (world_of st.es) st.lock v' last last (i + 1) (get_or st.ss i d) ok.shared refl (λ b. record {
    others = same_others (world_of st.es) st.lock (txn_of (get_or st.ss i d));
    locks = lock_same (get_or st.ss i d).txn st.lock;
    changes = ap (λ (x : Content). x.changes (txn_of (get_or st.ss i d))) content;
    actor = actors (i + 1);
    heaps = λ r table rid h. ap (λ (x : Content). x.heaps table rid) content;
    columns = λ r table. ap (λ (x : Content). x.columns table) content;
    next = (let same = ap (λ (x : Content). x.next_container) content in omega (arith, same));
  }) (omega arith) (omega arith) (ok.each i d lt);
  last_is = ok.last_is;
  fresh = ok.fresh;
  given = subst (λ (x : Content). Each (λ n. n < x.next_container) (world_of st.es).given) (sym content) ok.given;
  stored = λ table rid. ap (λ (x : Content). live (x.heaps table rid)) content ∙ ok.stored table rid;
  zero = ap (λ (x : Content). x.changes 0) content ∙ ok.zero;
  known = λ t h. ok.known t (λ e. h (ap (λ (x : Content). x.changes t) content ∙ e));
  holders = λ b h. ok.holders b (λ e. h (ap (λ x. x.pages) (actors b) ∙ e));
  few = (let few = ok.few in omega (arith, few, limit));
  cataloged = still_catalog st.view v' (world_of st.es) st.named content ok.cataloged;
}

-- THE COMMIT IS DURABLE
pub forced : (st : State) (last k : ℕ) (r : Session) (v' : View) → k < length st.ss → r ≡ get_or st.ss k r → r.phase ≡ Forcing
    → v'.content ≡ st.view.content → ((b : ℕ) → v'.actors b ≡ st.view.actors b) → v'.limit ≡ st.view.limit → Holds st last
    → Holds (record { es = st.es; ls = st.ls; lock = st.lock; ss = set st.ss k (record r { phase = Acknowledging }); view = v'; named = st.named }) last
forced st last k r v' lt at is content actors limit ok =
    let w = world_of st.es in
    let mine = own_session st last k r lt at ok in
    let p = phase_at Forcing w st.lock st.view last (k + 1) r is mine in
    let busy = p.0 in
    let s' : Session = record r { phase = Acknowledging } in
    let stage : (w.txns (txn_of r)).stage ≡ settled = subst (λ q. IsStage q (w.txns (txn_of r)).stage) is busy.stage in
    moved st last (txn_of r) k s' v' (stepping st last w k r s' v' lt at busy p.1
    (λ t ne. same_others w st.lock t)
    (store_holds (locks_of st.lock.grants) (txn_of r) (k + 1) st.view v' content (λ b ne. actors b) limit) (λ i ne. refl)
    (record {
      begun = mine.begun;
      level = mine.level;
      automatic = mine.automatic;
      closed = mine.closed;
      spans = mine.spans;
      phase = (
        record {
          stage = stage;
          conn = busy.conn;
          mine = busy.mine;
          positive = busy.positive;
          numbered = busy.numbered;
          numbers = busy.numbers;
          reflects = subst (λ (x : Content). Reflects r.opened (x.changes (txn_of r)) (w.txns (txn_of r)).changes) (sym content) busy.reflects;
          slots = subst (λ (x : Content). HaveSlots (record v' { content = x }) (w.txns (txn_of r)).changes) (sym content) busy.slots;
          containers = subst (λ (x : Content). MakesAlone w.committed st.lock (txn_of r) (changes_in (x.changes (txn_of r))) (w.txns (txn_of r)).changes) (sym content) busy.containers;
          idle = busy.idle;
        },
        p.1,
        p.2,
      );
    })
    (inl refl) refl (omega arith) ok.last_is
    (subst (λ (x : Content). Each (λ n. n < x.next_container) w.given) (sym content) ok.given)
    (λ table rid. ap (λ (x : Content). live (x.heaps table rid)) content ∙ ok.stored table rid) (still_catalog st.view v' w st.named content ok.cataloged)) ok

-- a session at a place, whatever way it was read
pub same_session : (ss : List Session) (k : ℕ) (r s : Session) → k < length ss → r ≡ get_or ss k r → s ≡ get_or ss k s → r ≡ s
same_session ss k r s lt e h = e ∙ get_or_default ss k r s lt ∙ sym h

pub refused_content : (damaged : Damage → Type 0) (left : Content) (v v' : View) (e : StoreAnswer) → HasCause ⊥ never_full damaged left v v' e → v'.content ≡ left
refused_content damaged left v v' Failed err = err.1
refused_content damaged left v v' (Damaged d) err = err.1
refused_content damaged left v v' (Full s) err = absurd err.0
refused_content damaged left v v' NoMemory err = absurd err.0

-- a call that left all as it was, whatever it answers
pub kept_content : (memory : Type 0) (full : SqlState → Type 0) (damaged : Damage → Type 0) (v v' : View) (e : StoreAnswer) → HasCause memory full damaged v.content v v' e → v'.content ≡ v.content
kept_content memory full damaged v v' Failed err = err.1
kept_content memory full damaged v v' (Damaged d) err = err.1
kept_content memory full damaged v v' (Full s) err = err.1.content_same
kept_content memory full damaged v v' NoMemory err = err.1.content_same

-- the store alone moved, and there is more room
pub still_engine : {Z : Type 0} (entries entries' : Vec Entry Z) (events events' : Vec Locked Z) (locks : LockTable) (ss : List Session) (v v' : View) (named : List Named) (last owed owed_events k : ℕ) (r : Session)
    → EngineHolds entries events locks ss v named last owed owed_events → k < length ss → r ≡ get_or ss k r
    → entries'.items ≡ entries.items → events'.items ≡ events.items → vec_len entries' + owed ≤ vec_capacity entries' → vec_len events' + owed_events + length (queue (lock locks)) ≤ vec_capacity events'
    → v'.content ≡ v.content → ((b : ℕ) → v'.actors b ≡ v.actors b) → v'.limit ≡ v.limit
    → EngineHolds entries' events' locks (set ss k r) v' named last owed owed_events
still_engine entries entries' events events' locks ss v v' named last owed owed_events k r h lt at es ls fit fit' content actors limit =
    let same : set ss k r ≡ ss = set_same ss k r lt at in
    record {
      holds = subst (λ xs. Holds (state entries' events' locks xs v' named) last) (sym same)
          (subst (λ x. Holds (record { es = x; ls = events'.items; lock = lock locks; ss = ss; view = v'; named = named }) last) (sym es)
          (subst (λ x. Holds (record { es = entries.items; ls = x; lock = lock locks; ss = ss; view = v'; named = named }) last) (sym ls)
          (still_store (state entries events locks ss v named) last v' content actors limit h.holds)));
      room = room_after entries entries' events events' ss (lock locks) (lock locks) owed owed_events owed owed_events k r r h.room lt at refl refl fit fit';
      woken = h.woken;
      spent = spent_kept ss k r r lt at refl refl refl h.spent;
    }
  where
    set_same : (ss : List Session) (k : ℕ) (r : Session) → k < length ss → r ≡ get_or ss k r → set ss k r ≡ ss
    set_same [] k r lt at = absurd (omega arith)
    set_same (s ∷ ss) zero r lt at = ap (λ x. x ∷ ss) at
    set_same (s ∷ ss) (suc k) r lt at = ap (λ xs. s ∷ xs) (set_same ss k r (omega arith) at)

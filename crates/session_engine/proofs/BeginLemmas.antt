-- A statement begins: in a new transaction, or in the one that is open.
use Rattle.std.proofs.Common.{◌≡◌, ◌≢◌, ℕ, zero, suc, ◌+◌, ◌<◌, ◌-◌, List, [], ◌∷◌, ◌++◌, length, map, set, get_or, reverse, Bool, true, false, refl, sym, ◌∙◌, ap, subst, arith, inl, inr, Some, None}
use Rattle.std.specs.Prelude.{All, slice_get, ◌==◌, if◌then◌else◌}
use Rattle.std.specs.List.{find}
use Rattle.std.proofs.lemmas.List.{get_or_default}
use Rattle.std.proofs.lemmas.List.Elements.{All-head, All-tail}
use Rattle.std.proofs.lemmas.Bool.{ne_eqb}
use Rattle.dby_types.specs.declared.number.ConnNo.{ConnNo}
use Rattle.dby_types.specs.declared.number.RowId.{RowId}
use Rattle.dby_types.specs.declared.number.TxnNo.{TxnNo}
use Rattle.lock_modes.specs.declared.entry.Request.{Request}
use Rattle.lock_modes.specs.Lock.{Lock, queue}
use Rattle.lock_modes.specs.Names.{same_txn}
use Rattle.lock_modes.specs.Waits.{waiting}
use Rattle.dby_types.specs.declared.number.Level.{Level}
use Rattle.session_model.specs.Legal.{Begins}
use Rattle.sql_lexer.specs.Splitting.{statements_of, spans_of}
use Rattle.sql_ast.specs.declared.statement.Statement.TheVariants.{Unread}
use Rattle.table_model.specs.Tables.{Each}
use Rattle.store_api.specs.View.{View, Content, live, at_number, changes_in}
use Rattle.journal_model.specs.declared.journal.Entry.TheVariants as entry
use Rattle.journal_model.specs.Legal.{statement_of}
use Rattle.journal_model.proofs.BaseLemmas.{at_same, at_other}
use Rattle.session_model.specs.World.{World, Txn, Conn, unborn, running, resting, no_txn, is_none, is_ended, apply}
use Rattle.session_model.specs.Places.{locks_of}
use Rattle.session_model.proofs.EntryLemmas.{quiet_others, started_kept}
use Rattle.session_engine.specs.declared.session.Phase.TheVariants.{Idle, Resting}
use Rattle.session_engine.specs.declared.session.Session.{Session}
use Rattle.session_engine.specs.State.{State, Holds, SessionHolds, Busy, Waits, Reflects, PhaseHolds, IsStage, HaveSlots, MakesAlone, has_made, scripts_of, world_of, txn_of}
use Rattle.session_engine.proofs.QueueLemmas.{asks_of, find_later}
use Rattle.session_engine.proofs.ListedLemmas.{quiet_catalog}
use Rattle.session_engine.proofs.MoveLemmas.{store_holds, entered}
use Rattle.session_engine.proofs.StepLemmas.{own_session, phase_at, stepping}
use Rattle.session_engine.proofs.TellLemmas.{busy_at}

-- a connection's statement, by its script
pub statement_at : (ss : List Session) (k : ℕ) (d : Session) (n : ℕ) → k < length ss → statement_of (scripts_of ss) (k + 1) n ≡ slice_get (statements_of (get_or ss k d).script) n
statement_at [] k d n lt = absurd (omega arith)
statement_at (s ∷ ss) zero d n lt = refl
statement_at (s ∷ ss) (suc k) d n lt =
    let other : (suc k + 1 == 1) ≡ false = ne_eqb (suc k + 1) 1 (λ e. omega (arith, e)) in
    let less : suc k + 1 - 1 ≡ k + 1 = omega arith in
    ap (λ b. if b then slice_get (statements_of s.script) n else statement_of (scripts_of ss) (suc k + 1 - 1) n) other ∙ ap (λ c. statement_of (scripts_of ss) c n) less
    ∙ statement_at ss k d n (omega arith)

-- nobody asks in the name of a transaction that doesn't run
pub absent : (t : TxnNo) (rs : List Request) → All (λ (r : Request). same_txn r.txn t ≡ false) rs → find (asks_of t) rs ≡ None
absent t [] h = refl
absent t (r ∷ rs) h = find_later (asks_of t) r rs (All-head (λ (q : Request). same_txn q.txn t ≡ false) r rs h)
    ∙ absent t rs (All-tail (λ (q : Request). same_txn q.txn t ≡ false) r rs h)

not_running : (w : World) (l : Lock) (t : ℕ) → ((w.txns t).stage ≡ running → ⊥) → All (Waits w l) (queue l) → All (λ (r : Request). r.txn.0 ≢ t) (queue l)
not_running w l t ne h = λ i d lt e. ne (subst (λ u. (w.txns u).stage ≡ running) e (h i d lt).wants.runs)

unborn_runs : unborn ≡ running → ⊥
unborn_runs e = cc

resting_runs : resting ≡ running → ⊥
resting_runs e = cc

fresh_session : (st : State) (k : ℕ) (r d : Session) → k < length st.ss → r ≡ get_or st.ss k r → get_or st.ss k d ≡ r
fresh_session st k r d lt at = get_or_default st.ss k d r lt ∙ sym at

-- what the transaction and the connection are behind the entry
abbrev pub begun_txn : Txn → ℕ → Level → List ℕ → ℕ → Bool → Txn
begun_txn x c level text count first = record x { stage = running; conn = c; level = level; text = text; started = count; first = first; begun = x.changes }

-- the store opened this transaction, or left all as it was
pub record OpensOnly (t : ℕ) (v v' : View) : Type 0 where
  pub txns : (u : ℕ) → u ≢ t → v'.content.changes u ≡ v.content.changes u
  pub heaps : (table : ℕ) (rid : RowId) → v'.content.heaps table rid ≡ v.content.heaps table rid
  pub columns : (table : ℕ) → v'.content.columns table ≡ v.content.columns table
  pub next : v'.content.next_container ≡ v.content.next_container
  pub actors : (b : ℕ) → v'.actors b ≡ v.actors b
  pub limit_same : v'.limit ≡ v.limit

pub opened_only : (t : ℕ) (v v' : View) → v'.content ≡ record v.content { changes = at_number v.content.changes t (Some []); next_txn = t + 1 } → ((b : ℕ) → v'.actors b ≡ v.actors b) → v'.limit ≡ v.limit → OpensOnly t v v'
opened_only t v v' content actors limit = record {
  txns = λ u ne. ap (λ (d : Content). d.changes u) content ∙ at_other v.content.changes t (Some []) u ne;
  heaps = λ b q. ap (λ (d : Content). d.heaps b q) content;
  columns = λ b. ap (λ (d : Content). d.columns b) content;
  next = ap (λ (d : Content). d.next_container) content;
  actors = actors;
  limit_same = limit;
}

pub left_alone : (t : ℕ) (v v' : View) → v'.content ≡ v.content → ((b : ℕ) → v'.actors b ≡ v.actors b) → v'.limit ≡ v.limit → OpensOnly t v v'
left_alone t v v' content actors limit = record {
  txns = λ u ne. ap (λ (d : Content). d.changes u) content;
  heaps = λ b q. ap (λ (d : Content). d.heaps b q) content;
  columns = λ b. ap (λ (d : Content). d.columns b) content;
  next = ap (λ (d : Content). d.next_container) content;
  actors = actors;
  limit_same = limit;
}

-- IN A NEW TRANSACTION
pub begins : (st : State) (last k : ℕ) (r s' : Session) (t : TxnNo) (c : ConnNo) (text : List ℕ) (v' : View)
    → k < length st.ss → r ≡ get_or st.ss k r → r.phase ≡ Idle → r.closed ≡ false → c.0 ≡ k + 1 → slice_get (statements_of r.script) r.begun ≡ Some text → last < t.0
    → s'.txn ≡ t → s'.queued ≡ false → s'.made.items ≡ [] → s'.begun ≡ r.begun + 1 → s'.level ≡ r.level → s'.automatic ≡ r.automatic → s'.script ≡ r.script → s'.spans ≡ r.spans
    → Reflects s'.opened (v'.content.changes t.0) [] → has_made (changes_in (v'.content.changes t.0)) ≡ false → OpensOnly t.0 st.view v'
    → IsStage s'.phase running
    → ((apply (world_of st.es) (entry.Started t c r.level (Unread text))).txns t.0 ≡ begun_txn no_txn c.0 r.level text (world_of st.es).count true
    → Busy (apply (world_of st.es) (entry.Started t c r.level (Unread text))) st.lock v' t.0 (k + 1) s'
    → PhaseHolds s'.phase (apply (world_of st.es) (entry.Started t c r.level (Unread text))) st.lock v' t.0 (k + 1) s')
    → Holds st last
    → Holds (record { es = st.es ++ entry.Started t c r.level (Unread text) ∷ []; ls = st.ls; lock = st.lock; ss = set st.ss k s'; view = v'; named = st.named }) t.0
begins st last k r s' t c text v' lt at is still_open place next above txn queued made begun level automatic script spans reflects unmade store stage phase ok =
    let w = world_of st.es in
    let l = locks_of st.lock.grants in
    let e = entry.Started t c r.level (Unread text) in
    let w' = apply w e in
    let mine = own_session st last k r lt at ok in
    let p = phase_at Idle w st.lock st.view last (k + 1) r is mine in
    let new : w.txns t.0 ≡ no_txn = ok.fresh t.0 above in
    let first : is_none (w.conns c.0).txn ≡ true = ap (λ n. is_none (w.conns n).txn) place ∙ ap is_none p.1 in
    let x : w'.txns t.0 ≡ begun_txn no_txn c.0 r.level text w.count true =
    at_same w.txns t.0 _ ∙ ap (λ (y : Txn). begun_txn y c.0 r.level text w.count (is_none (w.conns c.0).txn)) new ∙ ap (begun_txn no_txn c.0 r.level text w.count) first in
    let kept : w'.conns (k + 1) ≡ record (w.conns (k + 1)) { begun = (w.conns (k + 1)).begun + 1; txn = Some t.0 } = subst (λ n. w'.conns n ≡ record (w.conns n) { begun = (w.conns n).begun + 1; txn = Some t.0 }) place (at_same w.conns c.0 _) in
    let free : All (λ (q : Request). q.txn.0 ≢ t.0) (queue st.lock) = not_running w st.lock t.0 (λ h. unborn_runs (sym (ap (λ (y : Txn). y.stage) new) ∙ h)) ok.waits in
    let waits : waiting st.lock t ≡ None = absent t (queue st.lock) (λ i d i_lt. ne_eqb (get_or (queue st.lock) i d).txn.0 t.0 (free i d i_lt)) in
    let busy : Busy w' st.lock v' t.0 (k + 1) s' = busy_at w' st.lock v' t.0 (k + 1) s' t txn (record {
      stage = subst (λ (y : Txn). IsStage s'.phase y.stage) (sym x) stage;
      conn = ap (λ (y : Txn). y.conn) x ∙ place;
      mine = ap (λ (y : Conn). y.txn) kept;
      positive = omega (arith, above);
      numbered = omega arith;
      numbers = ap (λ (y : Txn). map (λ m. m.number) y.changes) x ∙ ap reverse (sym made);
      reflects = subst (λ (y : Txn). Reflects s'.opened (v'.content.changes t.0) y.changes) (sym x) reflects;
      slots = subst (λ (y : Txn). HaveSlots v' y.changes) (sym x) tt;
      containers = inl unmade;
      idle = λ q. waits;
    }) in
    let own : SessionHolds w' st.lock v' t.0 (k + 1) s' = record {
      begun = ap (λ (y : Conn). y.begun) kept ∙ ap (λ n. n + 1) mine.begun ∙ sym begun;
      level = ap (λ (y : Conn). y.level) kept ∙ mine.level ∙ sym level;
      automatic = ap (λ (y : Conn). y.automatic) kept ∙ mine.automatic ∙ sym automatic;
      closed = λ on. ap (λ (y : Conn). y.closed) kept ∙ mine.closed still_open;
      spans = spans ∙ mine.spans ∙ ap spans_of (sym script);
      phase = phase x busy;
    } in
    let old : (d : Session) → get_or st.ss k d ≡ r = λ d. fresh_session st k r d lt at in
    entered st last e t.0 k s' v' t.0
    (record {
      session = (
        sym mine.level ∙ ap (λ n. (w.conns n).level) (sym place),
        record {
          text = text;
          carried = refl;
          next = ap (λ n. statement_of (scripts_of st.ss) n (w.conns n).begun) place ∙ statement_at st.ss k r (w.conns (k + 1)).begun lt
              ∙ ap (λ (s : Session). slice_get (statements_of s.script) (w.conns (k + 1)).begun) (old r) ∙ ap (slice_get (statements_of r.script)) mine.begun ∙ next;
          begins = subst (Begins w t.0) (sym (ap (λ n. (w.conns n).txn) place ∙ p.1)) (let last_is = ok.last_is in omega (arith, last_is, above));
          goes_on = ap (λ n. (w.conns n).closed) place ∙ mine.closed still_open;
        },
      );
      undo = tt;
      change = tt;
      refusal = tt;
    }) tt
    (started_kept t c r.level (Unread text) w l (ap (λ (y : Txn). is_ended y.stage) new) ok.shared)
    (record {
      within = lt;
      positive = omega (arith, above);
      others = λ u ne. quiet_others t.0 w l w' refl refl refl (λ u ne. at_other w.txns t.0 _ u ne) u ne;
      store = record {
        txns = store.txns;
        actors = λ b ne. store.actors b;
        limit_same = store.limit_same;
        heaps = λ u ne reads b q h. store.heaps b q;
        columns = λ u ne reads b. store.columns b;
        next = (let same = store.next in omega (arith, same));
      };
      conns = λ i ne. at_other w.conns c.0 _ i (λ same. ne (same ∙ place));
      apart = λ i s ne b same. (let below = b.numbered in omega (arith, below, same, above));
      free = free;
      own = own;
      was = λ d. inr (ap txn_of (old d) ∙ p.2);
      has = inl (ap (λ n. n.0) txn);
      script = λ d. script ∙ ap (λ (s : Session). s.script) (sym (old d));
      more = omega arith;
      last_is = ap (λ b. if b then t.0 else w.last) first;
      grows = omega (arith, above);
      below = omega arith;
      given = subst (λ m. Each (λ n. n < m) w.given) (sym store.next) ok.given;
      stored = λ b q. ap live (store.heaps b q) ∙ ok.stored b q;
      cataloged = quiet_catalog t.0 st.view v' w w' st.named refl store.columns store.next (λ u ne. at_other w.txns t.0 _ u ne) (inr (ap (λ (y : Txn). y.changes) x)) ok.cataloged;
    }) ok

-- IN THE OPEN ONE
pub resumes : (st : State) (last k : ℕ) (r s' : Session) (c : ConnNo) (text : List ℕ)
    → k < length st.ss → r ≡ get_or st.ss k r → r.phase ≡ Resting → r.closed ≡ false → c.0 ≡ k + 1 → slice_get (statements_of r.script) r.begun ≡ Some text
    → s'.txn ≡ r.txn → s'.opened ≡ true → s'.queued ≡ false → s'.made.items ≡ r.made.items → s'.begun ≡ r.begun + 1 → s'.level ≡ r.level → s'.automatic ≡ r.automatic → s'.script ≡ r.script → s'.spans ≡ r.spans
    → IsStage s'.phase running
    → ((apply (world_of st.es) (entry.Started r.txn c r.level (Unread text))).txns (txn_of r) ≡ begun_txn ((world_of st.es).txns (txn_of r)) c.0 r.level text (world_of st.es).count false
    → Reflects true (st.view.content.changes (txn_of r)) ((world_of st.es).txns (txn_of r)).changes
    → Busy (apply (world_of st.es) (entry.Started r.txn c r.level (Unread text))) st.lock st.view last (k + 1) s'
    → PhaseHolds s'.phase (apply (world_of st.es) (entry.Started r.txn c r.level (Unread text))) st.lock st.view last (k + 1) s')
    → Holds st last
    → Holds (record { es = st.es ++ entry.Started r.txn c r.level (Unread text) ∷ []; ls = st.ls; lock = st.lock; ss = set st.ss k s'; view = st.view; named = st.named }) last
resumes st last k r s' c text lt at is still_open place next txn opened queued made begun level automatic script spans stage phase ok =
    let w = world_of st.es in
    let l = locks_of st.lock.grants in
    let a = txn_of r in
    let e = entry.Started r.txn c r.level (Unread text) in
    let w' = apply w e in
    let mine = own_session st last k r lt at ok in
    let p = phase_at Resting w st.lock st.view last (k + 1) r is mine in
    let busy = p.0 in
    let rests : (w.txns a).stage ≡ resting = subst (λ q. IsStage q (w.txns a).stage) is busy.stage in
    let has_one : (w.conns c.0).txn ≡ Some a = ap (λ n. (w.conns n).txn) place ∙ busy.mine in
    let first : is_none (w.conns c.0).txn ≡ false = ap is_none has_one in
    let x : w'.txns a ≡ begun_txn (w.txns a) c.0 r.level text w.count false = at_same w.txns a _ ∙ ap (begun_txn (w.txns a) c.0 r.level text w.count) first in
    let kept : w'.conns (k + 1) ≡ record (w.conns (k + 1)) { begun = (w.conns (k + 1)).begun + 1; txn = Some a } = subst (λ n. w'.conns n ≡ record (w.conns n) { begun = (w.conns n).begun + 1; txn = Some a }) place (at_same w.conns c.0 _) in
    let reflects : Reflects true (st.view.content.changes a) (w.txns a).changes = subst (λ b. Reflects b (st.view.content.changes a) (w.txns a).changes) p.2 busy.reflects in
    let busy' : Busy w' st.lock st.view last (k + 1) s' = busy_at w' st.lock st.view last (k + 1) s' r.txn txn (record {
      stage = subst (λ (y : Txn). IsStage s'.phase y.stage) (sym x) stage;
      conn = ap (λ (y : Txn). y.conn) x ∙ place;
      mine = ap (λ (y : Conn). y.txn) kept;
      positive = busy.positive;
      numbered = busy.numbered;
      numbers = ap (λ (y : Txn). map (λ m. m.number) y.changes) x ∙ busy.numbers ∙ ap reverse (sym made);
      reflects = subst (λ b. Reflects b (st.view.content.changes a) (w'.txns a).changes) (sym opened) (subst (λ (y : Txn). Reflects true (st.view.content.changes a) y.changes) (sym x) reflects);
      slots = subst (λ (y : Txn). HaveSlots st.view y.changes) (sym x) busy.slots;
      containers = subst (λ (y : Txn). MakesAlone w.committed st.lock a (changes_in (st.view.content.changes a)) y.changes) (sym x) busy.containers;
      idle = λ q. busy.idle p.1;
    }) in
    let own : SessionHolds w' st.lock st.view last (k + 1) s' = record {
      begun = ap (λ (y : Conn). y.begun) kept ∙ ap (λ n. n + 1) mine.begun ∙ sym begun;
      level = ap (λ (y : Conn). y.level) kept ∙ mine.level ∙ sym level;
      automatic = ap (λ (y : Conn). y.automatic) kept ∙ mine.automatic ∙ sym automatic;
      closed = λ on. ap (λ (y : Conn). y.closed) kept ∙ mine.closed still_open;
      spans = spans ∙ mine.spans ∙ ap spans_of (sym script);
      phase = phase x reflects busy';
    } in
    entered st last e a k s' st.view last
    (record {
      session = (
        sym mine.level ∙ ap (λ n. (w.conns n).level) (sym place),
        record {
          text = text;
          carried = refl;
          next = ap (λ n. statement_of (scripts_of st.ss) n (w.conns n).begun) place ∙ statement_at st.ss k r (w.conns (k + 1)).begun lt
              ∙ ap (λ (s : Session). slice_get (statements_of s.script) (w.conns (k + 1)).begun) (fresh_session st k r r lt at) ∙ ap (slice_get (statements_of r.script)) mine.begun ∙ next;
          begins = subst (Begins w a) (sym has_one) (refl, rests);
          goes_on = ap (λ n. (w.conns n).closed) place ∙ mine.closed still_open;
        },
      );
      undo = tt;
      change = tt;
      refusal = tt;
    }) tt
    (started_kept r.txn c r.level (Unread text) w l (ap is_ended rests) ok.shared)
    (stepping st last w' k r s' st.view lt at busy p.1 (quiet_others a w l w' refl refl refl (λ u ne. at_other w.txns a _ u ne))
    (store_holds l a (k + 1) st.view st.view refl (λ b ne. refl) refl)
    (λ i ne. at_other w.conns c.0 _ i (λ same. ne (same ∙ place))) own (inl (ap (λ n. n.0) txn)) script (omega arith)
    (ap (λ b. if b then a else w.last) first ∙ ok.last_is) ok.given ok.stored
    (quiet_catalog a st.view st.view w w' st.named refl (λ n. refl) refl (λ u ne. at_other w.txns a _ u ne) (inl (ap (λ (y : Txn). y.changes) x)) ok.cataloged)) ok

-- A statement begins as the engine's step has it: it asks for the dictionary, or is refused at once.
use Rattle.std.proofs.Common.{◌≡◌, ℕ, ◌+◌, ◌<◌, ◌≤◌, List, [], ◌∷◌, ◌++◌, length, set, get_or, Bool, true, false, refl, sym, ◌∙◌, ap, subst, arith, inl, Some, None, Option}
use Rattle.std.specs.Prelude.{slice_get, if◌then◌else◌}
use Rattle.std.proofs.lemmas.Bool.{both_ways}
use Rattle.std.proofs.lemmas.List.{length-set, get_or-set_same}
use Rattle.dby_types.specs.declared.number.TxnNo.{TxnNo}
use Rattle.dby_types.specs.declared.state.SqlState.TheVariants as state
use Rattle.lock_modes.specs.Lock.{Lock}
use Rattle.sql_lexer.specs.Splitting.{statements_of}
use Rattle.store_api.specs.declared.slot.Item.{Item}
use Rattle.store_api.specs.View.{View, Content, changes_in, at_number as numbered}
use Rattle.table_model.specs.Tables.{Tables, Made, no_tables}
use Rattle.journal_model.specs.declared.journal.Refusal.TheVariants.{Sql}
use Rattle.journal_model.specs.Meaning.{is_long}
use Rattle.journal_model.proofs.BaseLemmas.{at_same}
use Rattle.session_model.specs.declared.order.Order.{Order}
use Rattle.session_model.specs.Legal.{HasEvidence}
use Rattle.session_model.specs.Orders.{order_of, RefusedIf}
use Rattle.session_model.specs.World.{World, Txn, Conn, running, leaving, no_txn, opening, apply, is_none, is_untold, after_refused}
use Rattle.session_model.proofs.BaseLemmas.{replay_push}
use Rattle.session_engine.specs.Beginning.{begun, started, turned_away, away}
use Rattle.session_engine.specs.declared.session.Phase.TheVariants.{Idle, Resting, Asking, Refusing, Leaving}
use Rattle.session_engine.specs.declared.session.Session.{Session}
use Rattle.session_engine.specs.State.{has_made, State, Holds, Busy, Mirrors, Reflects, PhaseHolds, IsStage, ends_in, opens, world_of, txn_of}
use Rattle.session_engine.proofs.BeginLemmas.{begins, resumes, begun_txn, opened_only, left_alone}
use Rattle.session_engine.proofs.StepLemmas.{own_session, phase_at}
use Rattle.session_engine.proofs.TellLemmas.{denies, set_twice}

begun_stage : (long : Bool) → IsStage (if long then Refusing else Asking) running
begun_stage true = refl
begun_stage false = refl

-- a text that is too long is refused over any tables
long_shows : (text : List ℕ) (tables : Tables) → is_long text ≡ true → HasEvidence text tables (Sql state.NotBuilt [])
long_shows text tables long = (refl, subst (λ b. RefusedIf b (order_of text) tables state.NotBuilt) (sym long) refl)

-- the list of a transaction's items, as it stands
pub mirrored : (o : Bool) (items : Option (List Item)) (ms : List Made) → o ≡ true → Reflects o items ms → Mirrors (changes_in items) ms
mirrored true items ms e h = subst (λ i. Mirrors (changes_in i) ms) (sym h.1) h.2
mirrored false items ms e h = absurd (both_ways false refl e)

-- where it is, from what its transaction is
begun_phase : (long : Bool) (w : World) (l : Lock) (v : View) (last c : ℕ) (r : Session) (t : TxnNo) (first : Bool) (mark : ℕ) (order : Option Order) (text : List ℕ)
    → (w.txns t.0).text ≡ text → (w.txns t.0).first ≡ first → (w.txns t.0).started < w.count → (w.txns t.0).changes ≡ (w.txns t.0).begun
    → length (changes_in (v.content.changes t.0)) ≡ mark → long ≡ is_long text → (long ≡ false → order ≡ order_of text)
    → Busy w l v last c (begun r t first mark long order)
    → PhaseHolds (if long then Refusing else Asking) w l v last c (begun r t first mark long order)
begun_phase true w l v last c r t first mark order text text_is first_is since same marked long reads busy = (
  busy,
  refl,
  refl,
  record {
    first = first_is;
    shown = inl ((λ tables. subst (λ u. HasEvidence u tables (Sql state.NotBuilt [])) (sym text_is) (long_shows text tables (sym long))), refl);
    stands = record {
      own_items = [];
      base = changes_in (v.content.changes t.0);
      own = [];
      items_are = refl;
      length_is = marked;
      changes_are = same;
      mirrors_own = tt;
      mirrors_base = subst (Mirrors (changes_in (v.content.changes t.0))) same (mirrored true (v.content.changes t.0) (w.txns t.0).changes refl busy.reflects);
    };
  },
)
begun_phase false w l v last c r t first mark order text text_is first_is since same marked long reads busy = (
  busy,
  refl,
  record {
    runs = record { first = first_is; since = since; short = ap is_long text_is ∙ sym long };
    marked = marked;
    unchanged = same;
    order = reads refl ∙ ap order_of (sym text_is);
    promised = λ q. absurd (both_ways false refl q);
  },
)

-- IN A NEW TRANSACTION
pub first_statement : (st : State) (last k : ℕ) (r : Session) (t : TxnNo) (text : List ℕ) (long : Bool) (order : Option Order) (v' : View)
    → k < length st.ss → r ≡ get_or st.ss k r → r.phase ≡ Idle → r.closed ≡ false → slice_get (statements_of r.script) r.begun ≡ Some text
    → long ≡ is_long text → (long ≡ false → order ≡ order_of text) → last < t.0
    → v'.content ≡ record st.view.content { changes = numbered st.view.content.changes t.0 (Some []); next_txn = t.0 + 1 } → ((b : ℕ) → v'.actors b ≡ st.view.actors b) → v'.limit ≡ st.view.limit
    → Holds st last
    → Holds (record { es = st.es ++ started t k r.level text ∷ []; ls = st.ls; lock = st.lock; ss = set st.ss k (begun r t true 0 long order); view = v'; named = st.named }) t.0
first_statement st last k r t text long order v' lt at is still_open next long_is reads above content actors limit ok =
    let p = phase_at Idle (world_of st.es) st.lock st.view last (k + 1) r is (own_session st last k r lt at ok) in
    let there : v'.content.changes t.0 ≡ Some [] = ap (λ (d : Content). d.changes t.0) content ∙ at_same st.view.content.changes t.0 (Some []) in
    let w = world_of st.es in
    begins st last k r (begun r t true 0 long order) t (record { 0 = k + 1 }) text v' lt at is still_open refl next above refl refl p.4 refl refl refl refl refl
    ([], there, tt) (ap (λ i. has_made (changes_in i)) there) (opened_only t.0 st.view v' content actors limit) (begun_stage long)
    (λ x busy. begun_phase long (apply w (started t k r.level text)) st.lock v' t.0 (k + 1) r t true 0 order text (ap (λ (y : Txn). y.text) x) (ap (λ (y : Txn). y.first) x)
    (let at : ((apply w (started t k r.level text)).txns t.0).started ≡ w.count = ap (λ (y : Txn). y.started) x in omega (arith, at))
    (ap (λ (y : Txn). y.changes) x ∙ sym (ap (λ (y : Txn). y.begun) x)) (ap (λ i. length (changes_in i)) there) long_is reads busy) ok

-- IN THE OPEN ONE
pub next_statement : (st : State) (last k : ℕ) (r : Session) (text : List ℕ) (mark : ℕ) (long : Bool) (order : Option Order)
    → k < length st.ss → r ≡ get_or st.ss k r → r.phase ≡ Resting → r.closed ≡ false → slice_get (statements_of r.script) r.begun ≡ Some text
    → mark ≡ length (changes_in (st.view.content.changes (txn_of r))) → long ≡ is_long text → (long ≡ false → order ≡ order_of text)
    → Holds st last
    → Holds (record { es = st.es ++ started r.txn k r.level text ∷ []; ls = st.ls; lock = st.lock; ss = set st.ss k (begun r r.txn false mark long order); view = st.view; named = st.named }) last
next_statement st last k r text mark long order lt at is still_open next marked long_is reads ok =
    let w = world_of st.es in
    let a = txn_of r in
    resumes st last k r (begun r r.txn false mark long order) (record { 0 = k + 1 }) text lt at is still_open refl next refl refl refl refl refl refl refl refl refl (begun_stage long)
    (λ x reflects busy. begun_phase long (apply w (started r.txn k r.level text)) st.lock st.view last (k + 1) r r.txn false mark order text (ap (λ (y : Txn). y.text) x) (ap (λ (y : Txn). y.first) x)
    (let at : ((apply w (started r.txn k r.level text)).txns a).started ≡ w.count = ap (λ (y : Txn). y.started) x in omega (arith, at))
    (ap (λ (y : Txn). y.changes) x ∙ sym (ap (λ (y : Txn). y.begun) x)) (sym marked) long_is reads busy) ok

leaves_either : (automatic : Bool) → after_refused (Sql state.LogSpent []) automatic true ≡ leaving
leaves_either true = refl
leaves_either false = refl

turned_txn : (st : State) (last k : ℕ) (r : Session) (t : TxnNo) (text : List ℕ) → k < length st.ss → r ≡ get_or st.ss k r → r.phase ≡ Idle → last < t.0 → Holds st last
    → (apply (world_of st.es) (started t k r.level text)).txns t.0 ≡ begun_txn no_txn (k + 1) r.level text (world_of st.es).count true
turned_txn st last k r t text lt at is above ok =
    let w = world_of st.es in
    let p = phase_at Idle w st.lock st.view last (k + 1) r is (own_session st last k r lt at ok) in
    let first : is_none (w.conns (k + 1)).txn ≡ true = ap is_none p.1 in
    at_same w.txns t.0 _ ∙ ap (λ (y : Txn). begun_txn y (k + 1) r.level text w.count (is_none (w.conns (k + 1)).txn)) (ok.fresh t.0 above) ∙ ap (begun_txn no_txn (k + 1) r.level text w.count) first

-- IT HAS NO NUMBER: its transaction begins and is refused in one step, and the store doesn't know it
pub turned : (st : State) (last k : ℕ) (r : Session) (t : TxnNo) (text : List ℕ) (v' : View)
    → k < length st.ss → r ≡ get_or st.ss k r → r.phase ≡ Idle → r.closed ≡ false → slice_get (statements_of r.script) r.begun ≡ Some text → last < t.0
    → st.view.content.changes t.0 ≡ None → v'.content ≡ st.view.content → ((b : ℕ) → v'.actors b ≡ st.view.actors b) → v'.limit ≡ st.view.limit
    → Holds st last
    → Holds (record { es = (st.es ++ started t k r.level text ∷ []) ++ turned_away t ∷ []; ls = st.ls; lock = st.lock; ss = set st.ss k (away r t); view = v'; named = st.named }) t.0
turned st last k r t text v' lt at is still_open next above unknown content actors limit ok =
    let w = world_of st.es in
    let e = started t k r.level text in
    let w1 = apply w e in
    let mine = own_session st last k r lt at ok in
    let p = phase_at Idle w st.lock st.view last (k + 1) r is mine in
    let none : v'.content.changes t.0 ≡ None = ap (λ (d : Content). d.changes t.0) content ∙ unknown in
    let r1 : Session = record (away r t) { closed = true } in
    let st1 : State = record { es = st.es ++ e ∷ []; ls = st.ls; lock = st.lock; ss = set st.ss k r1; view = v'; named = st.named } in
    let reflects : Reflects r.opened (v'.content.changes t.0) [] = subst (λ o. Reflects o (v'.content.changes t.0) []) (sym p.3) (none, refl) in
    let push : w1 ≡ world_of st1.es = sym (replay_push (opening no_tables) st.es e) in
    let x : w1.txns t.0 ≡ begun_txn no_txn (k + 1) r.level text w.count true = turned_txn st last k r t text lt at is above ok in
    let x1 : (world_of st1.es).txns t.0 ≡ begun_txn no_txn (k + 1) r.level text w.count true = ap (λ (u : World). u.txns t.0) (sym push) ∙ x in
    let one : Holds st1 t.0 = begins st last k r r1 t (record { 0 = k + 1 }) text v' lt at is still_open refl next above refl p.0 p.4 refl refl refl refl refl
    reflects (ap (λ i. has_made (changes_in i)) none) (left_alone t.0 st.view v' content actors limit) refl
    (λ x busy. (busy, p.0, λ live. absurd (both_ways true live refl))) ok in
    let lt1 : k < length st1.ss = subst (λ n. k < n) (sym (length-set st.ss k r1)) lt in
    let at1 : r1 ≡ get_or st1.ss k r1 = sym (get_or-set_same st.ss k r1 r1 lt) in
    let p1 = phase_at Leaving (world_of st1.es) st.lock v' t.0 (k + 1) r1 refl (own_session st1 t.0 k r1 lt1 at1 one) in
    let still : ((world_of st1.es).conns (k + 1)).closed ≡ false = ap (λ (u : World). (u.conns (k + 1)).closed) (sym push) ∙ ap (λ (y : Conn). y.closed) (at_same w.conns (k + 1) _) ∙ mine.closed still_open in
    subst (λ ss. Holds (record { es = st1.es ++ turned_away t ∷ []; ls = st.ls; lock = st.lock; ss = ss; view = v'; named = st.named }) t.0) (set_twice st.ss k r1 (away r t))
    (denies st1 t.0 k r1 (away r t) (Sql state.LogSpent []) lt1 at1 p1.0 p1.1
    (ap (λ (y : Txn). is_untold y.stage) x1) (ap (λ (y : Txn). y.first) x1) (ap (λ (y : Txn). y.changes) x1 ∙ sym (ap (λ (y : Txn). y.begun) x1))
    (inl ((λ tables. refl), refl)) (leaves_either r.automatic) refl refl refl refl refl refl (λ live. still) refl refl refl
    (λ w' now busy. (busy, p.0, λ live. now)) one)

-- an idle connection has made no change
pub idle_made : (st : State) (last k : ℕ) (r : Session) → k < length st.ss → r ≡ get_or st.ss k r → r.phase ≡ Idle → Holds st last → r.made.items ≡ []
idle_made st last k r lt at is ok = (phase_at Idle (world_of st.es) st.lock st.view last (k + 1) r is (own_session st last k r lt at ok)).4

pub begun_opens : (long : Bool) → opens (if long then Refusing else Asking) ≡ 1
begun_opens true = refl
begun_opens false = refl

pub begun_ends : (long : Bool) → 2 ≤ ends_in (if long then Refusing else Asking)
begun_ends true = omega arith
begun_ends false = omega arith

-- A change taken back, and the end of a transaction with the release of all that it has.
use Rattle.std.proofs.Common.{◌≡◌, ◌≢◌, ℕ, ◌+◌, ◌<◌, List, [], ◌∷◌, ◌++◌, length, map, set, get_or, reverse, append_assoc, Bool, true, false, refl, sym, ◌∙◌, ap, subst, arith, inl, inr, Option, Some, None, Vec, Global}
use Rattle.std.specs.Prelude.{All, ◌&&◌, ◌==◌, ◌||◌, not, if◌then◌else◌}
use Rattle.std.proofs.lemmas.List.{reverse-append, nil_from_length}
use Rattle.std.proofs.lemmas.Bool.{both_ways, cases_Bool, eqb-true, or_from, false_from_ne_true}
use Rattle.dby_types.specs.declared.number.RowId.{RowId}
use Rattle.dby_types.specs.declared.number.TxnNo.{TxnNo}
use Rattle.dby_types.specs.declared.value.Value.{Value}
use Rattle.lock_modes.specs.declared.entry.Request.{Request}
use Rattle.lock_modes.specs.declared.event.LockEvent.TheVariants.{ReleasedAll}
use Rattle.lock_modes.specs.Lock.{Lock, queue, apply_all, apply as lock_apply}
use Rattle.lock_modes.specs.Names.{same_txn}
use Rattle.lock_modes.proofs.NamesLemmas.{txn_eq}
use Rattle.lock_modes.specs.Serving.{Serves, grants_of}
use Rattle.lock_manager.specs.declared.table.LockTable.{LockTable}
use Rattle.lock_manager.specs.Table.{lock}
use Rattle.table_model.specs.Tables.{Tables, Made, Each, put, laid_over, newest_undone, rest_of, no_tables, is_same_rid}
use Rattle.store_api.specs.declared.slot.Item.{Item}
use Rattle.store_api.specs.declared.slot.Item.TheVariants.{Changed, Created, Discarded}
use Rattle.store_api.specs.declared.slot.Slot.{Slot}
use Rattle.store_api.specs.Effects.{taken_back, put_back, without_txn}
use Rattle.store_api.specs.View.{View, Content, Heaps, live, at_number, put_slot, changes_in}
use Rattle.journal_model.specs.declared.journal.Entry.TheVariants as entry
use Rattle.journal_model.specs.World.{at_number as number_at}
use Rattle.journal_model.proofs.BaseLemmas.{at_same, at_other}
use Rattle.session_model.specs.World.{World, Txn, Conn, Stage, opening, resting, leaving, settled, over, apply, after_undone, closes_by_undone, is_returnable, is_untold, is_leaving}
use Rattle.session_model.specs.Places.{Locks, Fits, Written, locks_of}
use Rattle.session_model.proofs.PlaceLemmas.{here, rid_is}
use Rattle.session_model.proofs.BaseLemmas.{replay_push}
use Rattle.session_model.proofs.EntryLemmas.{quiet_others, acknowledged_kept, rolled_back_kept, undone_others, undone_kept, lawful_of}
use Rattle.session_engine.specs.declared.session.Phase.TheVariants.{Idle, Resting, Refusing, Acknowledging, Leaving}
use Rattle.session_engine.specs.declared.session.Plan.{Plan}
use Rattle.session_engine.specs.declared.session.Plan.TheVariants as plan
use Rattle.session_model.specs.declared.order.Order.{Order}
use Rattle.journal_model.specs.declared.journal.Refusal.{Refusal}
use Rattle.session_model.specs.Legal.{HasEvidence}
use Rattle.sql_lexer.specs.Splitting.{spans_of}
use Rattle.session_engine.specs.declared.session.Session.{Session}
use Rattle.session_engine.specs.Noted.{noted}
use Rattle.session_engine.specs.Listed.{Cataloged, left_named}
use Rattle.session_engine.specs.State.{MakesAlone, State, Holds, SessionHolds, Busy, Refuses, RefusesFor, Stands, Mirrors, Reflects, PhaseHolds, IsStage, WaitsNot, HaveSlots, world_of, txn_of}
use Rattle.session_engine.proofs.ListedLemmas.{quiet_catalog, still_catalog}
use Rattle.session_engine.proofs.ListingLemmas.{undone_catalog}
use Rattle.session_engine.proofs.MoveLemmas.{store_holds, same_others, entered, entered_with, moved}
use Rattle.session_engine.proofs.EventLemmas.{gone, served}
use Rattle.session_engine.proofs.StepLemmas.{own_session, phase_at, asks_nothing, stepping, stepping_with}

-- THE STORE'S LIST AND THE JOURNAL'S
pub mirrors_nil : (ms : List Made) → Mirrors [] ms → ms ≡ []
mirrors_nil [] h = refl
mirrors_nil (m ∷ ms) h = absurd h

-- the newest of both
pub record Newest (table : ℕ) (rid : RowId) (before : Option Slot) (rest : List Item) (ms : List Made) : Type 0 where
  pub made : Made
  pub older : List Made
  pub are : ms ≡ made ∷ older
  pub table_is : made.change.table ≡ table
  pub rid_is : made.change.rid ≡ rid
  pub old_is : live before ≡ made.change.old
  pub mirrors : Mirrors rest older

pub newest : (table : ℕ) (rid : RowId) (before : Option Slot) (rest : List Item) (ms : List Made) → Mirrors (Changed table rid before ∷ rest) ms → Newest table rid before rest ms
newest table rid before rest [] h = absurd h
newest table rid before rest (m ∷ ms) h = record { made = m; older = ms; are = refl; table_is = h.0; rid_is = h.1; old_is = h.2; mirrors = h.3 }

-- a refused statement's own items, one less
pub stands_less : (mark : ℕ) (table : ℕ) (rid : RowId) (before : Option Slot) (rest : List Item) (x x' : Txn) → Stands mark (Changed table rid before ∷ rest) x → length (Changed table rid before ∷ rest) ≢ mark
    → x'.changes ≡ rest_of x.changes → x'.begun ≡ x.begun → Stands mark rest x'
stands_less mark table rid before rest x x' h more changes begun = go h.own_items h.own h.items_are h.changes_are h.mirrors_own
  where
    go : (oi : List Item) (own : List Made) → (Changed table rid before ∷ rest) ≡ oi ++ h.base → x.changes ≡ own ++ x.begun → Mirrors oi own → Stands mark rest x'
    go [] own e c m = absurd (more (ap length e ∙ h.length_is))
    go (Created k ∷ oi) own e c m = cc
    go (Discarded k ∷ oi) own e c m = absurd m
    go (Changed t r b ∷ oi) [] e c m = absurd m
    go (Changed t r b ∷ oi) (o ∷ own) e c m = record {
      own_items = oi;
      base = h.base;
      own = own;
      items_are = (let same : rest ≡ oi ++ h.base = cc in same);
      length_is = h.length_is;
      changes_are = changes ∙ ap rest_of c ∙ ap (λ y. own ++ y) (sym begun);
      mirrors_own = m.3;
      mirrors_base = subst (Mirrors h.base) (sym begun) h.mirrors_base;
    }

-- WHAT STANDS once the newest change is taken back
live_back : (heaps : Heaps) (table : ℕ) (rid : RowId) (before : Option Slot) (old : Option (List Value)) → live before ≡ old → heaps table rid ≢ None
    → (b : ℕ) (r : RowId) → (current : Tables) → live (heaps b r) ≡ current b r → live (put_slot heaps table rid (put_back before (heaps table rid)) b r) ≡ put current table rid old b r
live_back heaps table rid before old was there b r current same = elim (cases_Bool (b == table)) [
  | inl tb ↦ elim (cases_Bool (is_same_rid r rid)) [
    | inl row ↦ ap (λ x. live (if x then (if is_same_rid r rid then put_back before (heaps table rid) else heaps b r) else heaps b r)) tb
        ∙ ap (λ x. live (if x then put_back before (heaps table rid) else heaps b r)) row ∙ back before (heaps table rid) there
        ∙ was ∙ sym (ap (λ x. if x && is_same_rid r rid then old else current b r) tb ∙ ap (λ x. if x then old else current b r) row)
    | inr other ↦ ap (λ x. live (if x then (if is_same_rid r rid then put_back before (heaps table rid) else heaps b r) else heaps b r)) tb
        ∙ ap (λ x. live (if x then put_back before (heaps table rid) else heaps b r)) other ∙ same
        ∙ sym (ap (λ x. if x && is_same_rid r rid then old else current b r) tb ∙ ap (λ x. if x then old else current b r) other)
  ]
  | inr other ↦ ap (λ x. live (if x then (if is_same_rid r rid then put_back before (heaps table rid) else heaps b r) else heaps b r)) other ∙ same
      ∙ sym (ap (λ x. if x && is_same_rid r rid then old else current b r) other)
]
  where
    back : (before slot : Option Slot) → slot ≢ None → live (put_back before slot) ≡ live before
    back before None ne = absurd (ne refl)
    back None (Some s) ne = refl
    back (Some x) (Some s) ne = refl

slot_stays : (heaps : Heaps) (table : ℕ) (rid : RowId) (before : Option Slot) (b : ℕ) (r : RowId) → heaps b r ≢ None → put_slot heaps table rid (put_back before (heaps table rid)) b r ≢ None
slot_stays heaps table rid before b r there = elim (cases_Bool (b == table)) [
  | inl tb ↦ elim (cases_Bool (is_same_rid r rid)) [
    | inl row ↦ λ none. back before (heaps table rid) (λ e. there (ap (λ x. heaps x r) (eqb-true b table tb) ∙ ap (heaps table) (rid_is r rid row) ∙ e))
        (sym (ap (λ x. if x then (if is_same_rid r rid then put_back before (heaps table rid) else heaps b r) else heaps b r) tb ∙ ap (λ x. if x then put_back before (heaps table rid) else heaps b r) row) ∙ none)
    | inr other ↦ λ none. there (sym (ap (λ x. if x then (if is_same_rid r rid then put_back before (heaps table rid) else heaps b r) else heaps b r) tb ∙ ap (λ x. if x then put_back before (heaps table rid) else heaps b r) other) ∙ none)
  ]
  | inr other ↦ λ none. there (sym (ap (λ x. if x then (if is_same_rid r rid then put_back before (heaps table rid) else heaps b r) else heaps b r) other) ∙ none)
]
  where
    back : (before slot : Option Slot) → slot ≢ None → put_back before slot ≡ None → ⊥
    back before None ne e = ne refl
    back None (Some s) ne e = cc
    back (Some x) (Some s) ne e = cc

pub heap_elsewhere : (heaps : Heaps) (table : ℕ) (rid : RowId) (slot : Option Slot) (b : ℕ) (r : RowId) → (b ≡ table → r ≡ rid → ⊥) → put_slot heaps table rid slot b r ≡ heaps b r
heap_elsewhere heaps table rid slot b r ne = elim (cases_Bool (b == table)) [
  | inl tb ↦ ap (λ x. if x then (if is_same_rid r rid then slot else heaps b r) else heaps b r) tb
      ∙ ap (λ x. if x then slot else heaps b r) (false_from_ne_true _ (λ row. ne (eqb-true b table tb) (rid_is r rid row)))
  | inr other ↦ ap (λ x. if x then (if is_same_rid r rid then slot else heaps b r) else heaps b r) other
]

-- one who relies on the catalog keeps its rows as they are while another changes a place of its own
pub beside_place : (l : Locks) (a t table : ℕ) (rid : RowId) → Fits l → l.writes a table rid ≡ true → t ≢ a → (b : ℕ) (r : RowId) → l.reads t b r ≡ true → (b ≡ table → r ≡ rid → ⊥)
beside_place l a t table rid fits x ne b r reads e k =
    ne (sym (fits.alone a t table rid x (subst (λ y. l.reads t table y ≡ true) k (subst (λ y. l.reads t y r ≡ true) e reads))))

pub each_slots : (v v' : View) (ms : List Made) → ((b : ℕ) (r : RowId) → v.content.heaps b r ≢ None → v'.content.heaps b r ≢ None) → HaveSlots v ms → HaveSlots v' ms
each_slots v v' [] f h = tt
each_slots v v' (m ∷ ms) f h = (f m.change.table m.change.rid h.0, each_slots v v' ms f h.1)

-- a connection behind an entry of its transaction
pub conn_at : (w : World) (a c : ℕ) (k : Conn) → (w.txns a).conn ≡ c → number_at w.conns (w.txns a).conn k c ≡ k
conn_at w a c k e = ap (number_at w.conns (w.txns a).conn k) (sym e) ∙ at_same w.conns (w.txns a).conn k

pub at_conn : {X : Type 0} → (w : World) (a c : ℕ) → (w.txns a).conn ≡ c → (f : Conn → X) → f (w.conns (w.txns a).conn) ≡ f (w.conns c)
at_conn w a c e f = ap (λ n. f (w.conns n)) e

-- A CHANGE TAKEN BACK, with its own part given behind it
returnable_after : (x : Stage) → is_returnable x ≡ true → is_returnable (after_undone x) ≡ true
returnable_after x h = grind arith

untold_after : (x : Stage) → is_untold x ≡ true → is_untold (after_undone x) ≡ true
untold_after x h = grind arith

leaving_after : after_undone leaving ≡ leaving
leaving_after = refl

or_false_right : (x : Bool) → (x || false) ≡ x
or_false_right true = refl
or_false_right false = refl

stays_open : (x : Stage) → is_untold x ≡ true → (c : Bool) → (closes_by_undone x || c) ≡ c
stays_open x h c = grind arith

untold_returnable : (x : Stage) → is_untold x ≡ true → is_returnable x ≡ true
untold_returnable x h = grind arith

-- what the transaction is behind the entry
abbrev back_txn : Txn → Txn
back_txn x = record x { stage = after_undone x.stage; changes = rest_of x.changes; standing = rest_of x.standing }

undoes : (st : State) (last k : ℕ) (r : Session) (made : Vec ℕ Global) (v' : View) (did table : ℕ) (rid : RowId) (before : Option Slot) (rest : List Item)
    → k < length st.ss → r ≡ get_or st.ss k r → Busy (world_of st.es) st.lock st.view last (k + 1) r → WaitsNot r → r.made.items ≡ made.items ++ did ∷ []
    → is_returnable ((world_of st.es).txns (txn_of r)).stage ≡ true → IsStage r.phase (after_undone ((world_of st.es).txns (txn_of r)).stage)
    → (r.closed ≡ false → closes_by_undone ((world_of st.es).txns (txn_of r)).stage ≡ false)
    → st.view.content.changes (txn_of r) ≡ Some (Changed table rid before ∷ rest) → r.opened ≡ true
    → v'.content ≡ record (taken_back st.view.content (Changed table rid before)) { changes = at_number st.view.content.changes (txn_of r) (Some rest) }
    → ((b : ℕ) → b ≢ k + 1 → v'.actors b ≡ st.view.actors b) → v'.limit ≡ st.view.limit
    → ((x : (apply (world_of st.es) (entry.Undone r.txn did)).txns (txn_of r) ≡ back_txn ((world_of st.es).txns (txn_of r))) → v'.content.changes (txn_of r) ≡ Some rest
    → Busy (apply (world_of st.es) (entry.Undone r.txn did)) st.lock v' last (k + 1) (record r { made = made })
    → PhaseHolds r.phase (apply (world_of st.es) (entry.Undone r.txn did)) st.lock v' last (k + 1) (record r { made = made }))
    → Holds st last
    → Holds (record { es = st.es ++ entry.Undone r.txn did ∷ []; ls = st.ls; lock = st.lock; ss = set st.ss k (record r { made = made }); view = v'; named = left_named table st.named }) last
undoes st last k r made v' did table rid before rest lt at busy quiet pop returnable stage closes items opened content actors limit phase ok =
    let w = world_of st.es in
    let l = locks_of st.lock.grants in
    let a = txn_of r in
    let e = entry.Undone r.txn did in
    let w' = apply w e in
    let mine = own_session st last k r lt at ok in
    let x : w'.txns a ≡ back_txn (w.txns a) = at_same w.txns a _ in
    let reflects : Reflects true (st.view.content.changes a) (w.txns a).changes = subst (λ o. Reflects o (st.view.content.changes a) (w.txns a).changes) opened busy.reflects in
    let list_is : reflects.0 ≡ Changed table rid before ∷ rest = (let same : Some reflects.0 ≡ Some (Changed table rid before ∷ rest) = sym reflects.1 ∙ items in cc) in
    let n = newest table rid before rest (w.txns a).changes (subst (λ i. Mirrors i (w.txns a).changes) list_is reflects.2) in
    let top : (w.txns a).changes ≡ n.made ∷ n.older = n.are in
    let numbers : n.made.number ∷ map (λ m. m.number) n.older ≡ did ∷ reverse made.items =
    ap (map (λ (m : Made). m.number)) (sym top) ∙ busy.numbers ∙ ap reverse pop ∙ reverse-append made.items (did ∷ []) in
    let head : n.made.number ≡ did = cc in
    let tail : map (λ (m : Made). m.number) n.older ≡ reverse made.items = cc in
    let owned = subst (Written l a) top (ok.shared.txns a).owned in
    let wrote : l.writes a table rid ≡ true = subst (λ y. l.writes a table y ≡ true) n.rid_is (subst (λ y. l.writes a y n.made.change.rid ≡ true) n.table_is owned.0) in
    let catalog = lawful_of a n.made n.older w l (ok.shared.txns a) top in
    let slots : HaveSlots st.view (n.made ∷ n.older) = subst (HaveSlots st.view) top busy.slots in
    let there : st.view.content.heaps table rid ≢ None = subst (λ y. st.view.content.heaps table y ≢ None) n.rid_is (subst (λ y. st.view.content.heaps y n.made.change.rid ≢ None) n.table_is slots.0) in
    let changed : v'.content.changes a ≡ Some rest = ap (λ (d : Content). d.changes a) content ∙ at_same st.view.content.changes a (Some rest) in
    let current : w'.current ≡ put w.current table rid n.made.change.old =
    ap (λ ms. newest_undone ms w.current) top ∙ ap (λ y. put w.current y n.made.change.rid n.made.change.old) n.table_is ∙ ap (λ y. put w.current table y n.made.change.old) n.rid_is in
    let s' : Session = record r { made = made } in
    let kept : w'.conns (k + 1) ≡ _ = conn_at w a (k + 1) _ busy.conn in
    let busy' : Busy w' st.lock v' last (k + 1) s' = record {
      stage = subst (λ (y : Txn). IsStage r.phase y.stage) (sym x) stage;
      conn = ap (λ (y : Txn). y.conn) x ∙ busy.conn;
      mine = ap (λ (y : Conn). y.txn) kept ∙ at_conn w a (k + 1) busy.conn (λ y. y.txn) ∙ busy.mine;
      positive = busy.positive;
      numbered = busy.numbered;
      numbers = ap (λ (y : Txn). map (λ m. m.number) y.changes) x ∙ ap (λ ms. map (λ (m : Made). m.number) (rest_of ms)) top ∙ tail;
      reflects = subst (λ o. Reflects o (v'.content.changes a) (w'.txns a).changes) (sym opened)
          (rest, changed, subst (λ (y : Txn). Mirrors rest y.changes) (sym x) (subst (λ ms. Mirrors rest (rest_of ms)) (sym top) n.mirrors));
      slots = subst (λ (y : Txn). HaveSlots v' y.changes) (sym x) (subst (λ ms. HaveSlots v' (rest_of ms)) (sym top) (each_slots st.view v' n.older (λ b q had. λ none.
          slot_stays st.view.content.heaps table rid before b q had (sym (ap (λ (d : Content). d.heaps b q) content) ∙ none)) slots.1));
      containers = subst (λ (y : Txn). MakesAlone w.committed st.lock a (changes_in (v'.content.changes a)) y.changes) (sym x)
          (subst (λ i. MakesAlone w.committed st.lock a (changes_in i) (rest_of (w.txns a).changes)) (sym changed)
          (subst (λ i. MakesAlone w.committed st.lock a (changes_in i) (w.txns a).changes) items busy.containers));
      idle = busy.idle;
    } in
    let own : SessionHolds w' st.lock v' last (k + 1) s' = record {
      begun = ap (λ (y : Conn). y.begun) kept ∙ at_conn w a (k + 1) busy.conn (λ y. y.begun) ∙ mine.begun;
      level = ap (λ (y : Conn). y.level) kept ∙ at_conn w a (k + 1) busy.conn (λ y. y.level) ∙ mine.level;
      automatic = ap (λ (y : Conn). y.automatic) kept ∙ at_conn w a (k + 1) busy.conn (λ y. y.automatic) ∙ mine.automatic;
      closed = λ live. ap (λ (y : Conn). y.closed) kept ∙ or_from _ _ (closes live) (at_conn w a (k + 1) busy.conn (λ y. y.closed) ∙ mine.closed live);
      spans = mine.spans;
      phase = phase x changed busy';
    } in
    entered_with st last e a k s' v' last (left_named table st.named)
    (record { session = returnable; undo = (n.made, n.older, top, head); change = tt; refusal = tt }) tt (undone_kept r.txn did n.made n.older w l returnable top ok.shared)
    (stepping_with st last w' k r s' v' (left_named table st.named) lt at busy quiet (undone_others r.txn did n.made n.older w l ok.shared.fits top owned.0 catalog)
    (record {
      txns = λ t ne. ap (λ (d : Content). d.changes t) content ∙ at_other st.view.content.changes a (Some rest) t ne;
      actors = actors;
      limit_same = limit;
      heaps = λ t ne reads b q h. ap (λ (d : Content). d.heaps b q) content
          ∙ heap_elsewhere st.view.content.heaps table rid (put_back before (st.view.content.heaps table rid)) b q (beside_place l a t table rid ok.shared.fits wrote ne b q h);
      columns = λ t ne reads b. ap (λ (d : Content). d.columns b) content;
      next = (let same = ap (λ (d : Content). d.next_container) content in omega (arith, same));
    })
    (λ i ne. at_other w.conns (w.txns a).conn _ i (λ same. ne (same ∙ busy.conn))) own (inl refl) refl (omega arith) ok.last_is
    (subst (λ (d : Content). Each (λ m. m < d.next_container) w.given) (sym content) ok.given)
    (λ b q. ap (λ (d : Content). live (d.heaps b q)) content ∙ live_back st.view.content.heaps table rid before n.made.change.old n.old_is there b q w.current (ok.stored b q) ∙ ap (λ (f : Tables). f b q) (sym current))
    (subst (λ y. Cataloged v' w' (left_named y st.named)) n.table_is
    (undone_catalog st.view v' w w' l a n.made n.older st.named ok.shared top (ap (λ ms. newest_undone ms w.current) top) (ap (λ (y : Txn). y.changes) x ∙ ap rest_of top) (λ t ne. at_other w.txns a _ t ne)
    (λ c. ap (λ (d : Content). d.columns c) content) (ap (λ (d : Content). d.next_container) content) ok.cataloged))) ok

-- .. of a refused statement
pub undoes_statement : (st : State) (last k : ℕ) (r : Session) (made : Vec ℕ Global) (v' : View) (why : Refusal) (did table : ℕ) (rid : RowId) (before : Option Slot) (rest : List Item)
    → k < length st.ss → r ≡ get_or st.ss k r → r.phase ≡ Refusing → r.plan ≡ plan.Refuse why → r.made.items ≡ made.items ++ did ∷ []
    → st.view.content.changes (txn_of r) ≡ Some (Changed table rid before ∷ rest) → length (Changed table rid before ∷ rest) ≢ r.mark
    → v'.content ≡ record (taken_back st.view.content (Changed table rid before)) { changes = at_number st.view.content.changes (txn_of r) (Some rest) }
    → ((b : ℕ) → b ≢ k + 1 → v'.actors b ≡ st.view.actors b) → v'.limit ≡ st.view.limit → Holds st last
    → Holds (record { es = st.es ++ entry.Undone r.txn did ∷ []; ls = st.ls; lock = st.lock; ss = set st.ss k (record r { made = made }); view = v'; named = left_named table st.named }) last
undoes_statement st last k r made v' why did table rid before rest lt at is planned pop items more content actors limit ok =
    let w = world_of st.es in
    let w' = apply w (entry.Undone r.txn did) in
    let mine = own_session st last k r lt at ok in
    let p = phase_at Refusing w st.lock st.view last (k + 1) r is mine in
    let untold : is_untold (w.txns (txn_of r)).stage ≡ true = subst (λ q. IsStage q (w.txns (txn_of r)).stage) is p.0.stage in
    let h : Refuses w st.lock st.view r why = subst (RefusesFor w st.lock st.view r) planned p.3 in
    undoes st last k r made v' did table rid before rest lt at p.0 p.1 pop (untold_returnable _ untold) (subst (λ q. IsStage q (after_undone (w.txns (txn_of r)).stage)) (sym is) (untold_after _ untold))
    (λ live. sym (or_false_right (closes_by_undone (w.txns (txn_of r)).stage)) ∙ stays_open (w.txns (txn_of r)).stage untold false) items p.2 content actors limit
    (λ x changed busy. subst (λ q. PhaseHolds q w' st.lock v' last (k + 1) (record r { made = made })) (sym is) (
      busy,
      p.1,
      p.2,
      subst (RefusesFor w' st.lock v' (record r { made = made })) (sym planned) (record {
        first = ap (λ (y : Txn). y.first) x ∙ h.first;
        shown = elim h.shown [
          | inl free ↦ inl ((λ tables. subst (λ (y : Txn). HasEvidence y.text tables why) (sym x) (free.0 tables)), free.1)
          | inr rests ↦ inr (rests.0, subst (λ (y : Txn). HasEvidence y.text (laid_over y.begun w.committed) why) (sym x) rests.1)
        ];
        stands = subst (λ i. Stands r.mark (changes_in i) (w'.txns (txn_of r))) (sym changed)
            (stands_less r.mark table rid before rest (w.txns (txn_of r)) (w'.txns (txn_of r)) (subst (λ i. Stands r.mark (changes_in i) (w.txns (txn_of r))) items h.stands) more
            (ap (λ (y : Txn). y.changes) x) (ap (λ (y : Txn). y.begun) x));
      }),
    )) ok

-- .. of a transaction that leaves
pub undoes_transaction : (st : State) (last k : ℕ) (r : Session) (made : Vec ℕ Global) (v' : View) (did table : ℕ) (rid : RowId) (before : Option Slot) (rest : List Item)
    → k < length st.ss → r ≡ get_or st.ss k r → r.phase ≡ Leaving → r.opened ≡ true → r.made.items ≡ made.items ++ did ∷ []
    → st.view.content.changes (txn_of r) ≡ Some (Changed table rid before ∷ rest)
    → v'.content ≡ record (taken_back st.view.content (Changed table rid before)) { changes = at_number st.view.content.changes (txn_of r) (Some rest) }
    → ((b : ℕ) → b ≢ k + 1 → v'.actors b ≡ st.view.actors b) → v'.limit ≡ st.view.limit → Holds st last
    → Holds (record { es = st.es ++ entry.Undone r.txn did ∷ []; ls = st.ls; lock = st.lock; ss = set st.ss k (record r { made = made }); view = v'; named = left_named table st.named }) last
undoes_transaction st last k r made v' did table rid before rest lt at is opened pop items content actors limit ok =
    let w = world_of st.es in
    let w' = apply w (entry.Undone r.txn did) in
    let mine = own_session st last k r lt at ok in
    let p = phase_at Leaving w st.lock st.view last (k + 1) r is mine in
    let returnable : is_returnable (w.txns (txn_of r)).stage ≡ true = subst (λ q. IsStage q (w.txns (txn_of r)).stage) is p.0.stage in
    undoes st last k r made v' did table rid before rest lt at p.0 p.1 pop returnable (subst (λ q. IsStage q (after_undone (w.txns (txn_of r)).stage)) (sym is) (returnable_after _ returnable))
    (λ live. ap closes_by_undone (p.2 live)) items opened content actors limit
    (λ x changed busy. subst (λ q. PhaseHolds q w' st.lock v' last (k + 1) (record r { made = made })) (sym is) (
      busy,
      p.1,
      λ live. ap (λ (y : Txn). y.stage) x ∙ ap after_undone (p.2 live),
    )) ok

-- THE END OF A TRANSACTION: the connection is idle
abbrev pub idle_session : Session → Bool → Vec ℕ Global → Option Order → Plan → Session
idle_session r closed made order planned = record r { phase = Idle; txn = record { 0 = 0 }; opened = false; closed = closed; made = made; order = order; plan = planned }

idles : (w w' : World) (l : Lock) (v' : View) (last c : ℕ) (r : Session) (closed : Bool) (made : Vec ℕ Global) (order : Option Order) (planned : Plan) (k' : Conn) → WaitsNot r → w'.conns c ≡ k' → k'.begun ≡ r.begun → k'.level ≡ r.level → k'.automatic ≡ r.automatic
    → (closed ≡ false → k'.closed ≡ false) → k'.txn ≡ None → r.spans ≡ spans_of r.script → made.items ≡ [] → SessionHolds w' l v' last c (idle_session r closed made order planned)
idles w w' l v' last c r closed made order planned k' quiet at begun level automatic shut none spans empty = record {
  begun = ap (λ (y : Conn). y.begun) at ∙ begun;
  level = ap (λ (y : Conn). y.level) at ∙ level;
  automatic = ap (λ (y : Conn). y.automatic) at ∙ automatic;
  closed = λ live. ap (λ (y : Conn). y.closed) at ∙ shut live;
  spans = spans;
  phase = (quiet, ap (λ (y : Conn). y.txn) at ∙ none, refl, refl, empty);
}

-- what the store shows once a transaction is open no more
pub record Closes (a c : ℕ) (v v' : View) : Type 0 where
  pub heaps : (table : ℕ) (rid : RowId) → v'.content.heaps table rid ≡ v.content.heaps table rid
  pub columns : (table : ℕ) → v'.content.columns table ≡ v.content.columns table
  pub gone : v'.content.changes a ≡ None
  pub txns : (t : ℕ) → t ≢ a → v'.content.changes t ≡ v.content.changes t
  pub containers : v'.content.next_container ≡ v.content.next_container
  pub actors : (b : ℕ) → b ≢ c → v'.actors b ≡ v.actors b
  pub limit_same : v'.limit ≡ v.limit

pub closes : (a c : ℕ) (v v' : View) → v'.content ≡ without_txn v.content a → ((b : ℕ) → b ≢ c → v'.actors b ≡ v.actors b) → v'.limit ≡ v.limit → Closes a c v v'
closes a c v v' content actors limit = record {
  heaps = λ table rid. ap (λ (d : Content). d.heaps table rid) content;
  columns = λ table. ap (λ (d : Content). d.columns table) content;
  gone = ap (λ (d : Content). d.changes a) content ∙ at_same v.content.changes a None;
  txns = λ t ne. ap (λ (d : Content). d.changes t) content ∙ at_other v.content.changes a None t ne;
  containers = ap (λ (d : Content). d.next_container) content;
  actors = actors;
  limit_same = limit;
}

pub closed_already : (a c : ℕ) (v : View) → v.content.changes a ≡ None → Closes a c v v
closed_already a c v none = record { heaps = λ table rid. refl; columns = λ table. refl; gone = none; txns = λ t ne. refl; containers = refl; actors = λ b ne. refl; limit_same = refl }

-- .. by a rollback of which nothing is left
pub rolled_back : (st : State) (last k : ℕ) (r : Session) (closed : Bool) (made : Vec ℕ Global) (order : Option Order) (planned : Plan) (v' : View)
    → k < length st.ss → r ≡ get_or st.ss k r → r.phase ≡ Leaving → (closed ≡ false → r.closed ≡ false) → made.items ≡ []
    → ((world_of st.es).txns (txn_of r)).changes ≡ [] → Closes (txn_of r) (k + 1) st.view v' → Holds st last
    → Holds (record { es = st.es ++ entry.RolledBack r.txn ∷ []; ls = st.ls; lock = st.lock; ss = set st.ss k (idle_session r closed made order planned); view = v'; named = st.named }) last
rolled_back st last k r closed made order planned v' lt at is shut empty none ends ok =
    let w = world_of st.es in
    let l = locks_of st.lock.grants in
    let a = txn_of r in
    let e = entry.RolledBack r.txn in
    let w' = apply w e in
    let mine = own_session st last k r lt at ok in
    let p = phase_at Leaving w st.lock st.view last (k + 1) r is mine in
    let busy = p.0 in
    let returnable : is_returnable (w.txns a).stage ≡ true = subst (λ q. IsStage q (w.txns a).stage) is busy.stage in
    entered st last e a k (idle_session r closed made order planned) v' last (record { session = returnable; undo = none; change = tt; refusal = tt }) tt (rolled_back_kept r.txn w l none ok.shared)
    (stepping st last w' k r (idle_session r closed made order planned) v' lt at busy p.1 (quiet_others a w l w' refl refl refl (λ t ne. at_other w.txns a _ t ne))
    (record {
      txns = ends.txns;
      actors = ends.actors;
      limit_same = ends.limit_same;
      heaps = λ t ne reads b q h. ends.heaps b q;
      columns = λ t ne reads b. ends.columns b;
      next = (let same = ends.containers in omega (arith, same));
    })
    (λ i ne. at_other w.conns (w.txns a).conn _ i (λ same. ne (same ∙ busy.conn)))
    (idles w w' st.lock v' last (k + 1) r closed made order planned _ p.1 (conn_at w a (k + 1) _ busy.conn)
    (at_conn w a (k + 1) busy.conn (λ y. y.begun) ∙ mine.begun) (at_conn w a (k + 1) busy.conn (λ y. y.level) ∙ mine.level) (at_conn w a (k + 1) busy.conn (λ y. y.automatic) ∙ mine.automatic)
    (λ live. or_from _ _ (ap (λ x. not (is_leaving x)) (p.2 (shut live))) (at_conn w a (k + 1) busy.conn (λ y. y.closed) ∙ mine.closed (shut live))) refl mine.spans empty)
    (inr ends.gone) refl (omega arith) ok.last_is
    (subst (λ n. Each (λ m. m < n) w.given) (sym ends.containers) ok.given)
    (λ b q. ap live (ends.heaps b q) ∙ ok.stored b q)
    (quiet_catalog a st.view v' w w' st.named refl ends.columns ends.containers (λ t ne. at_other w.txns a _ t ne) (inr (ap (λ (y : Txn). y.changes) (at_same w.txns a _))) ok.cataloged)) ok

-- .. by an acknowledged commit
pub acknowledged : (st : State) (last k : ℕ) (r : Session) (made : Vec ℕ Global) (order : Option Order) (planned : Plan)
    → k < length st.ss → r ≡ get_or st.ss k r → r.phase ≡ Acknowledging → made.items ≡ [] → Holds st last
    → Holds (record { es = st.es ++ entry.Acknowledged r.txn ∷ []; ls = st.ls; lock = st.lock; ss = set st.ss k (idle_session r r.closed made order planned); view = st.view; named = st.named }) last
acknowledged st last k r made order planned lt at is empty ok =
    let w = world_of st.es in
    let l = locks_of st.lock.grants in
    let a = txn_of r in
    let e = entry.Acknowledged r.txn in
    let w' = apply w e in
    let mine = own_session st last k r lt at ok in
    let p = phase_at Acknowledging w st.lock st.view last (k + 1) r is mine in
    let busy = p.0 in
    let stage : (w.txns a).stage ≡ settled = subst (λ q. IsStage q (w.txns a).stage) is busy.stage in
    let reflects : Reflects false (st.view.content.changes a) (w.txns a).changes = subst (λ o. Reflects o (st.view.content.changes a) (w.txns a).changes) p.2 busy.reflects in
    entered st last e a k (idle_session r r.closed made order planned) st.view last (record { session = stage; undo = tt; change = tt; refusal = tt }) tt (acknowledged_kept r.txn w l ok.shared)
    (stepping st last w' k r (idle_session r r.closed made order planned) st.view lt at busy p.1 (quiet_others a w l w' refl refl refl (λ t ne. at_other w.txns a _ t ne))
    (store_holds l a (k + 1) st.view st.view refl (λ b ne. refl) refl)
    (λ i ne. at_other w.conns (w.txns a).conn _ i (λ same. ne (same ∙ busy.conn)))
    (idles w w' st.lock st.view last (k + 1) r r.closed made order planned _ p.1 (conn_at w a (k + 1) _ busy.conn)
    (at_conn w a (k + 1) busy.conn (λ y. y.begun) ∙ mine.begun) (at_conn w a (k + 1) busy.conn (λ y. y.level) ∙ mine.level) (at_conn w a (k + 1) busy.conn (λ y. y.automatic) ∙ mine.automatic)
    (λ live. at_conn w a (k + 1) busy.conn (λ y. y.closed) ∙ mine.closed live) refl mine.spans empty)
    (inr reflects.0) refl (omega arith) ok.last_is ok.given ok.stored
    (quiet_catalog a st.view st.view w w' st.named refl (λ n. refl) refl (λ t ne. at_other w.txns a _ t ne) (inl (ap (λ (y : Txn). y.changes) (at_same w.txns a _))) ok.cataloged)) ok

-- ALL LOCKS GO, and what can be granted is granted, all at one place
pub releases : (st : State) (last place : ℕ) (a : TxnNo) (old new : LockTable) → place ≡ length st.es → lock old ≡ st.lock → ((world_of st.es).txns a.0).stage ≡ over → ((world_of st.es).txns a.0).changes ≡ []
    → ((world_of st.es).txns a.0).standing ≡ [] → ((i : ℕ) (s : Session) → Busy (world_of st.es) st.lock st.view last i s → same_txn a s.txn ≡ false) → All (λ (r : Request). same_txn a r.txn ≡ false) (queue st.lock)
    → (given : List Request) → Serves (lock_apply (lock old) (ReleasedAll a)).grants [] (queue (lock_apply (lock old) (ReleasedAll a))) given (queue (lock new))
    → lock new ≡ apply_all (lock_apply (lock old) (ReleasedAll a)) (grants_of given) → Holds st last
    → Holds (record { es = st.es; ls = st.ls ++ record { place = place; event = ReleasedAll a } ∷ noted place given; lock = lock new; ss = st.ss; view = st.view; named = st.named }) last
releases st last place a old new at is ends none none_standing apart free given order events ok =
    let freed : State = record { es = st.es; ls = st.ls ++ record { place = place; event = ReleasedAll a } ∷ []; lock = lock_apply st.lock (ReleasedAll a); ss = st.ss; view = st.view; named = st.named } in
    let holds : Holds freed last = gone st last place a at ends none none_standing apart free ok in
    let after : lock_apply (lock old) (ReleasedAll a) ≡ freed.lock = ap (λ x. lock_apply x (ReleasedAll a)) is in
    let all = served freed last place [] (queue freed.lock) given (queue (lock new)) at refl (subst (λ (x : Lock). Serves x.grants [] (queue x) given (queue (lock new))) after order) holds in
    subst (λ ls. Holds (record { es = st.es; ls = ls; lock = lock new; ss = st.ss; view = st.view; named = st.named }) last) (append_assoc st.ls (record { place = place; event = ReleasedAll a } ∷ []) (noted place given))
    (subst (λ x. Holds (record { es = st.es; ls = freed.ls ++ noted place given; lock = x; ss = st.ss; view = st.view; named = st.named }) last) (ap (λ x. apply_all x (grants_of given)) (sym after) ∙ sym events) all)

-- a connection that is idle now has no part in the transaction that is over, and nobody else has
nobody_has : (st : State) (last k : ℕ) (r : Session) → Busy (world_of st.es) st.lock st.view last (k + 1) r → (st' : State) → ((i : ℕ) → i ≢ k + 1 → (world_of st'.es).conns i ≡ (world_of st.es).conns i)
    → ((world_of st'.es).conns (k + 1)).txn ≡ None → ((t : ℕ) → t ≢ txn_of r → (world_of st'.es).txns t ≡ (world_of st.es).txns t) → ((world_of st'.es).txns (txn_of r)).conn ≡ k + 1
    → (i : ℕ) (s : Session) → Busy (world_of st'.es) st'.lock st'.view last i s → same_txn r.txn s.txn ≡ false
nobody_has st last k r busy st' conns gone_there txns owner i s b = false_from_ne_true _ (λ same.
    let e : r.txn ≡ s.txn = txn_eq r.txn s.txn same in
    let here : i ≡ k + 1 = sym b.conn ∙ ap (λ (t : TxnNo). ((world_of st'.es).txns t.0).conn) (sym e) ∙ owner in
    let both : None ≡ Some (txn_of s) = sym gone_there ∙ ap (λ n. ((world_of st'.es).conns n).txn) (sym here) ∙ b.mine in
    cc)

-- AN ACKNOWLEDGED COMMIT, whole: the entry, and all locks go
pub acknowledges : (st : State) (last k place : ℕ) (r : Session) (made : Vec ℕ Global) (old new : LockTable) → k < length st.ss → r ≡ get_or st.ss k r → r.phase ≡ Acknowledging → made.items ≡ []
    → place ≡ length (st.es ++ entry.Acknowledged r.txn ∷ []) → lock old ≡ st.lock
    → (given : List Request) → Serves (lock_apply (lock old) (ReleasedAll r.txn)).grants [] (queue (lock_apply (lock old) (ReleasedAll r.txn))) given (queue (lock new))
    → lock new ≡ apply_all (lock_apply (lock old) (ReleasedAll r.txn)) (grants_of given) → Holds st last
    → Holds (record {
      es = st.es ++ entry.Acknowledged r.txn ∷ [];
      ls = st.ls ++ record { place = place; event = ReleasedAll r.txn } ∷ noted place given;
      lock = lock new;
      ss = set st.ss k (idle_session r r.closed made None plan.Nothing);
      view = st.view;
      named = st.named;
    }) last
acknowledges st last k place r made old new lt at is empty here same given order events ok =
    let w = world_of st.es in
    let a = txn_of r in
    let e = entry.Acknowledged r.txn in
    let st' : State = record { es = st.es ++ e ∷ []; ls = st.ls; lock = st.lock; ss = set st.ss k (idle_session r r.closed made None plan.Nothing); view = st.view; named = st.named } in
    let mine = own_session st last k r lt at ok in
    let p = phase_at Acknowledging w st.lock st.view last (k + 1) r is mine in
    let busy = p.0 in
    let reflects : Reflects false (st.view.content.changes a) (w.txns a).changes = subst (λ o. Reflects o (st.view.content.changes a) (w.txns a).changes) p.2 busy.reflects in
    let holds : Holds st' last = acknowledged st last k r made None plan.Nothing lt at is empty ok in
    let push : world_of st'.es ≡ apply w e = replay_push (opening no_tables) st.es e in
    let x : (world_of st'.es).txns a ≡ _ = ap (λ (v : World). v.txns a) push ∙ at_same w.txns a _ in
    releases st' last place r.txn old new here same (ap (λ (y : Txn). y.stage) x) (ap (λ (y : Txn). y.changes) x ∙ reflects.1) (ap (λ (y : Txn). y.standing) x)
    (nobody_has st last k r busy st' (λ i ne. ap (λ (v : World). v.conns i) push ∙ at_other w.conns (w.txns a).conn _ i (λ c. ne (c ∙ busy.conn)))
    (ap (λ (v : World). (v.conns (k + 1)).txn) push ∙ ap (λ (y : Conn). y.txn) (conn_at w a (k + 1) _ busy.conn))
    (λ t ne. ap (λ (v : World). v.txns t) push ∙ at_other w.txns a _ t ne) (ap (λ (y : Txn). y.conn) x ∙ busy.conn))
    (λ i d i_lt. false_from_ne_true _ (λ hit. asks_nothing r.txn st.lock (busy.idle p.1) i d i_lt (ap (λ (t : TxnNo). t.0) (sym (txn_eq r.txn _ hit)))))
    given order events holds

-- A ROLLBACK of which nothing is left, whole
pub rolls_back : (st : State) (last k place : ℕ) (r : Session) (made : Vec ℕ Global) (v' : View) (old new : LockTable) → k < length st.ss → r ≡ get_or st.ss k r → r.phase ≡ Leaving → made.items ≡ []
    → ((world_of st.es).txns (txn_of r)).changes ≡ [] → Closes (txn_of r) (k + 1) st.view v'
    → place ≡ length (st.es ++ entry.RolledBack r.txn ∷ []) → lock old ≡ st.lock
    → (given : List Request) → Serves (lock_apply (lock old) (ReleasedAll r.txn)).grants [] (queue (lock_apply (lock old) (ReleasedAll r.txn))) given (queue (lock new))
    → lock new ≡ apply_all (lock_apply (lock old) (ReleasedAll r.txn)) (grants_of given) → Holds st last
    → Holds (record {
      es = st.es ++ entry.RolledBack r.txn ∷ [];
      ls = st.ls ++ record { place = place; event = ReleasedAll r.txn } ∷ noted place given;
      lock = lock new;
      ss = set st.ss k (idle_session r r.closed made None plan.Nothing);
      view = v';
      named = st.named;
    }) last
rolls_back st last k place r made v' old new lt at is empty none ends here same given order events ok =
    let w = world_of st.es in
    let a = txn_of r in
    let e = entry.RolledBack r.txn in
    let st' : State = record { es = st.es ++ e ∷ []; ls = st.ls; lock = st.lock; ss = set st.ss k (idle_session r r.closed made None plan.Nothing); view = v'; named = st.named } in
    let mine = own_session st last k r lt at ok in
    let p = phase_at Leaving w st.lock st.view last (k + 1) r is mine in
    let busy = p.0 in
    let holds : Holds st' last = rolled_back st last k r r.closed made None plan.Nothing v' lt at is (λ live. live) empty none ends ok in
    let push : world_of st'.es ≡ apply w e = replay_push (opening no_tables) st.es e in
    let x : (world_of st'.es).txns a ≡ _ = ap (λ (v : World). v.txns a) push ∙ at_same w.txns a _ in
    releases st' last place r.txn old new here same (ap (λ (y : Txn). y.stage) x) (ap (λ (y : Txn). y.changes) x) (ap (λ (y : Txn). y.standing) x)
    (nobody_has st last k r busy st' (λ i ne. ap (λ (v : World). v.conns i) push ∙ at_other w.conns (w.txns a).conn _ i (λ c. ne (c ∙ busy.conn)))
    (ap (λ (v : World). (v.conns (k + 1)).txn) push ∙ ap (λ (y : Conn). y.txn) (conn_at w a (k + 1) _ busy.conn))
    (λ t ne. ap (λ (v : World). v.txns t) push ∙ at_other w.txns a _ t ne) (ap (λ (y : Txn). y.conn) x ∙ busy.conn))
    (λ i d i_lt. false_from_ne_true _ (λ hit. asks_nothing r.txn st.lock (busy.idle p.1) i d i_lt (ap (λ (t : TxnNo). t.0) (sym (txn_eq r.txn _ hit)))))
    given order events holds

-- A STEP OF THE STORE in a phase that looks at no page: nothing that is stored changes, and only its actor's pages
pub own_pages : (st : State) (last k : ℕ) (r : Session) (v' : View) → k < length st.ss → r ≡ get_or st.ss k r → Busy (world_of st.es) st.lock st.view last (k + 1) r → WaitsNot r
    → v'.content ≡ st.view.content → ((b : ℕ) → b ≢ k + 1 → v'.actors b ≡ st.view.actors b) → v'.limit ≡ st.view.limit
    → PhaseHolds r.phase (world_of st.es) st.lock v' last (k + 1) r → Holds st last
    → Holds (record { es = st.es; ls = st.ls; lock = st.lock; ss = set st.ss k r; view = v'; named = st.named }) last
own_pages st last k r v' lt at busy quiet content actors limit phase ok =
    let w = world_of st.es in
    let mine = own_session st last k r lt at ok in
    moved st last (txn_of r) k r v' (stepping st last w k r r v' lt at busy quiet
    (λ t ne. same_others w st.lock t)
    (store_holds (locks_of st.lock.grants) (txn_of r) (k + 1) st.view v' content actors limit) (λ i ne. refl)
    (record { begun = mine.begun; level = mine.level; automatic = mine.automatic; closed = mine.closed; spans = mine.spans; phase = phase })
    (inl refl) refl (omega arith) ok.last_is
    (subst (λ (x : Content). Each (λ n. n < x.next_container) w.given) (sym content) ok.given)
    (λ table rid. ap (λ (x : Content). live (x.heaps table rid)) content ∙ ok.stored table rid) (still_catalog st.view v' w st.named content ok.cataloged)) ok

pub busy_pages : (w : World) (l : Lock) (v v' : View) (last c : ℕ) (r : Session) → v'.content ≡ v.content → Busy w l v last c r → Busy w l v' last c r
busy_pages w l v v' last c r e h = record {
  stage = h.stage;
  conn = h.conn;
  mine = h.mine;
  positive = h.positive;
  numbered = h.numbered;
  numbers = h.numbers;
  reflects = subst (λ (d : Content). Reflects r.opened (d.changes (txn_of r)) (w.txns (txn_of r)).changes) (sym e) h.reflects;
  slots = subst (λ (d : Content). Each (λ m. d.heaps m.change.table m.change.rid ≢ None) (w.txns (txn_of r)).changes) (sym e) h.slots;
  containers = subst (λ (d : Content). MakesAlone w.committed l (txn_of r) (changes_in (d.changes (txn_of r))) (w.txns (txn_of r)).changes) (sym e) h.containers;
  idle = h.idle;
}

pub refuses_still : (w : World) (l : Lock) (v v' : View) (r : Session) (why : Refusal) → v'.content ≡ v.content → Refuses w l v r why → Refuses w l v' r why
refuses_still w l v v' r why e h = record {
  first = h.first;
  shown = h.shown;
  stands = subst (λ (d : Content). Stands r.mark (changes_in (d.changes (txn_of r))) (w.txns (txn_of r))) (sym e) h.stands;
}

pub leaves_pages : (st : State) (last k : ℕ) (r : Session) (v' : View) → k < length st.ss → r ≡ get_or st.ss k r → r.phase ≡ Leaving
    → v'.content ≡ st.view.content → ((b : ℕ) → b ≢ k + 1 → v'.actors b ≡ st.view.actors b) → v'.limit ≡ st.view.limit → Holds st last
    → Holds (record { es = st.es; ls = st.ls; lock = st.lock; ss = set st.ss k r; view = v'; named = st.named }) last
leaves_pages st last k r v' lt at is content actors limit ok =
    let w = world_of st.es in
    let mine = own_session st last k r lt at ok in
    let p = phase_at Leaving w st.lock st.view last (k + 1) r is mine in
    own_pages st last k r v' lt at p.0 p.1 content actors limit (subst (λ q. PhaseHolds q w st.lock v' last (k + 1) r) (sym is) (busy_pages w st.lock st.view v' last (k + 1) r content p.0, p.1, p.2)) ok

pub refuses_pages : (st : State) (last k : ℕ) (r : Session) (why : Refusal) (v' : View) → k < length st.ss → r ≡ get_or st.ss k r → r.phase ≡ Refusing → r.plan ≡ plan.Refuse why
    → v'.content ≡ st.view.content → ((b : ℕ) → b ≢ k + 1 → v'.actors b ≡ st.view.actors b) → v'.limit ≡ st.view.limit → Holds st last
    → Holds (record { es = st.es; ls = st.ls; lock = st.lock; ss = set st.ss k r; view = v'; named = st.named }) last
refuses_pages st last k r why v' lt at is planned content actors limit ok =
    let w = world_of st.es in
    let mine = own_session st last k r lt at ok in
    let p = phase_at Refusing w st.lock st.view last (k + 1) r is mine in
    own_pages st last k r v' lt at p.0 p.1 content actors limit (subst (λ q. PhaseHolds q w st.lock v' last (k + 1) r) (sym is) (busy_pages w st.lock st.view v' last (k + 1) r content p.0, p.1, p.2, subst (RefusesFor w st.lock v' r) (sym planned) (refuses_still w st.lock st.view v' r why content (subst (RefusesFor w st.lock st.view r) planned p.3)))) ok

-- a transaction of which no item stands has no change left
pub nothing_left : (w : World) (l : Lock) (v : View) (last c : ℕ) (r : Session) → Busy w l v last c r → r.opened ≡ true → length (changes_in (v.content.changes (txn_of r))) ≡ 0 → (w.txns (txn_of r)).changes ≡ []
nothing_left w l v last c r busy opened none =
    let h : Reflects true (v.content.changes (txn_of r)) (w.txns (txn_of r)).changes = subst (λ o. Reflects o (v.content.changes (txn_of r)) (w.txns (txn_of r)).changes) opened busy.reflects in
    let empty : length h.0 ≡ 0 = ap (λ i. length (changes_in i)) (sym h.1) ∙ none in
    mirrors_nil (w.txns (txn_of r)).changes (subst (λ items. Mirrors items (w.txns (txn_of r)).changes) (nil_from_length h.0 empty) h.2)

pub leaves_done : (st : State) (last k : ℕ) (r : Session) → k < length st.ss → r ≡ get_or st.ss k r → r.phase ≡ Leaving → r.opened ≡ true → length (changes_in (st.view.content.changes (txn_of r))) ≡ 0 → Holds st last
    → ((world_of st.es).txns (txn_of r)).changes ≡ []
leaves_done st last k r lt at is opened none ok =
    let mine = own_session st last k r lt at ok in
    nothing_left (world_of st.es) st.lock st.view last (k + 1) r (phase_at Leaving (world_of st.es) st.lock st.view last (k + 1) r is mine).0 opened none

-- a transaction that the store never had has changed nothing
not_there : (o : Bool) (items : Option (List Item)) (ms : List Made) → o ≡ false → Reflects o items ms → (items ≡ None) × (ms ≡ [])
not_there true items ms e h = absurd (both_ways true e refl)
not_there false items ms e h = h

pub never_there : (st : State) (last k : ℕ) (r : Session) → k < length st.ss → r ≡ get_or st.ss k r → r.phase ≡ Leaving → r.opened ≡ false → Holds st last
    → (st.view.content.changes (txn_of r) ≡ None) × (((world_of st.es).txns (txn_of r)).changes ≡ [])
never_there st last k r lt at is shut ok =
    let p = phase_at Leaving (world_of st.es) st.lock st.view last (k + 1) r is (own_session st last k r lt at ok) in
    not_there r.opened (st.view.content.changes (txn_of r)) ((world_of st.es).txns (txn_of r)).changes shut p.0.reflects

-- THE SCRIPT HAS ENDED: what is open is to be taken back
pub gives_up : (st : State) (last k : ℕ) (r : Session) → k < length st.ss → r ≡ get_or st.ss k r → r.phase ≡ Resting → Holds st last
    → Holds (record { es = st.es; ls = st.ls; lock = st.lock; ss = set st.ss k (record r { phase = Leaving; closed = true }); view = st.view; named = st.named }) last
gives_up st last k r lt at is ok =
    let w = world_of st.es in
    let s' : Session = record r { phase = Leaving; closed = true } in
    let mine = own_session st last k r lt at ok in
    let p = phase_at Resting w st.lock st.view last (k + 1) r is mine in
    let busy = p.0 in
    let rests : (w.txns (txn_of r)).stage ≡ resting = subst (λ q. IsStage q (w.txns (txn_of r)).stage) is busy.stage in
    moved st last (txn_of r) k s' st.view (stepping st last w k r s' st.view lt at busy p.1
    (λ t ne. same_others w st.lock t)
    (store_holds (locks_of st.lock.grants) (txn_of r) (k + 1) st.view st.view refl (λ b ne. refl) refl) (λ i ne. refl)
    (record {
      begun = mine.begun;
      level = mine.level;
      automatic = mine.automatic;
      closed = λ live. absurd (both_ways true live refl);
      spans = mine.spans;
      phase = (
        record {
          stage = ap is_returnable rests;
          conn = busy.conn;
          mine = busy.mine;
          positive = busy.positive;
          numbered = busy.numbered;
          numbers = busy.numbers;
          reflects = busy.reflects;
          slots = busy.slots;
          containers = busy.containers;
          idle = busy.idle;
        },
        p.1,
        λ live. absurd (both_ways true live refl),
      );
    })
    (inl refl) refl (omega arith) ok.last_is ok.given ok.stored ok.cataloged) ok

-- A row is put: one entry, one change that stands.
use Rattle.std.proofs.Common.{◌≡◌, ◌≢◌, ℕ, ◌+◌, ◌<◌, List, [], ◌∷◌, ◌++◌, length, map, set, get_or, reverse, append_assoc, Bool, true, false, refl, sym, ◌∙◌, ap, subst, arith, inl, inr, Some, None, Vec, Global}
use Rattle.std.specs.Prelude.{◌&&◌, ◌==◌, if◌then◌else◌}
use Rattle.std.proofs.lemmas.List.{map-append, reverse-append}
use Rattle.std.proofs.lemmas.Bool.{both_ways, cases_Bool}
use Rattle.std.proofs.lemmas.Bool.Decides.{nat_tests}
use Rattle.dby_types.specs.declared.number.RowId.{RowId}
use Rattle.dby_types.specs.declared.value.Value.{Value}
use Rattle.store_api.specs.declared.slot.Item.TheVariants.{Changed}
use Rattle.store_api.specs.declared.slot.Slot.{Slot}
use Rattle.store_api.specs.Effects.{with_slot, slot_of}
use Rattle.store_api.specs.View.{View, Content, Heaps, live, put_slot, changes_in}
use Rattle.table_model.proofs.TablesLemmas.{each_append}
use Rattle.table_model.specs.Tables.{Tables, Made, Each, put, laid_over, no_tables, is_same_rid}
use Rattle.journal_model.specs.Catalog.{Defines}
use Rattle.journal_model.specs.Legal.{CommitsFit, wrote, row_put}
use Rattle.journal_model.specs.Meaning.{is_long, all_suit, some_null}
use Rattle.session_model.specs.Legal.{IsFree}
use Rattle.session_model.specs.Orders.{order_of}
use Rattle.journal_model.specs.World.{given_by, numbers_of}
use Rattle.journal_model.proofs.BaseLemmas.{at_same, at_other}
use Rattle.session_model.specs.Places.{Written, Fits, Locks, ReadsCatalog, locks_of, is_catalog}
use Rattle.session_model.specs.World.{World, Txn, running, opening, seen, apply}
use Rattle.session_model.proofs.BaseLemmas.{count_is}
use Rattle.session_model.proofs.EntryLemmas.{did_others, did_kept}
use Rattle.session_model.proofs.FitLemmas.{defines_same, fitting_head}
use Rattle.session_model.proofs.PlaceLemmas.{put_elsewhere, elsewhere}
use Rattle.session_engine.specs.declared.session.Fill.{Fill}
use Rattle.session_engine.specs.declared.session.Phase.TheVariants.{Working}
use Rattle.session_engine.specs.declared.session.Plan.{Plan}
use Rattle.session_engine.specs.declared.session.Plan.TheVariants as plan
use Rattle.session_engine.specs.declared.session.Session.{Session}
use Rattle.session_engine.specs.Dictionary.{Named}
use Rattle.session_engine.specs.Filling.{inserted}
use Rattle.session_engine.specs.Listed.{Cataloged, Lists}
use Rattle.session_engine.specs.State.{MakesAlone, State, Holds, SessionHolds, Busy, Fills, Works, Reflects, Mirrors, HaveSlots, IsStage, PhaseHolds, world_of, txn_of}
use Rattle.session_engine.proofs.ColumnLemmas.{row_fits, fits_more}
use Rattle.session_engine.proofs.EndLemmas.{heap_elsewhere, beside_place, each_slots}
use Rattle.session_engine.proofs.FillLemmas.{Filling, fill_at, fill_catalog}
use Rattle.session_engine.proofs.ListingLemmas.{user_catalog, lists_own}
use Rattle.session_engine.proofs.MoveLemmas.{entered_with}
use Rattle.session_engine.proofs.StepLemmas.{own_session, phase_at, stepping_with}

-- the rows of the store, and of the journal, behind the put
live_put : (heaps : Heaps) (table : ℕ) (rid : RowId) (row : List Value) (current : Tables) (b : ℕ) (q : RowId) → live (heaps b q) ≡ current b q
    → live (put_slot heaps table rid (Some (slot_of row false)) b q) ≡ put current table rid (Some row) b q
live_put heaps table rid row current b q same = elim (cases_Bool (b == table)) [
  | inl tb ↦ elim (cases_Bool (is_same_rid q rid)) [
    | inl here ↦ ap (λ x. live (if x then (if is_same_rid q rid then Some (slot_of row false) else heaps b q) else heaps b q)) tb
        ∙ ap (λ x. live (if x then Some (slot_of row false) else heaps b q)) here
        ∙ sym (ap (λ x. if x && is_same_rid q rid then Some row else current b q) tb ∙ ap (λ x. if x then Some row else current b q) here)
    | inr other ↦ ap (λ x. live (if x then (if is_same_rid q rid then Some (slot_of row false) else heaps b q) else heaps b q)) tb
        ∙ ap (λ x. live (if x then Some (slot_of row false) else heaps b q)) other ∙ same
        ∙ sym (ap (λ x. if x && is_same_rid q rid then Some row else current b q) tb ∙ ap (λ x. if x then Some row else current b q) other)
  ]
  | inr other ↦ ap (λ x. live (if x then (if is_same_rid q rid then Some (slot_of row false) else heaps b q) else heaps b q)) other ∙ same
      ∙ sym (ap (λ x. if x && is_same_rid q rid then Some row else current b q) other)
]

-- a place that has a row has one still, and the new one has
put_stays : (heaps : Heaps) (table : ℕ) (rid : RowId) (s : Slot) (b : ℕ) (q : RowId) → heaps b q ≢ None → put_slot heaps table rid (Some s) b q ≢ None
put_stays heaps table rid s b q had = elim (cases_Bool (b == table)) [
  | inl tb ↦ elim (cases_Bool (is_same_rid q rid)) [
    | inl here ↦ λ none. (let e : Some s ≡ None = sym (ap (λ x. if x then (if is_same_rid q rid then Some s else heaps b q) else heaps b q) tb ∙ ap (λ x. if x then Some s else heaps b q) here) ∙ none in cc)
    | inr other ↦ λ none. had (sym (ap (λ x. if x then (if is_same_rid q rid then Some s else heaps b q) else heaps b q) tb ∙ ap (λ x. if x then Some s else heaps b q) other) ∙ none)
  ]
  | inr other ↦ λ none. had (sym (ap (λ x. if x then (if is_same_rid q rid then Some s else heaps b q) else heaps b q) other) ∙ none)
]

put_there : (heaps : Heaps) (table : ℕ) (rid : RowId) (s : Slot) → put_slot heaps table rid (Some s) table rid ≢ None
put_there heaps table rid s none =
    let tb : (table == table) ≡ true = grind (arith, nat_tests) in
    let here : is_same_rid rid rid ≡ true = grind (arith, nat_tests) in
    (let e : Some s ≡ None = sym (ap (λ x. if x then (if is_same_rid rid rid then Some s else heaps table rid) else heaps table rid) tb ∙ ap (λ x. if x then Some s else heaps table rid) here) ∙ none in cc)

-- nobody else has changed the place
nobody : (l : Locks) (a u table : ℕ) (rid : RowId) (ms : List Made) → Fits l → l.writes a table rid ≡ true → u ≢ a → Written l u ms → Each (λ m. m.change.table ≡ table → m.change.rid ≡ rid → ⊥) ms
nobody l a u table rid [] fits x ne h = tt
nobody l a u table rid (m ∷ ms) fits x ne h =
    ((λ t q. ne (fits.alone u a table rid (subst (λ y. l.writes u table y ≡ true) q (subst (λ y. l.writes u y m.change.rid ≡ true) t h.0)) (fits.writer_reads a table rid x))), nobody l a u table rid ms fits x ne h.1)

no_number : (table : ℕ) (row : List Value) → is_catalog table ≡ false → given_by table (Some row) ≡ []
no_number table row user = ap (λ b. if b then numbers_of (Some row) else []) (let e : (table == 1) ≡ false = grind (arith, nat_tests) in e)

-- the change, and the transaction that has made it
abbrev pub put_made : World → ℕ → RowId → List Value → Made
put_made w n rid row = record { number = w.count; change = record { table = n; rid = rid; old = None; new = Some row } }

abbrev pub put_txn : World → ℕ → ℕ → RowId → List Value → Txn
put_txn w a n rid row = record (w.txns a) { changes = put_made w n rid row ∷ (w.txns a).changes; standing = put_made w n rid row ∷ (w.txns a).standing }

-- the list of what the store will take back
reflects_more : (o : Bool) (d : Content) (t table : ℕ) (rid : RowId) (slot : Slot) (ms : List Made) (m : Made) → o ≡ true → d.heaps table rid ≡ None → m.change.table ≡ table → m.change.rid ≡ rid → m.change.old ≡ None
    → Reflects o (d.changes t) ms → Reflects o ((with_slot d t table rid slot).changes t) (m ∷ ms)
reflects_more true d t table rid slot ms m e none tb q old h = (
  Changed table rid (d.heaps table rid) ∷ h.0,
  at_same d.changes t (Some (Changed table rid (d.heaps table rid) ∷ changes_in (d.changes t))) ∙ ap (λ i. Some (Changed table rid (d.heaps table rid) ∷ changes_in i)) h.1,
  (tb, q, ap live none ∙ sym old, h.2),
)
reflects_more false d t table rid slot ms m e none tb q old h = absurd (both_ways false refl e)

-- PUT: a row, where none was, by a statement that goes on as p
pub puts_row : (st : State) (last k did n : ℕ) (r : Session) (p : Plan) (made : Vec ℕ Global) (rid : RowId) (row : List Value) (v' : View) (named' : List Named)
    → k < length st.ss → r ≡ get_or st.ss k r → r.phase ≡ Working → made.items ≡ r.made.items ++ did ∷ [] → did ≡ length st.es
    → st.view.content.heaps n rid ≡ None → v'.content ≡ with_slot st.view.content (txn_of r) n rid (slot_of row false)
    → ((b : ℕ) → b ≢ k + 1 → v'.actors b ≡ st.view.actors b) → v'.limit ≡ st.view.limit
    → (locks_of st.lock.grants).writes (txn_of r) n rid ≡ true → ReadsCatalog (locks_of st.lock.grants) (txn_of r)
    → CommitsFit (put (laid_over ((world_of st.es).txns (txn_of r)).changes (world_of st.es).committed) n rid (Some row))
    → Each (IsFree (world_of st.es)) (given_by n (Some row)) → Each (λ c. c < st.view.content.next_container) (given_by n (Some row))
    → ((apply (world_of st.es) (inserted r.txn n rid row)).txns (txn_of r) ≡ put_txn (world_of st.es) (txn_of r) n rid row → Cataloged v' (apply (world_of st.es) (inserted r.txn n rid row)) named')
    → ((apply (world_of st.es) (inserted r.txn n rid row)).txns (txn_of r) ≡ put_txn (world_of st.es) (txn_of r) n rid row
    → changes_in (v'.content.changes (txn_of r)) ≡ Changed n rid (st.view.content.heaps n rid) ∷ changes_in (st.view.content.changes (txn_of r))
    → Works (apply (world_of st.es) (inserted r.txn n rid row)) st.lock v' (k + 1) (record r { made = made; plan = p }) p)
    → Holds st last
    → Holds (record { es = st.es ++ inserted r.txn n rid row ∷ []; ls = st.ls; lock = st.lock; ss = set st.ss k (record r { made = made; plan = p }); view = v'; named = named' }) last
puts_row st last k did n r p made rid row v' named' lt at is pushed here none content actors limit wrote_it catalog fit free below cataloged works ok =
    let w = world_of st.es in
    let l = locks_of st.lock.grants in
    let a = txn_of r in
    let e = inserted r.txn n rid row in
    let w' = apply w e in
    let mine = own_session st last k r lt at ok in
    let q = phase_at Working w st.lock st.view last (k + 1) r is mine in
    let busy = q.0 in
    let runs : (w.txns a).stage ≡ running = subst (λ y. IsStage y (w.txns a).stage) is busy.stage in
    let m = put_made w n rid row in
    let x : w'.txns a ≡ put_txn w a n rid row = at_same w.txns a _ in
    let was : None ≡ w.current n rid = sym (ap live none) ∙ ok.stored n rid in
    let count : w.count ≡ did = count_is (opening no_tables) st.es ∙ (let z : 0 + length st.es ≡ did = omega (arith, here) in z) in
    let s' : Session = record r { made = made; plan = p } in
    let changed = reflects_more r.opened st.view.content a n rid (slot_of row false) (w.txns a).changes m q.2 none refl refl refl busy.reflects in
    let items : changes_in (v'.content.changes a) ≡ Changed n rid (st.view.content.heaps n rid) ∷ changes_in (st.view.content.changes a) =
    ap (λ (d : Content). changes_in (d.changes a)) content ∙ ap changes_in (at_same st.view.content.changes a (Some (Changed n rid (st.view.content.heaps n rid) ∷ changes_in (st.view.content.changes a)))) in
    let busy' : Busy w' st.lock v' last (k + 1) s' = record {
      stage = subst (λ (y : Txn). IsStage r.phase y.stage) (sym x) busy.stage;
      conn = ap (λ (y : Txn). y.conn) x ∙ busy.conn;
      mine = busy.mine;
      positive = busy.positive;
      numbered = busy.numbered;
      numbers = ap (λ (y : Txn). map (λ m. m.number) y.changes) x ∙ ap (λ xs. w.count ∷ xs) busy.numbers ∙ ap (λ y. y ∷ reverse r.made.items) count ∙ sym (ap reverse pushed ∙ reverse-append r.made.items (did ∷ []));
      reflects = subst (λ (d : Content). Reflects r.opened (d.changes a) (w'.txns a).changes) (sym content) (subst (λ (y : Txn). Reflects r.opened ((with_slot st.view.content a n rid (slot_of row false)).changes a) y.changes) (sym x) changed);
      slots = subst (λ (y : Txn). HaveSlots v' y.changes) (sym x) (
        (λ gone. put_there st.view.content.heaps n rid (slot_of row false) (sym (ap (λ (d : Content). d.heaps n rid) content) ∙ gone)),
        each_slots st.view v' (w.txns a).changes (λ b y had gone. put_stays st.view.content.heaps n rid (slot_of row false) b y had (sym (ap (λ (d : Content). d.heaps b y) content) ∙ gone)) busy.slots,
      );
      containers = subst (λ (y : Txn). MakesAlone w.committed st.lock a (changes_in (v'.content.changes a)) y.changes) (sym x)
          (subst (λ i. MakesAlone w.committed st.lock a i (m ∷ (w.txns a).changes)) (sym items) busy.containers);
      idle = busy.idle;
    } in
    let own : SessionHolds w' st.lock v' last (k + 1) s' = record {
      begun = mine.begun;
      level = mine.level;
      automatic = mine.automatic;
      closed = mine.closed;
      spans = mine.spans;
      phase = subst (λ y. PhaseHolds y w' st.lock v' last (k + 1) s') (sym is) (busy', q.1, q.2, works x items);
    } in
    entered_with st last e a k s' v' last named'
    (record {
      session = runs;
      undo = tt;
      change = record {
        was = was;
        apart = λ u ne. nobody l a u n rid (w.txns u).standing ok.shared.fits wrote_it ne (ok.shared.txns u).kept;
        free = λ y. free;
      };
      refusal = tt;
    }) tt
    (did_kept r.txn n rid None (Some row) w l wrote_it catalog was fit ok.shared)
    (stepping_with st last w' k r s' v' named' lt at busy q.1 (did_others r.txn n rid None (Some row) w l ok.shared.fits wrote_it catalog)
    (record {
      txns = λ t ne. ap (λ (d : Content). d.changes t) content ∙ at_other st.view.content.changes a (Some (Changed n rid (st.view.content.heaps n rid) ∷ changes_in (st.view.content.changes a))) t ne;
      actors = actors;
      limit_same = limit;
      heaps = λ t ne reads b y z. ap (λ (d : Content). d.heaps b y) content
          ∙ heap_elsewhere st.view.content.heaps n rid (Some (slot_of row false)) b y (beside_place l a t n rid ok.shared.fits wrote_it ne b y z);
      columns = λ t ne reads b. ap (λ (d : Content). d.columns b) content;
      next = (let same = ap (λ (d : Content). d.next_container) content in omega (arith, same));
    })
    (λ i ne. refl) own (inl refl) refl (omega arith) ok.last_is
    (subst (λ (d : Content). Each (λ c. c < d.next_container) (given_by n (Some row) ++ w.given)) (sym content) (each_append (λ c. c < st.view.content.next_container) (given_by n (Some row)) w.given below ok.given))
    (λ b y. ap (λ (d : Content). live (d.heaps b y)) content ∙ live_put st.view.content.heaps n rid row w.current b y (ok.stored b y))
    (cataloged x)) ok

-- the rows beside it stay
pub put_beside : (w : World) (n : ℕ) (rid : RowId) (row : List Value) (t : ℕ) (q : RowId) → (t ≡ n → q ≡ rid → ⊥) → w.current t q ≡ put w.current n rid (Some row) t q
put_beside w n rid row t q ne = sym (put_elsewhere w.current n rid (Some row) t q (elsewhere n rid t q ne))

-- OF AN INSERT
pub fill_puts : (st : State) (last k did : ℕ) (r : Session) (fill fill' : Fill) (made : Vec ℕ Global) (rid : RowId) (row : List Value) (v' : View) → Filling st last k r fill
    → fill' ≡ record fill { rows = fill'.rows; has_room = false } → fill.rows.items ≡ fill'.rows.items ++ row ∷ [] → made.items ≡ r.made.items ++ did ∷ [] → did ≡ length st.es
    → st.view.content.heaps fill.number rid ≡ None → v'.content ≡ with_slot st.view.content (txn_of r) fill.number rid (slot_of row false)
    → ((b : ℕ) → b ≢ k + 1 → v'.actors b ≡ st.view.actors b) → v'.limit ≡ st.view.limit
    → Holds (record { es = st.es ++ inserted r.txn fill.number rid row ∷ []; ls = st.ls; lock = st.lock; ss = set st.ss k (record r { made = made; plan = plan.Insert fill' }); view = v'; named = st.named }) last
fill_puts st last k did r fill fill' made rid row v' h rest popped pushed here none content actors limit =
    let w = world_of st.es in
    let a = txn_of r in
    let n = fill.number in
    let w' = apply w (inserted r.txn n rid row) in
    let ok = h.holds in
    let f = (fill_at st last k r fill h).3 in
    let m = put_made w n rid row in
    let target = f.inserts.suits.target in
    let split : f.done ++ row ∷ reverse fill'.rows.items ≡ f.inserts.tuples = ap (λ xs. f.done ++ xs) (sym (ap reverse popped ∙ reverse-append fill'.rows.items (row ∷ []))) ∙ f.rest in
    let fits = row_fits target.def.columns f.done row (reverse fill'.rows.items) (ap (all_suit target.def.columns) split ∙ f.inserts.suits.suited) (ap (some_null target.def.columns) split ∙ f.inserts.whole) in
    let over = laid_over (w.txns a).changes w.committed in
    let fit = subst (λ y. CommitsFit (put over y rid (Some row))) f.inserts.number
    (fits_more over target.def rid row (ap is_catalog f.inserts.number ∙ f.inserts.user) (defines_same (seen w a) over (fill_catalog st last k r fill h) target.def target.defined) fits
    (fitting_head w.committed (w.txns a).changes (ok.shared.txns a).fitting)) in
    let s' : Session = record r { made = made; plan = plan.Insert fill' } in
    puts_row st last k did n r (plan.Insert fill') made rid row v' st.named h.within h.at h.phase pushed here none content actors limit (f.writes rid) f.inserts.catalog fit
    (subst (Each (IsFree w)) (sym (no_number n row f.inserts.user)) tt)
    (subst (Each (λ c. c < st.view.content.next_container)) (sym (no_number n row f.inserts.user)) tt)
    (λ x. user_catalog st.view v' w w' n rid st.named f.inserts.user (put_beside w n rid row) (λ b. ap (λ (d : Content). d.columns b) content) (ap (λ (d : Content). d.next_container) content)
    (lists_own a w w' st.named (λ t ne. at_other w.txns a _ t ne) (subst (λ (y : Txn). Lists st.named y.changes) (sym x) (inl (f.inserts.user, ok.cataloged.lists a))) (λ t ne. ok.cataloged.lists t)) ok.cataloged)
    (λ x items. subst (Fills w' st.lock v' (k + 1) s') (sym rest) (record {
      inserts = record {
        runs = record {
          first = ap (λ (y : Txn). y.first) x ∙ f.inserts.runs.first;
          since = (let since : (w.txns a).started < w.count = f.inserts.runs.since in let same : (w'.txns a).started ≡ (w.txns a).started = ap (λ (y : Txn). y.started) x in omega (arith, since, same));
          short = ap (λ (y : Txn). is_long y.text) x ∙ f.inserts.runs.short;
        };
        name = f.inserts.name;
        tuples = f.inserts.tuples;
        order = ap (λ (y : Txn). order_of y.text) x ∙ f.inserts.order;
        catalog = f.inserts.catalog;
        suits = record {
          target = record { def = target.def; defined = subst (λ (y : Txn). Defines (laid_over y.begun w.committed) target.def) (sym x) target.defined; named = target.named };
          suited = f.inserts.suits.suited;
        };
        whole = f.inserts.whole;
        fitting = f.inserts.fitting;
        number = f.inserts.number;
        user = f.inserts.user;
        count = f.inserts.count;
      };
      writes = f.writes;
      stands = record {
        own_items = Changed n rid (st.view.content.heaps n rid) ∷ f.stands.own_items;
        base = f.stands.base;
        own = m ∷ f.stands.own;
        items_are = items ∙ ap (λ xs. Changed n rid (st.view.content.heaps n rid) ∷ xs) f.stands.items_are;
        length_is = f.stands.length_is;
        changes_are = subst (λ (y : Txn). y.changes ≡ (m ∷ f.stands.own) ++ y.begun) (sym x) (ap (λ xs. m ∷ xs) f.stands.changes_are);
        mirrors_own = (refl, refl, ap live none, f.stands.mirrors_own);
        mirrors_base = subst (λ (y : Txn). Mirrors f.stands.base y.begun) (sym x) f.stands.mirrors_base;
      };
      users = (f.inserts.user, f.users);
      done = f.done ++ row ∷ [];
      rest = append_assoc f.done (row ∷ []) (reverse fill'.rows.items) ∙ split;
      puts = ap (λ xs. xs ++ wrote m ∷ []) f.puts ∙ sym (map-append (row_put n) f.done (row ∷ []));
      room = λ on. absurd (both_ways false refl on);
    })) ok

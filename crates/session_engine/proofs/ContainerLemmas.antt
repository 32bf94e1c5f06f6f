-- A container that a transaction made is taken back: nothing stood in it, and the journal says nothing of it.
use Rattle.std.proofs.Common.{◌≡◌, ◌≢◌, ℕ, ◌+◌, ◌<◌, List, [], ◌∷◌, ◌++◌, length, set, get_or, true, false, refl, sym, ◌∙◌, ap, subst, arith, inl, inr, Option, Some, None}
use Rattle.std.specs.Prelude.{◌⊎◌, ◌==◌, if◌then◌else◌}
use Rattle.std.proofs.lemmas.Bool.{both_ways, cases_Bool, cases_eq, ne_eqb}
use Rattle.std.proofs.lemmas.Bool.Decides.{nat_tests}
use Rattle.dby_types.specs.declared.number.RowId.{RowId}
use Rattle.lock_modes.specs.Lock.{Lock}
use Rattle.table_model.specs.Tables.{Tables, Made, Each, laid_over}
use Rattle.store_api.specs.declared.slot.Item.{Item}
use Rattle.store_api.specs.declared.slot.Item.TheVariants.{Changed, Created, Discarded}
use Rattle.store_api.specs.Catalog.{catalog_columns}
use Rattle.store_api.specs.Effects.{TakesBack, taken_back, without_container}
use Rattle.store_api.specs.View.{View, Content, Heaps, live, at_number, changes_in}
use Rattle.journal_model.specs.declared.journal.Refusal.{Refusal}
use Rattle.journal_model.proofs.BaseLemmas.{at_same, at_other}
use Rattle.session_model.specs.World.{World, Txn}
use Rattle.session_model.specs.Places.{Locks, Shared, Fits, ReadsCatalog, WritesCatalog, locks_of, is_catalog, touches}
use Rattle.session_model.proofs.PlaceLemmas.{touched_written, untouched}
use Rattle.session_model.proofs.FitLemmas.{defines_same}
use Rattle.session_engine.specs.declared.session.Phase.TheVariants.{Refusing, Leaving}
use Rattle.session_engine.specs.declared.session.Plan.TheVariants as plan
use Rattle.session_engine.specs.declared.session.Session.{Session}
use Rattle.session_engine.specs.Dictionary.{Named, Among, definition_of}
use Rattle.session_engine.specs.Listed.{Cataloged}
use Rattle.session_engine.specs.State.{State, Holds, Busy, Refuses, RefusesFor, Stands, Mirrors, Reflects, IsNewContainer, AreNew, MakesAlone, PhaseHolds, WaitsNot, IsOpened, world_of, txn_of}
use Rattle.session_engine.proofs.MoveLemmas.{moved, same_others}
use Rattle.session_engine.proofs.StepLemmas.{own_session, phase_at, stepping}

-- some row id
abbrev first_place : RowId
first_place = record { page = 0; slot = 0 }

-- WHO HAS THE CATALOG ALONE is the only one who relies on it
pub catalog_alone : (l : Locks) (a t : ℕ) → Fits l → WritesCatalog l a → ReadsCatalog l t → t ≢ a → ⊥
catalog_alone l a t fits writes reads ne = ne (sym (fits.alone a t 1 first_place (writes 1 first_place refl) (reads 1 first_place refl)))

-- so what stands is what it sees, everywhere
pub sole_view : (w : World) (l : Locks) (a : ℕ) → Shared w l → WritesCatalog l a → (table : ℕ) (rid : RowId) → w.current table rid ≡ laid_over (w.txns a).changes w.committed table rid
sole_view w l a shared writes table rid = elim (cases_Bool (touches (w.txns a).changes table rid)) [
  | inl hit ↦ (shared.txns a).seen table rid (shared.fits.writer_reads a table rid (touched_written l a (w.txns a).changes table rid (shared.txns a).owned hit))
  | inr miss ↦ shared.clean table rid (λ u. nobody u miss) ∙ sym (untouched (w.txns a).changes w.committed table rid miss)
]
  where
    nobody : (u : ℕ) → touches (w.txns a).changes table rid ≡ false → touches (w.txns u).changes table rid ≡ false
    nobody u miss = elim (cases_eq u a) [
      | inl same ↦ subst (λ n. touches (w.txns n).changes table rid ≡ false) (sym same) miss
      | inr ne ↦ elim (shared.txns u).lawful [
        | inl none ↦ ap (λ ms. touches ms table rid) none
        | inr reads ↦ absurd (catalog_alone l a u shared.fits writes reads ne)
      ]
    ]

-- the newest thing that it did was to make this container
pub made_last : (f : Tables) (l : Lock) (t c : ℕ) (rest : List Item) (ms : List Made) → MakesAlone f l t (Created c ∷ rest) ms → WritesCatalog (locks_of l.grants) t × IsNewContainer f ms c × AreNew f rest ms
made_last f l t c rest ms h = elim h [
  | inl none ↦ absurd (both_ways true none refl)
  | inr made ↦ (made.0, made.1.0, made.1.1)
]

new_rest : (f : Tables) (l : Lock) (t c : ℕ) (rest : List Item) (ms : List Made) → MakesAlone f l t (Created c ∷ rest) ms → MakesAlone f l t rest ms
new_rest f l t c rest ms h = (let p = made_last f l t c rest ms h in inr (p.0, p.2))

-- what is stored without it
heaps_without : (heaps : Heaps) (c b : ℕ) (q : RowId) → b ≢ c → (if b == c then None else heaps b q) ≡ heaps b q
heaps_without heaps c b q ne = ap (λ x. if x then None else heaps b q) (ne_eqb b c ne)

slots_without : (heaps : Heaps) (c : ℕ) (ms : List Made) → Each (λ m. m.change.table ≢ c) ms → Each (λ m. heaps m.change.table m.change.rid ≢ None) ms
    → Each (λ m. (if m.change.table == c then None else heaps m.change.table m.change.rid) ≢ None) ms
slots_without heaps c [] apart h = tt
slots_without heaps c (m ∷ ms) apart h = (λ none. h.0 (sym (heaps_without heaps c m.change.table m.change.rid apart.0) ∙ none), slots_without heaps c ms apart.1 h.1)

live_without : (heaps : Heaps) (current : Tables) (c b : ℕ) (q : RowId) → live (heaps b q) ≡ current b q → ((r : RowId) → current c r ≡ None) → live (if b == c then None else heaps b q) ≡ current b q
live_without heaps current c b q same none = elim (cases_eq b c) [
  | inl is ↦ ap (λ x. live (if x then None else heaps b q)) (eqb_is b c is) ∙ sym (ap (λ n. current n q) is ∙ none q)
  | inr ne ↦ ap live (heaps_without heaps c b q ne) ∙ same
]
  where
    eqb_is : (b c : ℕ) → b ≡ c → (b == c) ≡ true
    eqb_is b c is = grind (arith, nat_tests)

-- the dictionary without a container that is no table's
without_catalog : (v v' : View) (w : World) (named : List Named) (c : ℕ) {changes : ℕ → Option (List Item)} → v'.content ≡ record (without_container v.content c) { changes = changes } → is_catalog c ≡ false
    → ((e : Named) → Among e named → e.1.number ≢ c) → Cataloged v w named → Cataloged v' w named
without_catalog v v' w named c content user other h =
    let columns : (n : ℕ) → n ≢ c → v'.content.columns n ≡ v.content.columns n = λ n ne. ap (λ (d : Content). d.columns n) content ∙ at_other v.content.columns c (catalog_columns c) n ne in
    let next : v'.content.next_container ≡ v.content.next_container = ap (λ (d : Content). d.next_container) content in
    record {
      dictionary = h.dictionary;
      described = λ e among. let p = h.described e among in (columns e.1.number (other e among) ∙ p.0, (let lt = p.1 in omega (arith, lt, next)));
      catalogs = record {
        of_tables = columns 1 (λ e. both_ways _ user (ap is_catalog (sym e))) ∙ h.catalogs.of_tables;
        of_columns = columns 2 (λ e. both_ways _ user (ap is_catalog (sym e))) ∙ h.catalogs.of_columns;
      };
      listed = h.listed;
      once = h.once;
      numbered = λ rid row n at of. (let lt = h.numbered rid row n at of in omega (arith, lt, next));
      lists = h.lists;
    }

-- A CONTAINER TAKEN BACK, with its own part given behind it
unmakes : (st : State) (last k c : ℕ) (r : Session) (v' : View) (rest : List Item)
    → k < length st.ss → r ≡ get_or st.ss k r → Busy (world_of st.es) st.lock st.view last (k + 1) r → WaitsNot r → IsOpened r
    → st.view.content.changes (txn_of r) ≡ Some (Created c ∷ rest)
    → v'.content ≡ record (without_container st.view.content c) { changes = at_number st.view.content.changes (txn_of r) (Some rest) }
    → ((b : ℕ) → b ≢ k + 1 → v'.actors b ≡ st.view.actors b) → v'.limit ≡ st.view.limit
    → (v'.content.changes (txn_of r) ≡ Some rest → Busy (world_of st.es) st.lock v' last (k + 1) r → PhaseHolds r.phase (world_of st.es) st.lock v' last (k + 1) r)
    → Holds st last
    → Holds (record { es = st.es; ls = st.ls; lock = st.lock; ss = set st.ss k r; view = v'; named = st.named }) last
unmakes st last k c r v' rest lt at busy quiet opened items content actors limit phase ok =
    let w = world_of st.es in
    let l = locks_of st.lock.grants in
    let a = txn_of r in
    let mine = own_session st last k r lt at ok in
    let made = made_last w.committed st.lock a c rest (w.txns a).changes (subst (λ i. MakesAlone w.committed st.lock a (changes_in i) (w.txns a).changes) items busy.containers) in
    let none : (q : RowId) → w.current c q ≡ None = λ q. sole_view w l a ok.shared made.0 c q ∙ made.1.none q in
    let changed : v'.content.changes a ≡ Some rest = ap (λ (d : Content). d.changes a) content ∙ at_same st.view.content.changes a (Some rest) in
    let reflects : Reflects true (st.view.content.changes a) (w.txns a).changes = subst (λ o. Reflects o (st.view.content.changes a) (w.txns a).changes) opened busy.reflects in
    let list_is : reflects.0 ≡ Created c ∷ rest = (let same : Some reflects.0 ≡ Some (Created c ∷ rest) = sym reflects.1 ∙ items in cc) in
    let mirrors : Mirrors rest (w.txns a).changes = subst (λ i. Mirrors i (w.txns a).changes) list_is reflects.2 in
    let busy' : Busy w st.lock v' last (k + 1) r = record {
      stage = busy.stage;
      conn = busy.conn;
      mine = busy.mine;
      positive = busy.positive;
      numbered = busy.numbered;
      numbers = busy.numbers;
      reflects = subst (λ o. Reflects o (v'.content.changes a) (w.txns a).changes) (sym opened) (rest, changed, mirrors);
      slots = subst (λ (d : Content). Each (λ m. d.heaps m.change.table m.change.rid ≢ None) (w.txns a).changes) (sym content) (slots_without st.view.content.heaps c (w.txns a).changes made.1.apart busy.slots);
      containers = subst (λ i. MakesAlone w.committed st.lock a (changes_in i) (w.txns a).changes) (sym changed) (inr (made.0, made.2));
      idle = busy.idle;
    } in
    moved st last a k r v' (stepping st last w k r r v' lt at busy quiet
    (λ t ne. same_others w st.lock t)
    (record {
      txns = λ t ne. ap (λ (d : Content). d.changes t) content ∙ at_other st.view.content.changes a (Some rest) t ne;
      actors = actors;
      limit_same = limit;
      heaps = λ t ne reads b q h. absurd (catalog_alone l a t ok.shared.fits made.0 reads ne);
      columns = λ t ne reads b. absurd (catalog_alone l a t ok.shared.fits made.0 reads ne);
      next = (let same = ap (λ (d : Content). d.next_container) content in omega (arith, same));
    })
    (λ i ne. refl)
    (record { begun = mine.begun; level = mine.level; automatic = mine.automatic; closed = mine.closed; spans = mine.spans; phase = phase changed busy' })
    (inl refl) refl (omega arith) ok.last_is
    (subst (λ (d : Content). Each (λ n. n < d.next_container) w.given) (sym content) ok.given)
    (λ b q. ap (λ (d : Content). live (d.heaps b q)) content ∙ live_without st.view.content.heaps w.current c b q (ok.stored b q) none)
    (without_catalog st.view v' w st.named c content made.1.user
    (λ e among. made.1.unknown (definition_of e)
    (defines_same w.current (laid_over (w.txns a).changes w.committed) (λ table rid k. sole_view w l a ok.shared made.0 table rid) (definition_of e) (ok.cataloged.dictionary.there e among))) ok.cataloged)) ok

-- a refused statement's own items, one container less
stands_unmade : (mark c : ℕ) (rest : List Item) (x : Txn) → Stands mark (Created c ∷ rest) x → length (Created c ∷ rest) ≢ mark → Stands mark rest x
stands_unmade mark c rest x h more = go h.own_items h.own h.items_are h.changes_are h.mirrors_own
  where
    go : (oi : List Item) (own : List Made) → (Created c ∷ rest) ≡ oi ++ h.base → x.changes ≡ own ++ x.begun → Mirrors oi own → Stands mark rest x
    go [] own e d m = absurd (more (ap length e ∙ h.length_is))
    go (Changed t r b ∷ oi) own e d m = cc
    go (Discarded k ∷ oi) own e d m = cc
    go (Created k ∷ oi) own e d m = record {
      own_items = oi;
      base = h.base;
      own = own;
      items_are = (let same : rest ≡ oi ++ h.base = cc in same);
      length_is = h.length_is;
      changes_are = d;
      mirrors_own = m;
      mirrors_base = h.mirrors_base;
    }

-- .. of a refused statement
pub unmakes_statement : (st : State) (last k c : ℕ) (r : Session) (v' : View) (why : Refusal) (rest : List Item)
    → k < length st.ss → r ≡ get_or st.ss k r → r.phase ≡ Refusing → r.plan ≡ plan.Refuse why
    → st.view.content.changes (txn_of r) ≡ Some (Created c ∷ rest) → length (Created c ∷ rest) ≢ r.mark
    → v'.content ≡ record (taken_back st.view.content (Created c)) { changes = at_number st.view.content.changes (txn_of r) (Some rest) }
    → ((b : ℕ) → b ≢ k + 1 → v'.actors b ≡ st.view.actors b) → v'.limit ≡ st.view.limit → Holds st last
    → Holds (record { es = st.es; ls = st.ls; lock = st.lock; ss = set st.ss k r; view = v'; named = st.named }) last
unmakes_statement st last k c r v' why rest lt at is planned items more content actors limit ok =
    let w = world_of st.es in
    let p = phase_at Refusing w st.lock st.view last (k + 1) r is (own_session st last k r lt at ok) in
    let h : Refuses w st.lock st.view r why = subst (RefusesFor w st.lock st.view r) planned p.3 in
    unmakes st last k c r v' rest lt at p.0 p.1 p.2 items content actors limit
    (λ changed busy. subst (λ q. PhaseHolds q w st.lock v' last (k + 1) r) (sym is) (
      busy,
      p.1,
      p.2,
      subst (RefusesFor w st.lock v' r) (sym planned) (record {
        first = h.first;
        shown = h.shown;
        stands = subst (λ i. Stands r.mark (changes_in i) (w.txns (txn_of r))) (sym changed)
            (stands_unmade r.mark c rest (w.txns (txn_of r)) (subst (λ i. Stands r.mark (changes_in i) (w.txns (txn_of r))) items h.stands) more);
      }),
    )) ok

-- .. of a transaction that leaves
pub unmakes_transaction : (st : State) (last k c : ℕ) (r : Session) (v' : View) (rest : List Item)
    → k < length st.ss → r ≡ get_or st.ss k r → r.phase ≡ Leaving → r.opened ≡ true
    → st.view.content.changes (txn_of r) ≡ Some (Created c ∷ rest)
    → v'.content ≡ record (taken_back st.view.content (Created c)) { changes = at_number st.view.content.changes (txn_of r) (Some rest) }
    → ((b : ℕ) → b ≢ k + 1 → v'.actors b ≡ st.view.actors b) → v'.limit ≡ st.view.limit → Holds st last
    → Holds (record { es = st.es; ls = st.ls; lock = st.lock; ss = set st.ss k r; view = v'; named = st.named }) last
unmakes_transaction st last k c r v' rest lt at is opened items content actors limit ok =
    let w = world_of st.es in
    let p = phase_at Leaving w st.lock st.view last (k + 1) r is (own_session st last k r lt at ok) in
    unmakes st last k c r v' rest lt at p.0 p.1 opened items content actors limit
    (λ changed busy. subst (λ q. PhaseHolds q w st.lock v' last (k + 1) r) (sym is) (busy, p.1, p.2)) ok

-- no transaction drops a container
never_discards : (w : World) (l : Lock) (v : View) (last c : ℕ) (r : Session) (d : ℕ) (rest : List Item) → Busy w l v last c r → IsOpened r → v.content.changes (txn_of r) ≡ Some (Discarded d ∷ rest) → ⊥
never_discards w l v last c r d rest busy opened items =
    let reflects : Reflects true (v.content.changes (txn_of r)) (w.txns (txn_of r)).changes = subst (λ o. Reflects o (v.content.changes (txn_of r)) (w.txns (txn_of r)).changes) opened busy.reflects in
    let list_is : reflects.0 ≡ Discarded d ∷ rest = (let same : Some reflects.0 ≡ Some (Discarded d ∷ rest) = sym reflects.1 ∙ items in cc) in
    subst (λ i. Mirrors i (w.txns (txn_of r)).changes) list_is reflects.2

-- AN UNDO THAT NO ENTRY TELLS OF
abbrev pub TakesContainer : ℕ → View → View → Type 0
TakesContainer t v v' = ((c : ℕ) × TakesBack t (Created c) v v') ⊎ ((c : ℕ) × TakesBack t (Discarded c) v v')

pub refuses_container : (st : State) (last k : ℕ) (r : Session) (v' : View) (why : Refusal)
    → k < length st.ss → r ≡ get_or st.ss k r → r.phase ≡ Refusing → r.plan ≡ plan.Refuse why
    → TakesContainer (txn_of r) st.view v' → length (changes_in (st.view.content.changes (txn_of r))) ≢ r.mark
    → ((b : ℕ) → b ≢ k + 1 → v'.actors b ≡ st.view.actors b) → v'.limit ≡ st.view.limit → Holds st last
    → Holds (record { es = st.es; ls = st.ls; lock = st.lock; ss = set st.ss k r; view = v'; named = st.named }) last
refuses_container st last k r v' why lt at is planned takes more actors limit ok = elim takes [
  | inl made ↦ unmakes_statement st last k made.0 r v' why made.1.rest lt at is planned made.1.newest (λ same. more (ap (λ i. length (changes_in i)) made.1.newest ∙ same)) made.1.stored.stored actors limit ok
  | inr dropped ↦
      let p = phase_at Refusing (world_of st.es) st.lock st.view last (k + 1) r is (own_session st last k r lt at ok) in
      absurd (never_discards (world_of st.es) st.lock st.view last (k + 1) r dropped.0 dropped.1.rest p.0 p.2 dropped.1.newest)
]

pub leaves_container : (st : State) (last k : ℕ) (r : Session) (v' : View)
    → k < length st.ss → r ≡ get_or st.ss k r → r.phase ≡ Leaving → r.opened ≡ true
    → TakesContainer (txn_of r) st.view v'
    → ((b : ℕ) → b ≢ k + 1 → v'.actors b ≡ st.view.actors b) → v'.limit ≡ st.view.limit → Holds st last
    → Holds (record { es = st.es; ls = st.ls; lock = st.lock; ss = set st.ss k r; view = v'; named = st.named }) last
leaves_container st last k r v' lt at is opened takes actors limit ok = elim takes [
  | inl made ↦ unmakes_transaction st last k made.0 r v' made.1.rest lt at is opened made.1.newest made.1.stored.stored actors limit ok
  | inr dropped ↦
      let p = phase_at Leaving (world_of st.es) st.lock st.view last (k + 1) r is (own_session st last k r lt at ok) in
      absurd (never_discards (world_of st.es) st.lock st.view last (k + 1) r dropped.0 dropped.1.rest p.0 opened dropped.1.newest)
]

-- A CREATE TABLE makes its container, and room for its rows.
use Rattle.std.proofs.Common.{◌≡◌, ◌≢◌, ℕ, ◌+◌, ◌<◌, ◌≤◌, ◌^◌, List, [], ◌∷◌, ◌++◌, length, set, get_or, take, Bool, true, false, refl, sym, ◌∙◌, ap, subst, arith, inl, inr, Option, Some, None, Vec, Global, length-append}
use Rattle.std.specs.Prelude.{◌⊎◌, nat_lt, if◌then◌else◌}
use Rattle.std.proofs.lemmas.Bool.{both_ways}
use Rattle.std.proofs.lemmas.Bool.Decides.{nat_tests}
use Rattle.dby_types.specs.declared.definition.ColumnDef.{ColumnDef}
use Rattle.dby_types.specs.declared.definition.TableDef.{TableDef}
use Rattle.dby_types.specs.declared.number.RowId.{RowId}
use Rattle.dby_types.specs.declared.state.SqlState.{SqlState}
use Rattle.dby_types.specs.declared.state.SqlState.TheVariants as state
use Rattle.lock_modes.specs.Lock.{Lock}
use Rattle.row_codec.specs.StoredRow.{row_len}
use Rattle.store_api.specs.declared.slot.Item.{Item}
use Rattle.store_api.specs.declared.slot.Item.TheVariants.{Changed, Created, Discarded}
use Rattle.store_api.specs.Catalog.{columns_of_tables, columns_of_columns}
use Rattle.store_api.specs.Effects.{with_item}
use Rattle.store_api.specs.View.{View, Content, IsSound, at_number, live, changes_in}
use Rattle.table_model.specs.Tables.{Tables, Made, Each, laid_over}
use Rattle.table_model.proofs.TablesLemmas.{each_map}
use Rattle.journal_model.specs.Catalog.{table_row}
use Rattle.journal_model.specs.Legal.{written, wrote}
use Rattle.journal_model.specs.declared.journal.Refusal.{Refusal}
use Rattle.journal_model.specs.declared.journal.Refusal.TheVariants.{Sql, Memory}
use Rattle.journal_model.proofs.BaseLemmas.{at_same, at_other}
use Rattle.session_model.specs.Legal.{puts_of}
use Rattle.session_model.specs.World.{World, running, seen, is_untold}
use Rattle.session_model.specs.Places.{WritesCatalog, locks_of, is_catalog}
use Rattle.session_model.proofs.FitLemmas.{defines_same}
use Rattle.session_engine.specs.declared.session.Make.{Make}
use Rattle.session_engine.specs.declared.session.Phase.{Phase}
use Rattle.session_engine.specs.declared.session.Phase.TheVariants.{Working, Refusing}
use Rattle.session_engine.specs.declared.session.Plan.{Plan}
use Rattle.session_engine.specs.declared.session.Plan.TheVariants as plan
use Rattle.session_engine.specs.declared.session.Session.{Session}
use Rattle.session_engine.specs.Creating.{HasContainer, HasHeap, IsBare, numbered}
use Rattle.session_engine.specs.Dictionary.{named_of}
use Rattle.session_engine.specs.Filling.{Moves}
use Rattle.session_engine.specs.Listed.{ReadsListings}
use Rattle.session_engine.specs.Listing.{table_at}
use Rattle.session_engine.specs.State.{State, Holds, Busy, Makes, IsFounded, Works, Mirrors, Reflects, HaveSlots, IsNewContainer, AreNew, MakesAlone, IsOpened, IsShown, IsStage, WaitsNot, PhaseHolds, has_made, world_of, txn_of}
use Rattle.session_engine.proofs.BindLemmas.{busy_bound, sees_current}
use Rattle.session_engine.proofs.CatalogLemmas.{table_row-number}
use Rattle.session_engine.proofs.ContainerLemmas.{catalog_alone, sole_view}
use Rattle.session_engine.proofs.EndLemmas.{busy_pages, refuses_still}
use Rattle.session_engine.proofs.FillLemmas.{open_there, spent_shows}
use Rattle.session_engine.proofs.MoveLemmas.{moved, same_others}
use Rattle.session_engine.proofs.SmallLemmas.{IsSmallColumn, small_create_of, short_rows}
use Rattle.session_engine.proofs.StableLemmas.{writer_reads}
use Rattle.session_engine.proofs.StepLemmas.{own_session, phase_at, stepping}
use Rattle.session_engine.proofs.WantLemmas.{own_step}

-- A CREATE TABLE, where it is
pub record Making (st : State) (last k : ℕ) (r : Session) (make : Make) : Type 0 where
  pub within : k < length st.ss
  pub at : r ≡ get_or st.ss k r
  pub phase : r.phase ≡ Working
  pub planned : r.plan ≡ plan.Create make
  pub holds : Holds st last

pub make_at : (st : State) (last k : ℕ) (r : Session) (make : Make) → Making st last k r make
    → Busy (world_of st.es) st.lock st.view last (k + 1) r × WaitsNot r × IsOpened r × Makes (world_of st.es) st.lock st.view (k + 1) r make
make_at st last k r make h =
    let p = phase_at Working (world_of st.es) st.lock st.view last (k + 1) r h.phase (own_session st last k r h.within h.at h.holds) in
    (p.0, p.1, p.2, subst (Works (world_of st.es) st.lock st.view (k + 1) r) h.planned p.3)

-- its transaction is open in the store
pub make_open : (st : State) (last k : ℕ) (r : Session) (make : Make) → Making st last k r make → st.view.content.changes (txn_of r) ≢ None
make_open st last k r make h =
    let p = make_at st last k r make h in
    open_there r.opened (st.view.content.changes (txn_of r)) ((world_of st.es).txns (txn_of r)).changes p.2 p.0.reflects

-- ONLY ITS PAGES MOVE, and what it has counted
founded_still : (w : World) (v v' : View) (def : TableDef) (done : ℕ) → v'.content ≡ v.content → IsFounded w v def done → IsFounded w v' def done
founded_still w v v' def done same h = record {
  described = ap (λ (d : Content). d.columns def.number) same ∙ h.described;
  made = subst (λ (d : Content). def.number < d.next_container) (sym same) h.made;
  small = h.small;
  user = h.user;
  empty = h.empty;
  free = h.free;
  absent = h.absent;
  unlisted = h.unlisted;
  columns = h.columns;
}

goes_on : (st : State) (last k : ℕ) (r : Session) (make make' : Make) (v' : View) → Making st last k r make → Moves (k + 1) st.view v'
    → Makes (world_of st.es) st.lock v' (k + 1) (record r { plan = plan.Create make' }) make'
    → Holds (record { es = st.es; ls = st.ls; lock = st.lock; ss = set st.ss k (record r { plan = plan.Create make' }); view = v'; named = st.named }) last
goes_on st last k r make make' v' h m works =
    let w = world_of st.es in
    let p = make_at st last k r make h in
    let s' : Session = record r { plan = plan.Create make' } in
    let busy : Busy w st.lock st.view last (k + 1) s' = busy_bound w st.lock st.view last (k + 1) r s' refl refl refl refl p.0.stage p.0 in
    own_step st last k r s' v' h.within h.at p.0 (p.0.idle p.1) refl m.content m.others m.limit_same
    (subst (λ q. PhaseHolds q w st.lock v' last (k + 1) s') (sym h.phase) (busy_pages w st.lock st.view v' last (k + 1) s' m.content busy, p.1, p.2, works)) h.holds

-- nothing is put before the container stands
take_none : {X : Type 0} (n : ℕ) (xs ys : List X) → n ≡ 0 → take n xs ≡ take n ys
take_none n xs ys e = ap (λ m. take m xs) e ∙ ap (λ m. take m ys) (sym e)

-- .. without a container
pub make_on : (st : State) (last k n : ℕ) (r : Session) (make : Make) (v' : View) → Making st last k r make → make.made ≡ false → Moves (k + 1) st.view v'
    → Holds (record { es = st.es; ls = st.ls; lock = st.lock; ss = set st.ss k (record r { plan = plan.Create (record make { def = record make.def { number = n } }) }); view = v'; named = st.named }) last
make_on st last k n r make v' h bare m =
    let w = world_of st.es in
    let f = (make_at st last k r make h).3 in
    let none = f.unmade bare in
    goes_on st last k r make (record make { def = record make.def { number = n } }) v' h m (record {
      bears = record {
        runs = record { first = f.bears.runs.first; since = f.bears.runs.since; short = f.bears.runs.short };
        order = f.bears.order;
        alone = f.bears.alone;
        fresh = f.bears.fresh;
        distinct = f.bears.distinct;
        few = f.bears.few;
      };
      stands = record {
        own_items = f.stands.own_items;
        base = f.stands.base;
        own = f.stands.own;
        items_are = ap (λ (d : Content). changes_in (d.changes (txn_of r))) m.content ∙ f.stands.items_are;
        length_is = f.stands.length_is;
        changes_are = f.stands.changes_are;
        mirrors_own = f.stands.mirrors_own;
        mirrors_base = f.stands.mirrors_base;
      };
      puts = f.puts ∙ take_none make.done (puts_of make.def.number make.def.name make.def.columns) (puts_of n make.def.name make.def.columns) none.0;
      within = f.within;
      unmade = f.unmade;
      founded = λ made left. absurd (both_ways make.made bare made);
      room = λ on. absurd (both_ways make.has_room none.1 on);
    })

-- .. behind it
pub make_roomy : (st : State) (last k : ℕ) (r : Session) (make : Make) (b : Bool) (v' : View) → Making st last k r make → make.made ≡ true → Moves (k + 1) st.view v'
    → (b ≡ true → (v'.actors (k + 1)).room ≡ Some (table_at make.done make.def.columns))
    → Holds (record { es = st.es; ls = st.ls; lock = st.lock; ss = set st.ss k (record r { plan = plan.Create (record make { has_room = b }) }); view = v'; named = st.named }) last
make_roomy st last k r make b v' h made m room =
    let w = world_of st.es in
    let f = (make_at st last k r make h).3 in
    goes_on st last k r make (record make { has_room = b }) v' h m (record {
      bears = record {
        runs = record { first = f.bears.runs.first; since = f.bears.runs.since; short = f.bears.runs.short };
        order = f.bears.order;
        alone = f.bears.alone;
        fresh = f.bears.fresh;
        distinct = f.bears.distinct;
        few = f.bears.few;
      };
      stands = record {
        own_items = f.stands.own_items;
        base = f.stands.base;
        own = f.stands.own;
        items_are = ap (λ (d : Content). changes_in (d.changes (txn_of r))) m.content ∙ f.stands.items_are;
        length_is = f.stands.length_is;
        changes_are = f.stands.changes_are;
        mirrors_own = f.stands.mirrors_own;
        mirrors_base = f.stands.mirrors_base;
      };
      puts = f.puts;
      within = f.within;
      unmade = λ bare. absurd (both_ways make.made bare made);
      founded = λ x left. founded_still w st.view v' make.def make.done m.content (f.founded x left);
      room = room;
    })

-- IT IS REFUSED: what it has made is to be taken back
pub make_fails : (st : State) (last k : ℕ) (r : Session) (make : Make) (made : Vec ℕ Global) (why : Refusal) (v' : View) → Making st last k r make → Moves (k + 1) st.view v' → made.items ≡ r.made.items
    → IsShown (world_of st.es) st.lock r why
    → Holds (record { es = st.es; ls = st.ls; lock = st.lock; ss = set st.ss k (record r { made = made; phase = Refusing; plan = plan.Refuse why }); view = v'; named = st.named }) last
make_fails st last k r make made why v' h m same shown =
    let w = world_of st.es in
    let p = make_at st last k r make h in
    let s' : Session = record r { made = made; phase = Refusing; plan = plan.Refuse why } in
    let runs : (w.txns (txn_of r)).stage ≡ running = subst (λ q. IsStage q (w.txns (txn_of r)).stage) h.phase p.0.stage in
    let busy : Busy w st.lock st.view last (k + 1) s' = busy_bound w st.lock st.view last (k + 1) r s' refl refl refl same (ap is_untold runs) p.0 in
    own_step st last k r s' v' h.within h.at p.0 (p.0.idle p.1) refl m.content m.others m.limit_same (
      busy_pages w st.lock st.view v' last (k + 1) s' m.content busy,
      p.1,
      p.2,
      refuses_still w st.lock st.view v' s' why m.content (record {
        first = p.3.bears.runs.first;
        shown = shown;
        stands = record {
          own_items = p.3.stands.own_items;
          base = p.3.stands.base;
          own = p.3.stands.own;
          items_are = p.3.stands.items_are;
          length_is = p.3.stands.length_is;
          changes_are = p.3.stands.changes_are;
          mirrors_own = p.3.stands.mirrors_own;
          mirrors_base = p.3.stands.mirrors_base;
        };
      }),
    ) h.holds

pub make_starves : (st : State) (last k : ℕ) (r : Session) (make : Make) (made : Vec ℕ Global) (v' : View) → Making st last k r make → Moves (k + 1) st.view v' → made.items ≡ r.made.items
    → Holds (record { es = st.es; ls = st.ls; lock = st.lock; ss = set st.ss k (record r { made = made; phase = Refusing; plan = plan.Refuse Memory }); view = v'; named = st.named }) last
make_starves st last k r make made v' h m same = make_fails st last k r make made Memory v' h m same (inl ((λ tables. tt), refl))

pub make_spent : (st : State) (last k : ℕ) (r : Session) (make : Make) (why : SqlState) (v' : View) → Making st last k r make → Moves (k + 1) st.view v' → (why ≡ state.PagesSpent) ⊎ (why ≡ state.LogSpent)
    → Holds (record { es = st.es; ls = st.ls; lock = st.lock; ss = set st.ss k (record r { phase = Refusing; plan = plan.Refuse (Sql why []) }); view = v'; named = st.named }) last
make_spent st last k r make why v' h m spent = make_fails st last k r make r.made (Sql why []) v' h m refl (spent_shows (world_of st.es) st.lock r why spent)

-- what a transaction without a container has is as new as it must be
none_new : (f : Tables) (items : List Item) (ms : List Made) → Mirrors items ms → has_made items ≡ false → AreNew f items ms
none_new f [] ms m h = tt
none_new f (Created c ∷ items) ms m h = absurd (both_ways true h refl)
none_new f (Changed table rid before ∷ items) [] m h = absurd m
none_new f (Changed table rid before ∷ items) (x ∷ ms) m h = none_new f items ms m.3 h
none_new f (Discarded c ∷ items) ms m h = absurd m

all_new : (f : Tables) (l : Lock) (t : ℕ) (items : List Item) (ms : List Made) → Mirrors items ms → MakesAlone f l t items ms → AreNew f items ms
all_new f l t items ms m h = elim h [ inl none ↦ none_new f items ms m none | inr made ↦ made.1 ]

-- no row stands in a container that nobody has had
below_fresh : (v : View) (n table : ℕ) (rid : RowId) → IsSound v → v.content.next_container ≤ n → v.content.heaps table rid ≢ None → table ≢ n
below_fresh v n table rid sound fresh there = λ is. there (ap (λ b. v.content.heaps b rid) is ∙ sound.fresh n rid fresh)

all_below : (v : View) (n : ℕ) (ms : List Made) → IsSound v → v.content.next_container ≤ n → HaveSlots v ms → Each (λ m. m.change.table ≢ n) ms
all_below v n [] sound fresh h = tt
all_below v n (m ∷ ms) sound fresh h = (below_fresh v n m.change.table m.change.rid sound fresh h.0, all_below v n ms sound fresh h.1)

pub user_number : (v : View) (n : ℕ) → IsSound v → v.content.next_container ≤ n → is_catalog n ≡ false
user_number v n sound fresh = (let low : 16 ≤ v.content.next_container = sound.containers.0 in let h : 16 ≤ n = omega arith in grind (arith, nat_tests))

-- A CONTAINER IS MADE, by a statement that goes on in this phase with this plan
grows_container : (st : State) (last k n : ℕ) (r : Session) (phase' : Phase) (plan' : Plan) (v' : View) (columns' : ℕ → Option (List ColumnDef))
    → k < length st.ss → r ≡ get_or st.ss k r → Busy (world_of st.es) st.lock st.view last (k + 1) r → WaitsNot r → IsOpened r → WritesCatalog (locks_of st.lock.grants) (txn_of r) → IsSound st.view
    → st.view.content.next_container ≤ n → v'.content ≡ record (with_item st.view.content (txn_of r) (Created n)) { next_container = n + 1; columns = columns' }
    → ((m : ℕ) → m ≢ n → columns' m ≡ st.view.content.columns m) → ((b : ℕ) → b ≢ k + 1 → v'.actors b ≡ st.view.actors b) → v'.limit ≡ st.view.limit
    → IsStage phase' ((world_of st.es).txns (txn_of r)).stage
    → (v'.content.changes (txn_of r) ≡ Some (Created n ∷ changes_in (st.view.content.changes (txn_of r))) → Busy (world_of st.es) st.lock v' last (k + 1) (record r { phase = phase'; plan = plan' })
    → PhaseHolds phase' (world_of st.es) st.lock v' last (k + 1) (record r { phase = phase'; plan = plan' }))
    → Holds st last
    → Holds (record { es = st.es; ls = st.ls; lock = st.lock; ss = set st.ss k (record r { phase = phase'; plan = plan' }); view = v'; named = st.named }) last
grows_container st last k n r phase' plan' v' columns' lt at busy quiet opened alone sound fresh content others_columns actors limit stage phase ok =
    let w = world_of st.es in
    let l = locks_of st.lock.grants in
    let a = txn_of r in
    let mine = own_session st last k r lt at ok in
    let s' : Session = record r { phase = phase'; plan = plan' } in
    let old = changes_in (st.view.content.changes a) in
    let changed : v'.content.changes a ≡ Some (Created n ∷ old) = ap (λ (d : Content). d.changes a) content ∙ at_same st.view.content.changes a (Some (Created n ∷ old)) in
    let heaps : (b : ℕ) (q : RowId) → v'.content.heaps b q ≡ st.view.content.heaps b q = λ b q. ap (λ (d : Content). d.heaps b q) content in
    let columns : (m : ℕ) → m ≢ n → v'.content.columns m ≡ st.view.content.columns m = λ m ne. ap (λ (d : Content). d.columns m) content ∙ others_columns m ne in
    let reflects : Reflects true (st.view.content.changes a) (w.txns a).changes = subst (λ o. Reflects o (st.view.content.changes a) (w.txns a).changes) opened busy.reflects in
    let mirrors : Mirrors old (w.txns a).changes = subst (λ i. Mirrors (changes_in i) (w.txns a).changes) (sym reflects.1) reflects.2 in
    let next : n + 1 ≡ v'.content.next_container = sym (ap (λ (d : Content). d.next_container) content) in
    let user : is_catalog n ≡ false = user_number st.view n sound fresh in
    let is_new : IsNewContainer w.committed (w.txns a).changes n = record {
      user = user;
      apart = all_below st.view n (w.txns a).changes sound fresh busy.slots;
      none = λ q. sym (sole_view w l a ok.shared alone n q) ∙ sym (ok.stored n q) ∙ ap live (sound.fresh n q fresh);
      unknown = λ d defines is.
          let below = (ok.cataloged.described (named_of d) (ok.cataloged.dictionary.only d (defines_same (laid_over (w.txns a).changes w.committed) w.current (λ table rid c. sym (sole_view w l a ok.shared alone table rid)) d defines))).1 in
          omega (arith, below, is, fresh);
    } in
    let busy' : Busy w st.lock v' last (k + 1) s' = record {
      stage = stage;
      conn = busy.conn;
      mine = busy.mine;
      positive = busy.positive;
      numbered = busy.numbered;
      numbers = busy.numbers;
      reflects = subst (λ o. Reflects o (v'.content.changes a) (w.txns a).changes) (sym opened) (Created n ∷ old, changed, mirrors);
      slots = subst (λ (d : Content). Each (λ m. d.heaps m.change.table m.change.rid ≢ None) (w.txns a).changes) (sym content) busy.slots;
      containers = subst (λ i. MakesAlone w.committed st.lock a (changes_in i) (w.txns a).changes) (sym changed)
          (inr (alone, (is_new, all_new w.committed st.lock a old (w.txns a).changes mirrors busy.containers)));
      idle = busy.idle;
    } in
    let c = ok.cataloged in
    moved st last a k s' v' (stepping st last w k r s' v' lt at busy quiet
    (λ t ne. same_others w st.lock t)
    (record {
      txns = λ t ne. ap (λ (d : Content). d.changes t) content ∙ at_other st.view.content.changes a (Some (Created n ∷ old)) t ne;
      actors = actors;
      limit_same = limit;
      heaps = λ t ne reads b q y. heaps b q;
      columns = λ t ne reads b. absurd (catalog_alone l a t ok.shared.fits alone reads ne);
      next = omega (arith, next, fresh);
    })
    (λ i ne. refl)
    (record { begun = mine.begun; level = mine.level; automatic = mine.automatic; closed = mine.closed; spans = mine.spans; phase = phase changed busy' })
    (inl refl) refl (omega arith) ok.last_is
    (each_map (λ m. m < st.view.content.next_container) (λ m. m < v'.content.next_container) (λ m below. omega (arith, below, next, fresh)) w.given ok.given)
    (λ b q. ap live (heaps b q) ∙ ok.stored b q)
    (record {
      dictionary = c.dictionary;
      described = λ e among. let q = c.described e among in (columns e.1.number (λ is. let below = q.1 in omega (arith, below, is, fresh)) ∙ q.0, (let below = q.1 in omega (arith, below, next, fresh)));
      catalogs = record {
        of_tables = columns 1 (λ is. both_ways _ user (ap is_catalog (sym is))) ∙ c.catalogs.of_tables;
        of_columns = columns 2 (λ is. both_ways _ user (ap is_catalog (sym is))) ∙ c.catalogs.of_columns;
      };
      listed = c.listed;
      once = c.once;
      numbered = λ rid row m stands of. (let below = c.numbered rid row m stands of in omega (arith, below, next, fresh));
      lists = c.lists;
    })) ok

-- what has put no row has changed nothing
unwritten : (own : List Made) → written own ≡ [] → own ≡ []
unwritten [] h = refl
unwritten (m ∷ own) h = (let e = ap length h in let both = length-append (written own) (wrote m ∷ []) in absurd (omega (arith, e, both)))

pub none_put : (st : State) (last k : ℕ) (r : Session) (make : Make) → (h : Making st last k r make) → make.done ≡ 0 → ((world_of st.es).txns (txn_of r)).changes ≡ ((world_of st.es).txns (txn_of r)).begun
none_put st last k r make h zero =
    let f = (make_at st last k r make h).3 in
    let none : f.stands.own ≡ [] = unwritten f.stands.own (f.puts ∙ ap (λ n. take n (puts_of make.def.number make.def.name make.def.columns)) zero) in
    f.stands.changes_are ∙ ap (λ own. own ++ ((world_of st.es).txns (txn_of r)).begun) none

-- .. and its table is founded
makes_numbered : (st : State) (last k n : ℕ) (r : Session) (make : Make) (v' : View) → Making st last k r make → make.made ≡ false → IsSound st.view → st.view.content.next_container ≤ n → n < 2 ^ 31
    → v'.content ≡ record (with_item st.view.content (txn_of r) (Created n)) { next_container = n + 1; columns = at_number st.view.content.columns n (Some make.def.columns) }
    → ((b : ℕ) → b ≢ k + 1 → v'.actors b ≡ st.view.actors b) → v'.limit ≡ st.view.limit
    → Holds (record { es = st.es; ls = st.ls; lock = st.lock; ss = set st.ss k (record r { plan = plan.Create (record make { def = record make.def { number = n }; made = true }) }); view = v'; named = st.named }) last
makes_numbered st last k n r make v' h bare sound fresh small content actors limit =
    let w = world_of st.es in
    let ok = h.holds in
    let c = ok.cataloged in
    let p = make_at st last k r make h in
    let f = p.3 in
    let zero : make.done ≡ 0 = (f.unmade bare).0 in
    let next : n + 1 ≡ v'.content.next_container = sym (ap (λ (d : Content). d.next_container) content) in
    let low : 16 ≤ st.view.content.next_container = sound.containers.0 in
    let make' : Make = record make { def = record make.def { number = n }; made = true } in
    let s' : Session = record r { plan = plan.Create make' } in
    let same = sees_current w st.lock (txn_of r) ok.shared (writer_reads (txn_of r) st.lock f.bears.alone) (none_put st last k r make h zero) in
    let founded : IsFounded w v' make'.def make.done = record {
      described = ap (λ (d : Content). d.columns n) content ∙ at_same st.view.content.columns n (Some make.def.columns);
      made = omega (arith, next);
      small = small;
      user = omega (arith, low, fresh);
      empty = λ rid. sym (ok.stored n rid) ∙ ap live (sound.fresh n rid fresh);
      free = each_map (λ m. m < st.view.content.next_container) (λ m. m ≢ n) (λ m below is. omega (arith, below, is, fresh)) w.given ok.given;
      absent = λ d defines. f.bears.fresh d (defines_same w.current (seen w (txn_of r)) same d defines);
      unlisted = λ rid name stands.
          let q = c.listed rid (table_row n name) stands in
          let number : n ≡ q.0.1.number = table_row-number n q.0.1.number name q.0.0 q.2 in
          let below = (c.described q.0 q.1).1 in
          omega (arith, number, below, fresh);
      columns = record {
        each = λ place col before there. absurd (omega (arith, zero, before));
        only = λ rid row stands of. let below = c.numbered rid row n stands of in absurd (omega (arith, below, fresh));
      };
    } in
    grows_container st last k n r r.phase (plan.Create make') v' (at_number st.view.content.columns n (Some make.def.columns)) h.within h.at p.0 p.1 p.2 f.bears.alone sound fresh content
    (λ m ne. at_other st.view.content.columns n (Some make.def.columns) m ne) actors limit p.0.stage
    (λ changed busy. subst (λ q. PhaseHolds q w st.lock v' last (k + 1) s') (sym h.phase) (
      busy,
      p.1,
      p.2,
      record {
        bears = record {
          runs = record { first = f.bears.runs.first; since = f.bears.runs.since; short = f.bears.runs.short };
          order = f.bears.order;
          alone = f.bears.alone;
          fresh = f.bears.fresh;
          distinct = f.bears.distinct;
          few = f.bears.few;
        };
        stands = record {
          own_items = Created n ∷ f.stands.own_items;
          base = f.stands.base;
          own = f.stands.own;
          items_are = ap changes_in changed ∙ ap (λ xs. Created n ∷ xs) f.stands.items_are;
          length_is = f.stands.length_is;
          changes_are = f.stands.changes_are;
          mirrors_own = f.stands.mirrors_own;
          mirrors_base = f.stands.mirrors_base;
        };
        puts = f.puts ∙ take_none make.done (puts_of make.def.number make.def.name make.def.columns) (puts_of n make.def.name make.def.columns) zero;
        within = f.within;
        unmade = λ still. absurd (both_ways true still refl);
        founded = λ x left. founded;
        room = λ on. absurd (both_ways make.has_room (f.unmade bare).1 on);
      },
    )) ok

pub makes : (st : State) (last k : ℕ) (r : Session) (make left : Make) (v' : View) → Making st last k r make → make.made ≡ false → IsSound st.view → HasHeap (txn_of r) make left st.view v'
    → ((b : ℕ) → b ≢ k + 1 → v'.actors b ≡ st.view.actors b) → v'.limit ≡ st.view.limit
    → Holds (record { es = st.es; ls = st.ls; lock = st.lock; ss = set st.ss k (record r { plan = plan.Create left }); view = v'; named = st.named }) last
makes st last k r make left v' h bare sound new actors limit =
    subst (λ x. Holds (record { es = st.es; ls = st.ls; lock = st.lock; ss = set st.ss k (record r { plan = plan.Create x }); view = v'; named = st.named }) last) (sym new.after)
    (makes_numbered st last k new.number r make v' h bare sound new.fresh new.small new.content actors limit)

-- .. or it isn't described: the statement is refused, or the engine stops
makes_bare : (st : State) (last k m n : ℕ) (r : Session) (make : Make) (v' : View) → Making st last k r make → make.made ≡ false → IsSound st.view → HasContainer (txn_of r) n st.view v'
    → ((b : ℕ) → b ≢ k + 1 → v'.actors b ≡ st.view.actors b) → v'.limit ≡ st.view.limit
    → Holds (record { es = st.es; ls = st.ls; lock = st.lock; ss = set st.ss k (record r { plan = plan.Create (numbered make m) }); view = v'; named = st.named }) last
makes_bare st last k m n r make v' h bare sound new actors limit =
    let w = world_of st.es in
    let p = make_at st last k r make h in
    let f = p.3 in
    let none = f.unmade bare in
    let make' : Make = numbered make m in
    grows_container st last k n r r.phase (plan.Create make') v' st.view.content.columns h.within h.at p.0 p.1 p.2 f.bears.alone sound new.fresh new.content (λ m ne. refl) actors limit p.0.stage
    (λ changed busy. subst (λ q. PhaseHolds q w st.lock v' last (k + 1) (record r { plan = plan.Create make' })) (sym h.phase) (
      busy,
      p.1,
      p.2,
      record {
        bears = record {
          runs = record { first = f.bears.runs.first; since = f.bears.runs.since; short = f.bears.runs.short };
          order = f.bears.order;
          alone = f.bears.alone;
          fresh = f.bears.fresh;
          distinct = f.bears.distinct;
          few = f.bears.few;
        };
        stands = record {
          own_items = Created n ∷ f.stands.own_items;
          base = f.stands.base;
          own = f.stands.own;
          items_are = ap changes_in changed ∙ ap (λ xs. Created n ∷ xs) f.stands.items_are;
          length_is = f.stands.length_is;
          changes_are = f.stands.changes_are;
          mirrors_own = f.stands.mirrors_own;
          mirrors_base = f.stands.mirrors_base;
        };
        puts = f.puts ∙ take_none make.done (puts_of make.def.number make.def.name make.def.columns) (puts_of m make.def.name make.def.columns) none.0;
        within = f.within;
        unmade = f.unmade;
        founded = λ x left. absurd (both_ways make.made bare x);
        room = λ on. absurd (both_ways make.has_room none.1 on);
      },
    )) h.holds

pub make_bare : (st : State) (last k : ℕ) (r : Session) (make left : Make) (v' : View) → Making st last k r make → make.made ≡ false → IsSound st.view → IsBare (txn_of r) make left st.view v'
    → ((b : ℕ) → b ≢ k + 1 → v'.actors b ≡ st.view.actors b) → v'.limit ≡ st.view.limit
    → Holds (record { es = st.es; ls = st.ls; lock = st.lock; ss = set st.ss k (record r { plan = plan.Create left }); view = v'; named = st.named }) last
make_bare st last k r make left v' h bare sound step actors limit =
    subst (λ x. Holds (record { es = st.es; ls = st.ls; lock = st.lock; ss = set st.ss k (record r { plan = plan.Create x }); view = v'; named = st.named }) last) (sym step.0.1) (elim step.1 [
      | inl same ↦ make_on st last k step.0.0 r make v' h bare (record { content = same; others = actors; limit_same = limit })
      | inr made ↦ makes_bare st last k step.0.0 made.0 r make v' h bare sound made.1 actors limit
    ])

starves_bare : (st : State) (last k n : ℕ) (r : Session) (make : Make) (v' : View) → Making st last k r make → IsSound st.view → HasContainer (txn_of r) n st.view v'
    → ((b : ℕ) → b ≢ k + 1 → v'.actors b ≡ st.view.actors b) → v'.limit ≡ st.view.limit
    → Holds (record { es = st.es; ls = st.ls; lock = st.lock; ss = set st.ss k (record r { phase = Refusing; plan = plan.Refuse Memory }); view = v'; named = st.named }) last
starves_bare st last k n r make v' h sound new actors limit =
    let w = world_of st.es in
    let p = make_at st last k r make h in
    let f = p.3 in
    let runs : (w.txns (txn_of r)).stage ≡ running = subst (λ q. IsStage q (w.txns (txn_of r)).stage) h.phase p.0.stage in
    grows_container st last k n r Refusing (plan.Refuse Memory) v' st.view.content.columns h.within h.at p.0 p.1 p.2 f.bears.alone sound new.fresh new.content (λ m ne. refl) actors limit (ap is_untold runs)
    (λ changed busy. (
      busy,
      p.1,
      p.2,
      record {
        first = f.bears.runs.first;
        shown = inl ((λ tables. tt), refl);
        stands = record {
          own_items = Created n ∷ f.stands.own_items;
          base = f.stands.base;
          own = f.stands.own;
          items_are = ap changes_in changed ∙ ap (λ xs. Created n ∷ xs) f.stands.items_are;
          length_is = f.stands.length_is;
          changes_are = f.stands.changes_are;
          mirrors_own = f.stands.mirrors_own;
          mirrors_base = f.stands.mirrors_base;
        };
      },
    )) h.holds

pub bare_starves : (st : State) (last k : ℕ) (r : Session) (make left : Make) (v' : View) → Making st last k r make → IsSound st.view → IsBare (txn_of r) make left st.view v'
    → ((b : ℕ) → b ≢ k + 1 → v'.actors b ≡ st.view.actors b) → v'.limit ≡ st.view.limit
    → Holds (record { es = st.es; ls = st.ls; lock = st.lock; ss = set st.ss k (record r { phase = Refusing; plan = plan.Refuse Memory }); view = v'; named = st.named }) last
bare_starves st last k r make left v' h sound step actors limit = elim step.1 [
  | inl same ↦ make_starves st last k r make r.made v' h (record { content = same; others = actors; limit_same = limit }) refl
  | inr made ↦ starves_bare st last k made.0 r make v' h sound made.1 actors limit
]

-- ITS TABLE IS SMALL
pub make_small : (st : State) (last k : ℕ) (r : Session) (make : Make) → Making st last k r make → (length make.def.name ≤ 128) × Each IsSmallColumn make.def.columns
make_small st last k r make h = (let f = (make_at st last k r make h).3 in small_create_of ((world_of st.es).txns (txn_of r)).text make.def.name make.def.columns f.bears.order)

pub make_short : (st : State) (last k : ℕ) (r : Session) (make : Make) → Making st last k r make → row_len make.def.columns ≤ 1900
make_short st last k r make h = short_rows make.def.columns (make_small st last k r make h).1 (make_at st last k r make h).3.bears.few

-- the catalog's heap for its next row is described
either_described : (v : View) (b : Bool) → ReadsListings v → v.content.columns (if b then 2 else 1) ≢ None
either_described v true h none = (let e : None ≡ Some columns_of_columns = sym none ∙ h.of_columns in cc)
either_described v false h none = (let e : None ≡ Some columns_of_tables = sym none ∙ h.of_tables in cc)

pub next_described : (st : State) (last k : ℕ) (r : Session) (make : Make) → Making st last k r make → st.view.content.columns (table_at make.done make.def.columns) ≢ None
next_described st last k r make h = either_described st.view (nat_lt make.done (length make.def.columns)) h.holds.cataloged.catalogs

-- The steps of an INSERT: room for a row, the row, and the answer behind the last.
use Rattle.std.proofs.Common.{◌≡◌, ◌≢◌, ℕ, ◌+◌, ◌<◌, ◌≤◌, List, [], ◌∷◌, ◌++◌, length, set, get_or, reverse, Bool, true, false, refl, sym, ◌∙◌, ap, subst, arith, inl, inr, Option, Some, None, Vec, Global, vec_len, vec_capacity}
use Rattle.std.specs.Prelude.{◌⊎◌}
use Rattle.std.proofs.lemmas.List.{reverse-append}
use Rattle.std.proofs.lemmas.Bool.{both_ways}
use Rattle.dby_types.specs.declared.definition.ColumnDef.{ColumnDef}
use Rattle.dby_types.specs.declared.number.RowId.{RowId}
use Rattle.dby_types.specs.declared.state.SqlState.{SqlState}
use Rattle.dby_types.specs.declared.state.SqlState.TheVariants as state
use Rattle.dby_types.specs.declared.value.Value.{Value}
use Rattle.lock_modes.specs.Lock.{Lock}
use Rattle.store_api.specs.declared.slot.Item.{Item}
use Rattle.store_api.specs.View.{View, Content, changes_in}
use Rattle.table_model.specs.Fitting.{fits_columns}
use Rattle.table_model.specs.Tables.{Tables, Made, Each, laid_over}
use Rattle.journal_model.specs.declared.journal.Refusal.{Refusal}
use Rattle.journal_model.specs.declared.journal.Refusal.TheVariants.{Sql, Memory}
use Rattle.session_model.specs.Places.{is_catalog}
use Rattle.session_model.specs.World.{World, running, seen, is_untold}
use Rattle.session_model.proofs.FitLemmas.{SameCatalog, defines_same}
use Rattle.session_model.proofs.PlaceLemmas.{put_elsewhere, elsewhere}
use Rattle.session_engine.specs.declared.session.Fill.{Fill}
use Rattle.session_engine.specs.declared.session.Phase.TheVariants.{Working, Refusing}
use Rattle.session_engine.specs.declared.session.Plan.TheVariants as plan
use Rattle.session_engine.specs.declared.session.Session.{Session}
use Rattle.session_engine.specs.Dictionary.{Named, named_of}
use Rattle.session_engine.specs.Filling.{Moves, Pops}
use Rattle.session_engine.specs.Engine.{EngineHolds, state as state_of}
use Rattle.session_engine.proofs.SpentLemmas.{spent_kept, stays_of}
use Rattle.session_engine.proofs.ColumnLemmas.{stored_one}
use Rattle.session_engine.proofs.RoomLemmas.{room_after}
use Rattle.lock_manager.specs.declared.table.LockTable.{LockTable}
use Rattle.lock_manager.specs.Table.{lock}
use Rattle.session_model.specs.declared.journal.Locked.{Locked}
use Rattle.journal_model.specs.declared.journal.Entry.{Entry}
use Rattle.session_engine.specs.State.{State, Holds, Busy, Fills, Works, Reflects, AreUsers, IsOpened, IsShown, IsStage, WaitsNot, PhaseHolds, entries_of, releases_of, world_of, txn_of}
use Rattle.session_engine.proofs.BindLemmas.{busy_bound}
use Rattle.session_engine.proofs.EndLemmas.{busy_pages, refuses_still}
use Rattle.session_engine.proofs.StepLemmas.{own_session, phase_at}
use Rattle.session_engine.proofs.WantLemmas.{own_step}

-- AN INSERT, where it is
pub record Filling (st : State) (last k : ℕ) (r : Session) (fill : Fill) : Type 0 where
  pub within : k < length st.ss
  pub at : r ≡ get_or st.ss k r
  pub phase : r.phase ≡ Working
  pub planned : r.plan ≡ plan.Insert fill
  pub holds : Holds st last

pub fill_at : (st : State) (last k : ℕ) (r : Session) (fill : Fill) → Filling st last k r fill
    → Busy (world_of st.es) st.lock st.view last (k + 1) r × WaitsNot r × IsOpened r × Fills (world_of st.es) st.lock st.view (k + 1) r fill
fill_at st last k r fill h =
    let p = phase_at Working (world_of st.es) st.lock st.view last (k + 1) r h.phase (own_session st last k r h.within h.at h.holds) in
    (p.0, p.1, p.2, subst (Works (world_of st.es) st.lock st.view (k + 1) r) h.planned p.3)

-- its own changes are of a user's table
pub off_catalog : (own base : List Made) (f : Tables) (table : ℕ) (rid : RowId) → AreUsers own → is_catalog table ≡ true → laid_over (own ++ base) f table rid ≡ laid_over base f table rid
off_catalog [] base f table rid h c = refl
off_catalog (m ∷ own) base f table rid h c =
    put_elsewhere (laid_over (own ++ base) f) m.change.table m.change.rid m.change.new table rid (elsewhere m.change.table m.change.rid table rid (λ same row. both_ways _ h.0 (subst (λ y. is_catalog y ≡ true) same c))) ∙ off_catalog own base f table rid h.1 c

-- so what it sees of the catalog is what stands
pub fill_catalog : (st : State) (last k : ℕ) (r : Session) (fill : Fill) → Filling st last k r fill → SameCatalog (seen (world_of st.es) (txn_of r)) (laid_over ((world_of st.es).txns (txn_of r)).changes (world_of st.es).committed)
fill_catalog st last k r fill h table rid c =
    let w = world_of st.es in
    let f = (fill_at st last k r fill h).3 in
    sym (ap (λ ms. laid_over ms w.committed table rid) f.stands.changes_are ∙ off_catalog f.stands.own (w.txns (txn_of r)).begun w.committed table rid f.users c)

fill_current : (st : State) (last k : ℕ) (r : Session) (fill : Fill) → Filling st last k r fill → SameCatalog (seen (world_of st.es) (txn_of r)) (world_of st.es).current
fill_current st last k r fill h table rid c =
    let w = world_of st.es in
    let p = fill_at st last k r fill h in
    fill_catalog st last k r fill h table rid c ∙ sym ((h.holds.shared.txns (txn_of r)).seen table rid (p.3.inserts.catalog table rid c))

-- its table is described by the columns that it was bound to
pub fill_columns : (st : State) (last k : ℕ) (r : Session) (fill : Fill) → (h : Filling st last k r fill) → st.view.content.columns fill.number ≡ Some (fill_at st last k r fill h).3.inserts.suits.target.def.columns
fill_columns st last k r fill h =
    let w = world_of st.es in
    let s = (fill_at st last k r fill h).3.inserts in
    let defined = defines_same (seen w (txn_of r)) w.current (fill_current st last k r fill h) s.suits.target.def s.suits.target.defined in
    ap st.view.content.columns (sym s.number) ∙ (h.holds.cataloged.described (named_of s.suits.target.def) (h.holds.cataloged.dictionary.only s.suits.target.def defined)).0

pub fill_described : (st : State) (last k : ℕ) (r : Session) (fill : Fill) → Filling st last k r fill → st.view.content.columns fill.number ≢ None
fill_described st last k r fill h none = (let e : None ≡ Some (fill_at st last k r fill h).3.inserts.suits.target.def.columns = sym none ∙ fill_columns st last k r fill h in cc)

-- its transaction is open in the store
pub open_there : (o : Bool) (items : Option (List Item)) (ms : List Made) → o ≡ true → Reflects o items ms → items ≢ None
open_there true items ms e h none = (let c : None ≡ Some h.0 = sym none ∙ h.1 in cc)
open_there false items ms e h none = both_ways false refl e

pub fill_open : (st : State) (last k : ℕ) (r : Session) (fill : Fill) → Filling st last k r fill → st.view.content.changes (txn_of r) ≢ None
fill_open st last k r fill h =
    let p = fill_at st last k r fill h in
    open_there r.opened (st.view.content.changes (txn_of r)) ((world_of st.es).txns (txn_of r)).changes p.2 p.0.reflects

-- ONLY ITS PAGES MOVE
pub fill_on : (st : State) (last k : ℕ) (r : Session) (fill : Fill) (b : Bool) (v' : View) → Filling st last k r fill → Moves (k + 1) st.view v' → (b ≡ true → (v'.actors (k + 1)).room ≡ Some fill.number)
    → Holds (record { es = st.es; ls = st.ls; lock = st.lock; ss = set st.ss k (record r { plan = plan.Insert (record fill { has_room = b }) }); view = v'; named = st.named }) last
fill_on st last k r fill b v' h m room =
    let w = world_of st.es in
    let p = fill_at st last k r fill h in
    let f = p.3 in
    let s' : Session = record r { plan = plan.Insert (record fill { has_room = b }) } in
    let busy : Busy w st.lock st.view last (k + 1) s' = busy_bound w st.lock st.view last (k + 1) r s' refl refl refl refl p.0.stage p.0 in
    let works : Fills w st.lock v' (k + 1) s' (record fill { has_room = b }) = record {
      inserts = record {
        runs = record { first = f.inserts.runs.first; since = f.inserts.runs.since; short = f.inserts.runs.short };
        name = f.inserts.name;
        tuples = f.inserts.tuples;
        order = f.inserts.order;
        catalog = f.inserts.catalog;
        suits = f.inserts.suits;
        whole = f.inserts.whole;
        fitting = f.inserts.fitting;
        number = f.inserts.number;
        user = f.inserts.user;
        count = f.inserts.count;
      };
      writes = f.writes;
      stands = record {
        own_items = f.stands.own_items;
        base = f.stands.base;
        own = f.stands.own;
        items_are = ap (λ (d : Content). changes_in (d.changes (txn_of r))) m.content ∙ f.stands.items_are;
        length_is = f.stands.length_is;
        changes_are = f.stands.changes_are;
        mirrors_own = f.stands.mirrors_own;
        mirrors_base = f.stands.mirrors_base;
      };
      users = f.users;
      done = f.done;
      rest = f.rest;
      puts = f.puts;
      room = room;
    } in
    own_step st last k r s' v' h.within h.at p.0 (p.0.idle p.1) refl m.content m.others m.limit_same
    (subst (λ q. PhaseHolds q w st.lock v' last (k + 1) s') (sym h.phase) (busy_pages w st.lock st.view v' last (k + 1) s' m.content busy, p.1, p.2, works)) h.holds

-- IT IS REFUSED: what it has put is to be taken back
pub fill_fails : (st : State) (last k : ℕ) (r : Session) (fill : Fill) (made : Vec ℕ Global) (why : Refusal) (v' : View) → Filling st last k r fill → Moves (k + 1) st.view v' → made.items ≡ r.made.items
    → IsShown (world_of st.es) st.lock r why
    → Holds (record { es = st.es; ls = st.ls; lock = st.lock; ss = set st.ss k (record r { made = made; phase = Refusing; plan = plan.Refuse why }); view = v'; named = st.named }) last
fill_fails st last k r fill made why v' h m same shown =
    let w = world_of st.es in
    let p = fill_at st last k r fill h in
    let s' : Session = record r { made = made; phase = Refusing; plan = plan.Refuse why } in
    let runs : (w.txns (txn_of r)).stage ≡ running = subst (λ q. IsStage q (w.txns (txn_of r)).stage) h.phase p.0.stage in
    let busy : Busy w st.lock st.view last (k + 1) s' = busy_bound w st.lock st.view last (k + 1) r s' refl refl refl same (ap is_untold runs) p.0 in
    own_step st last k r s' v' h.within h.at p.0 (p.0.idle p.1) refl m.content m.others m.limit_same (
      busy_pages w st.lock st.view v' last (k + 1) s' m.content busy,
      p.1,
      p.2,
      refuses_still w st.lock st.view v' s' why m.content (record {
        first = p.3.inserts.runs.first;
        shown = shown;
        stands = record {
          own_items = p.3.stands.own_items;
          base = p.3.stands.base;
          own = p.3.stands.own;
          items_are = p.3.stands.items_are;
          length_is = p.3.stands.length_is;
          changes_are = p.3.stands.changes_are;
          mirrors_own = p.3.stands.mirrors_own;
          mirrors_base = p.3.stands.mirrors_base;
        };
      }),
    ) h.holds

-- its next row is stored as it is
pub fill_stored : (st : State) (last k : ℕ) (r : Session) (fill left : Fill) (row : List Value) → (h : Filling st last k r fill) → Pops fill left row
    → (columns : List ColumnDef) × (st.view.content.columns fill.number ≡ Some columns) × (fits_columns columns row ≡ true)
fill_stored st last k r fill left row h popped =
    let f = (fill_at st last k r fill h).3 in
    let columns = f.inserts.suits.target.def.columns in
    let split : f.done ++ row ∷ reverse left.rows.items ≡ f.inserts.tuples = ap (λ xs. f.done ++ xs) (sym (ap reverse popped.rows ∙ reverse-append left.rows.items (row ∷ []))) ∙ f.rest in
    (columns, fill_columns st last k r fill h, stored_one columns f.done row (reverse left.rows.items) (subst (Each (λ t. fits_columns columns t ≡ true)) (sym split) f.inserts.fitting))

-- what is spent are pages or log room: no evidence is needed but the answer
pub spent_shows : (w : World) (l : Lock) (s : Session) (why : SqlState) → (why ≡ state.PagesSpent) ⊎ (why ≡ state.LogSpent) → IsShown w l s (Sql why [])
spent_shows w l s why h = elim h [
  | inl pages ↦ subst (λ y. IsShown w l s (Sql y [])) (sym pages) (inl ((λ tables. refl), refl))
  | inr log ↦ subst (λ y. IsShown w l s (Sql y [])) (sym log) (inl ((λ tables. refl), refl))
]

pub fill_starves : (st : State) (last k : ℕ) (r : Session) (fill : Fill) (made : Vec ℕ Global) (v' : View) → Filling st last k r fill → Moves (k + 1) st.view v' → made.items ≡ r.made.items
    → Holds (record { es = st.es; ls = st.ls; lock = st.lock; ss = set st.ss k (record r { made = made; phase = Refusing; plan = plan.Refuse Memory }); view = v'; named = st.named }) last
fill_starves st last k r fill made v' h m same = fill_fails st last k r fill made Memory v' h m same (inl ((λ tables. tt), refl))

pub fill_spent : (st : State) (last k : ℕ) (r : Session) (fill : Fill) (why : SqlState) (v' : View) → Filling st last k r fill → Moves (k + 1) st.view v' → (why ≡ state.PagesSpent) ⊎ (why ≡ state.LogSpent)
    → Holds (record { es = st.es; ls = st.ls; lock = st.lock; ss = set st.ss k (record r { phase = Refusing; plan = plan.Refuse (Sql why []) }); view = v'; named = st.named }) last
fill_spent st last k r fill why v' h m spent = fill_fails st last k r fill r.made (Sql why []) v' h m refl (spent_shows (world_of st.es) st.lock r why spent)

-- THE ENGINE, whole, with the dictionary behind the step
pub engine_listing : {Z : Type 0} (entries entries' : Vec Entry Z) (events : Vec Locked Z) (locks : LockTable) (ss : List Session) (v v' : View) (named named' : List Named) (last owed owed' owed_events k : ℕ) (r s' : Session)
    → EngineHolds entries events locks ss v named last owed owed_events → k < length ss → r ≡ get_or ss k r → stays_of s' ≡ stays_of r → owed' + entries_of r ≡ owed + entries_of s' → releases_of s' ≡ releases_of r → vec_len entries' + owed' ≤ vec_capacity entries'
    → Holds (state_of entries' events locks (set ss k s') v' named') last → EngineHolds entries' events locks (set ss k s') v' named' last owed' owed_events
engine_listing entries entries' events locks ss v v' named named' last owed owed' owed_events k r s' h lt at stays more same fit holds = record {
  holds = holds;
  room = room_after entries entries' events events ss (lock locks) (lock locks) owed owed_events owed' owed_events k r s' h.room lt at more (omega (arith, same)) fit h.room.events_fit;
  woken = h.woken;
  spent = spent_kept ss k r s' lt at (ap (λ x. x.0) stays) (ap (λ x. x.1) stays) (ap (λ x. x.2) stays) h.spent;
}

-- .. and as it was
pub engine_with : {Z : Type 0} (entries entries' : Vec Entry Z) (events : Vec Locked Z) (locks : LockTable) (ss : List Session) (v v' : View) (named : List Named) (last owed owed' owed_events k : ℕ) (r s' : Session)
    → EngineHolds entries events locks ss v named last owed owed_events → k < length ss → r ≡ get_or ss k r → stays_of s' ≡ stays_of r → owed' + entries_of r ≡ owed + entries_of s' → releases_of s' ≡ releases_of r → vec_len entries' + owed' ≤ vec_capacity entries'
    → Holds (state_of entries' events locks (set ss k s') v' named) last → EngineHolds entries' events locks (set ss k s') v' named last owed' owed_events
engine_with entries entries' events locks ss v v' named = engine_listing entries entries' events locks ss v v' named named

-- A statement is bound over the dictionary: it has its plan, or is refused with the evidence.
use Rattle.std.proofs.Common.{◌≡◌, ℕ, ◌+◌, ◌<◌, ◌≤◌, List, [], ◌∷◌, length, set, get_or, reverse, take, Bool, true, false, refl, sym, ◌∙◌, ap, subst, arith, inl, inr, Option, Some, None}
use Rattle.std.specs.Prelude.{if◌then◌else◌}
use Rattle.std.proofs.lemmas.List.{reverse-reverse}
use Rattle.std.proofs.lemmas.Bool.{both_ways}
use Rattle.std.proofs.lemmas.Bool.Decides.{nat_tests}
use Rattle.dby_types.specs.declared.definition.ColumnDef.{ColumnDef}
use Rattle.dby_types.specs.declared.definition.TableDef.{TableDef}
use Rattle.dby_types.specs.declared.state.SqlState.{SqlState}
use Rattle.dby_types.specs.declared.state.SqlState.TheVariants as state
use Rattle.dby_types.specs.declared.value.Value.{Value}
use Rattle.lock_modes.specs.Lock.{Lock}
use Rattle.store_api.specs.View.{View, changes_in}
use Rattle.table_model.specs.Tables.{Tables, Each, laid_over}
use Rattle.journal_model.specs.Catalog.{NoTable}
use Rattle.journal_model.specs.Meaning.{is_long, Names, Suits, names_twice}
use Rattle.journal_model.specs.declared.journal.Refusal.{Refusal}
use Rattle.journal_model.specs.declared.journal.Refusal.TheVariants.{Sql, Memory}
use Rattle.sql_commands.specs.declared.command.Command.{Command}
use Rattle.sql_forms.specs.declared.form.Form.TheVariants.{Select, Insert, CreateTable}
use Rattle.session_model.specs.declared.order.Order.{Order}
use Rattle.session_model.specs.declared.order.Order.TheVariants as ordered
use Rattle.session_model.specs.Legal.{HasEvidence, NullInOrder, puts_of}
use Rattle.session_model.specs.Orders.{order_of, is_built, is_create, RefusedIf, RefusedOrder, PassesOrder}
use Rattle.session_model.specs.Places.{ReadsCatalog, Shared, locks_of, is_catalog}
use Rattle.session_model.specs.World.{World, running, seen}
use Rattle.session_model.proofs.FitLemmas.{SameCatalog}
use Rattle.session_engine.specs.declared.dictionary.Defined.{Defined}
use Rattle.session_engine.specs.declared.session.Phase.TheVariants.{Preparing, Refusing}
use Rattle.session_engine.specs.declared.session.Plan.{Plan}
use Rattle.session_engine.specs.declared.session.Plan.TheVariants as plan
use Rattle.session_engine.specs.declared.session.Session.{Session}
use Rattle.session_engine.specs.Binding.{IsBound, BindsSelect, BindsInsert, BindsCreate, bound_phase}
use Rattle.session_engine.specs.Dictionary.{Named, Among, IsThere, IsAbsent, IsDictionary, definition_of, named_of}
use Rattle.session_engine.specs.State.{Mirrors, State, Holds, Busy, Prepares, IsOpened, IsShown, IsStage, Reflects, PhaseHolds, ends_in, opens, world_of, txn_of}
use Rattle.session_engine.proofs.ListedLemmas.{dictionary_same}
use Rattle.session_engine.proofs.StartLemmas.{mirrored}
use Rattle.session_engine.proofs.StepLemmas.{own_session, phase_at}
use Rattle.session_engine.proofs.TellLemmas.{busy_at}
use Rattle.session_engine.proofs.WantLemmas.{own_move, refusing_unchanged}

-- who relies on the catalog and has changed nothing sees it as it stands
pub sees_current : (w : World) (l : Lock) (t : ℕ) → Shared w (locks_of l.grants) → ReadsCatalog (locks_of l.grants) t → (w.txns t).changes ≡ (w.txns t).begun → SameCatalog w.current (seen w t)
sees_current w l t shared catalog unchanged = λ table rid c.
    (shared.txns t).seen table rid (catalog table rid c) ∙ ap (λ ms. laid_over ms w.committed table rid) unchanged

absent_none : (f : Tables) (named : List Named) (name : List ℕ) → IsDictionary f named → IsAbsent named name → NoTable f name
absent_none f named name dict absent = λ d defines is. not_among named name d absent (dict.only d defines) is
  where
    not_among : (es : List Named) (name : List ℕ) (d : TableDef) → Each (λ e. e.0 ≡ name → ⊥) es → Among (named_of d) es → d.name ≡ name → ⊥
    not_among [] name d h a is = a
    not_among (e ∷ es) name d h (inl same) is = h.0 (ap (λ (x : Named). x.0) (sym same) ∙ is)
    not_among (e ∷ es) name d h (inr later) is = not_among es name d h.1 later is

abbrev there_names : (f : Tables) (named : List Named) (name : List ℕ) (def : Defined) → IsDictionary f named → IsThere named name def → Names f name
there_names f named name def dict there = record { def = definition_of (name, def); defined = dict.there (name, def) there; named = refl }

user_table : (f : Tables) (named : List Named) (name : List ℕ) (def : Defined) → IsDictionary f named → IsThere named name def → is_catalog def.number ≡ false
user_table f named name def dict there = (let h : 16 ≤ def.number = dict.user (name, def) there in grind (arith, nat_tests))

-- evidence of a refusal, over what is seen
refused_shows : (text : List ℕ) (f : Tables) (o : Option Order) (why : SqlState) → is_long text ≡ false → order_of text ≡ o → RefusedOrder o f why → RefusedIf (is_long text) (order_of text) f why
refused_shows text f o why short is h = subst (λ b. RefusedIf b (order_of text) f why) (sym short) (subst (λ x. RefusedOrder x f why) (sym is) h)

-- WHAT FOLLOWS, by the order
pub record Bindable (w : World) (l : Lock) (v : View) (last c : ℕ) (s : Session) (named : List Named) : Type 0 where
  pub busy : Busy w l v last c s
  pub idle : s.queued ≡ false
  pub opened : IsOpened s
  pub prepares : Prepares w l v s
  pub runs : (w.txns (txn_of s)).stage ≡ running
  pub dictionary : IsDictionary (seen w (txn_of s)) named

abbrev bound : Session → Plan → Session
bound s p = record s { order = None; plan = p; phase = bound_phase p }

pub busy_bound : (w : World) (l : Lock) (v : View) (last c : ℕ) (s s' : Session) → s'.txn ≡ s.txn → s'.opened ≡ s.opened → s'.queued ≡ s.queued → s'.made.items ≡ s.made.items → IsStage s'.phase (w.txns (txn_of s)).stage → Busy w l v last c s → Busy w l v last c s'
busy_bound w l v last c s s' txn opened queued made stage b = busy_at w l v last c s' s.txn txn (record {
  stage = stage;
  conn = b.conn;
  mine = b.mine;
  positive = b.positive;
  numbered = b.numbered;
  numbers = b.numbers ∙ ap reverse (sym made);
  reflects = subst (λ o. Reflects o (v.content.changes (txn_of s)) (w.txns (txn_of s)).changes) (sym opened) b.reflects;
  slots = b.slots;
  containers = b.containers;
  idle = λ q. b.idle (sym queued ∙ q);
})

refuses_bound : (w : World) (l : Lock) (v : View) (last c : ℕ) (s : Session) (named : List Named) (why : Refusal) → Bindable w l v last c s named → IsShown w l s why → PhaseHolds Refusing w l v last c (bound s (plan.Refuse why))
refuses_bound w l v last c s named why h shown =
    let r = refusing_unchanged w l v last c s why h.busy (h.busy.idle h.idle) h.opened h.runs h.prepares.runs.first h.prepares.marked h.prepares.unchanged shown in (
      busy_bound w l v last c s (bound s (plan.Refuse why)) refl refl refl refl r.0.stage h.busy,
      h.idle,
      h.opened,
      record { first = r.3.first; shown = r.3.shown; stands = r.3.stands },
    )

binds_command : (w : World) (l : Lock) (v : View) (last c : ℕ) (s : Session) (named : List Named) (d : Command) (b : Bool) (p : Plan) → is_built d ≡ b → p ≡ (if b then plan.Command d else plan.Refuse (Sql state.NotBuilt []))
    → s.order ≡ Some (ordered.Command d) → Bindable w l v last c s named → PhaseHolds (bound_phase p) w l v last c (bound s p)
binds_command w l v last c s named d true p built is order h = subst (λ q. PhaseHolds (bound_phase q) w l v last c (bound s q)) (sym is) (
  busy_bound w l v last c s (bound s (plan.Command d)) refl refl refl refl h.runs h.busy,
  h.idle,
  h.opened,
  record {
    runs = record { first = h.prepares.runs.first; since = h.prepares.runs.since; short = h.prepares.runs.short };
    marked = h.prepares.marked;
    unchanged = h.prepares.unchanged;
    order = sym h.prepares.order ∙ order;
    built = built;
    catalog = h.prepares.catalog;
  },
)
binds_command w l v last c s named d false p built is order h = subst (λ q. PhaseHolds (bound_phase q) w l v last c (bound s q)) (sym is)
    (refuses_bound w l v last c s named (Sql state.NotBuilt []) h (inr (h.prepares.catalog, (refl, refused_shows (w.txns (txn_of s)).text (seen w (txn_of s)) (Some (ordered.Command d)) state.NotBuilt h.prepares.runs.short (sym h.prepares.order ∙ order) (refl, built)))))

binds_select : (w : World) (l : Lock) (v : View) (last c : ℕ) (s : Session) (named : List Named) (name : List ℕ) (p : Plan) → BindsSelect named name p → s.order ≡ Some (ordered.Form (Select name))
    → Bindable w l v last c s named → PhaseHolds (bound_phase p) w l v last c (bound s p)
binds_select w l v last c s named name plan.Nothing b order h = absurd b
binds_select w l v last c s named name (plan.Command d) b order h = absurd b
binds_select w l v last c s named name (plan.Insert fill) b order h = absurd b
binds_select w l v last c s named name (plan.Create make) b order h = absurd b
binds_select w l v last c s named name (plan.Refuse why) b order h =
    refuses_bound w l v last c s named why h (subst (IsShown w l s) (sym b.0) (inr (
      h.prepares.catalog,
      (
        refl,
        refused_shows (w.txns (txn_of s)).text (seen w (txn_of s)) (Some (ordered.Form (Select name))) state.NoTable h.prepares.runs.short (sym h.prepares.order ∙ order)
            (refl, absent_none (seen w (txn_of s)) named name h.dictionary b.1),
      ),
    )))
binds_select w l v last c s named name (plan.Select scan) b order h = (
  busy_bound w l v last c s (bound s (plan.Select scan)) refl refl refl refl h.runs h.busy,
  h.opened,
  (
    record {
      runs = record { first = h.prepares.runs.first; since = h.prepares.runs.since; short = h.prepares.runs.short };
      marked = h.prepares.marked;
      unchanged = h.prepares.unchanged;
      name = name;
      order = sym h.prepares.order ∙ order;
      catalog = h.prepares.catalog;
      target = there_names (seen w (txn_of s)) named name b.0 h.dictionary b.1;
      number = sym b.2;
      user = ap is_catalog b.2 ∙ user_table (seen w (txn_of s)) named name b.0 h.dictionary b.1;
      names = b.3;
    },
    b.4,
    λ q. absurd (both_ways s.queued h.idle q),
  ),
)

binds_insert : (w : World) (l : Lock) (v : View) (last c : ℕ) (s : Session) (named : List Named) (name : List ℕ) (tuples : List (List Value)) (p : Plan) → BindsInsert named name tuples p → s.order ≡ Some (ordered.Form (Insert name tuples))
    → Bindable w l v last c s named → PhaseHolds (bound_phase p) w l v last c (bound s p)
binds_insert w l v last c s named name tuples plan.Nothing b order h = absurd b
binds_insert w l v last c s named name tuples (plan.Command d) b order h = absurd b
binds_insert w l v last c s named name tuples (plan.Select scan) b order h = absurd b
binds_insert w l v last c s named name tuples (plan.Create make) b order h = absurd b
binds_insert w l v last c s named name tuples (plan.Refuse why) b order h =
    let text = (w.txns (txn_of s)).text in
    let f = seen w (txn_of s) in
    let is : order_of text ≡ Some (ordered.Form (Insert name tuples)) = sym h.prepares.order ∙ order in
    refuses_bound w l v last c s named why h (inr (
      h.prepares.catalog,
      elim b [
        | inl none ↦ subst (HasEvidence text f) (sym none.0) (refl, refused_shows text f (Some (ordered.Form (Insert name tuples))) state.NoTable h.prepares.runs.short is (inl (refl, absent_none f named name h.dictionary none.1)))
        | inr more ↦ elim more [
          | inl unfit ↦ subst (HasEvidence text f) (sym unfit.0) (
            refl,
            refused_shows text f (Some (ordered.Form (Insert name tuples))) state.NotBuilt h.prepares.runs.short is
                (inr (refl, record { target = there_names f named name unfit.1.0 h.dictionary unfit.1.1; misfit = unfit.1.2 })),
          )
          | inr null ↦ (
              let suits : Suits f name tuples = record { target = there_names f named name null.1.0 h.dictionary null.1.1; suited = null.1.2 } in
              subst (HasEvidence text f) (sym null.0) (refl, record { short = h.prepares.runs.short; order = subst (λ o. PassesOrder o f) (sym is) suits }, subst (λ o. NullInOrder o f) (sym is) (suits, null.1.3)))
        ]
      ],
    ))
binds_insert w l v last c s named name tuples (plan.Insert fill) b order h = (
  busy_bound w l v last c s (bound s (plan.Insert fill)) refl refl refl refl h.runs h.busy,
  h.opened,
  (
    record {
      inserts = record {
        runs = record { first = h.prepares.runs.first; since = h.prepares.runs.since; short = h.prepares.runs.short };
        name = name;
        tuples = tuples;
        order = sym h.prepares.order ∙ order;
        catalog = h.prepares.catalog;
        suits = record { target = there_names (seen w (txn_of s)) named name b.0 h.dictionary b.1; suited = b.2 };
        whole = b.3;
        fitting = b.4;
        number = sym b.5;
        user = ap is_catalog b.5 ∙ user_table (seen w (txn_of s)) named name b.0 h.dictionary b.1;
        count = b.7;
      };
      marked = h.prepares.marked;
      unchanged = h.prepares.unchanged;
      all = ap reverse b.6 ∙ reverse-reverse tuples;
      no_room = b.8;
    },
    λ q. absurd (both_ways s.queued h.idle q),
  ),
)

binds_create : (w : World) (l : Lock) (v : View) (last c : ℕ) (s : Session) (named : List Named) (name : List ℕ) (columns : List ColumnDef) (p : Plan) → BindsCreate named name columns p → s.order ≡ Some (ordered.Form (CreateTable name columns))
    → Bindable w l v last c s named → PhaseHolds (bound_phase p) w l v last c (bound s p)
binds_create w l v last c s named name columns plan.Nothing b order h = absurd b
binds_create w l v last c s named name columns (plan.Command d) b order h = absurd b
binds_create w l v last c s named name columns (plan.Select scan) b order h = absurd b
binds_create w l v last c s named name columns (plan.Insert fill) b order h = absurd b
binds_create w l v last c s named name columns (plan.Refuse why) b order h =
    let text = (w.txns (txn_of s)).text in
    let f = seen w (txn_of s) in
    let is : order_of text ≡ Some (ordered.Form (CreateTable name columns)) = sym h.prepares.order ∙ order in
    refuses_bound w l v last c s named why h (subst (IsShown w l s) (sym b.0) (inr (
      h.prepares.catalog,
      (
        refl,
        refused_shows text f (Some (ordered.Form (CreateTable name columns))) state.NotBuilt h.prepares.runs.short is
            (refl, elim b.1 [ inl there ↦ inl (there_names f named name there.0 h.dictionary there.1) | inr fault ↦ inr fault ]),
      ),
    )))
binds_create w l v last c s named name columns (plan.Create make) b order h = (
  busy_bound w l v last c s (bound s (plan.Create make)) refl refl refl refl h.runs h.busy,
  h.idle,
  h.opened,
  record {
    bears = record {
      runs = record { first = h.prepares.runs.first; since = h.prepares.runs.since; short = h.prepares.runs.short };
      order = sym h.prepares.order ∙ order ∙ ap (λ n. Some (ordered.Form (CreateTable n columns))) (sym b.3.name_is) ∙ ap (λ cs. Some (ordered.Form (CreateTable make.def.name cs))) (sym b.3.columns_are);
      alone = h.prepares.alone (ap is_create order);
      fresh = subst (NoTable (seen w (txn_of s))) (sym b.3.name_is) (absent_none (seen w (txn_of s)) named name h.dictionary b.0);
      distinct = ap names_twice b.3.columns_are ∙ b.1;
      few = subst (λ (cs : List ColumnDef). length cs ≤ 64) (sym b.3.columns_are) b.2;
    };
    stands = record {
      own_items = [];
      base = changes_in (v.content.changes (txn_of s));
      own = [];
      items_are = refl;
      length_is = h.prepares.marked;
      changes_are = h.prepares.unchanged;
      mirrors_own = tt;
      mirrors_base = subst (Mirrors (changes_in (v.content.changes (txn_of s)))) h.prepares.unchanged (mirrored s.opened (v.content.changes (txn_of s)) (w.txns (txn_of s)).changes h.opened h.busy.reflects);
    };
    puts = sym (ap (λ n. take n (puts_of make.def.number make.def.name make.def.columns)) b.3.none);
    within = (let none = b.3.none in omega (arith, none));
    unmade = λ bare. (b.3.none, b.3.no_room);
    founded = λ made left. absurd (both_ways make.made b.3.unmade made);
    room = λ on. absurd (both_ways make.has_room b.3.no_room on);
  },
)

binds_order : (w : World) (l : Lock) (v : View) (last c : ℕ) (s : Session) (named : List Named) (o : Option Order) (p : Plan) → IsBound named o p → s.order ≡ o
    → Bindable w l v last c s named → PhaseHolds (bound_phase p) w l v last c (bound s p)
binds_order w l v last c s named None p b order h = subst (λ q. PhaseHolds (bound_phase q) w l v last c (bound s q)) (sym b)
    (refuses_bound w l v last c s named (Sql (state.Syntax 0) []) h (inr (h.prepares.catalog, (refl, refused_shows (w.txns (txn_of s)).text (seen w (txn_of s)) None (state.Syntax 0) h.prepares.runs.short (sym h.prepares.order ∙ order) refl))))
binds_order w l v last c s named (Some (ordered.Command d)) p b order h = binds_command w l v last c s named d (is_built d) p refl b order h
binds_order w l v last c s named (Some (ordered.Form (Select name))) p b order h = elim b [
  | inl memory ↦ subst (λ q. PhaseHolds (bound_phase q) w l v last c (bound s q)) (sym memory) (refuses_bound w l v last c s named Memory h (inl ((λ tables. tt), refl)))
  | inr is ↦ binds_select w l v last c s named name p is order h
]
binds_order w l v last c s named (Some (ordered.Form (Insert name tuples))) p b order h = binds_insert w l v last c s named name tuples p b order h
binds_order w l v last c s named (Some (ordered.Form (CreateTable name columns))) p b order h = binds_create w l v last c s named name columns p b order h

-- BOUND
pub binds : (st : State) (last k : ℕ) (r : Session) (p : Plan) → k < length st.ss → r ≡ get_or st.ss k r → r.phase ≡ Preparing → IsBound st.named r.order p → Holds st last
    → Holds (record { es = st.es; ls = st.ls; lock = st.lock; ss = set st.ss k (bound r p); view = st.view; named = st.named }) last
binds st last k r p lt at is b ok =
    let w = world_of st.es in
    let h = phase_at Preparing w st.lock st.view last (k + 1) r is (own_session st last k r lt at ok) in
    let runs : (w.txns (txn_of r)).stage ≡ running = subst (λ q. IsStage q (w.txns (txn_of r)).stage) is h.0.stage in
    own_move st last k r (bound r p) lt at h.0 (h.0.idle h.1) refl
    (binds_order w st.lock st.view last (k + 1) r st.named r.order p b refl (record {
      busy = h.0;
      idle = h.1;
      opened = h.2;
      prepares = h.3;
      runs = runs;
      dictionary = dictionary_same w.current (seen w (txn_of r)) st.named (sees_current w st.lock (txn_of r) ok.shared h.3.catalog h.3.unchanged) ok.cataloged.dictionary;
    })) ok

-- what it may still have to put
pub bound_ends : (p : Plan) → (ends_in (bound_phase p) ≤ 3) × (opens (bound_phase p) ≡ 1)
bound_ends plan.Nothing = (omega arith, refl)
bound_ends (plan.Command d) = (omega arith, refl)
bound_ends (plan.Select scan) = (omega arith, refl)
bound_ends (plan.Insert fill) = (omega arith, refl)
bound_ends (plan.Create make) = (omega arith, refl)
bound_ends (plan.Refuse why) = (omega arith, refl)

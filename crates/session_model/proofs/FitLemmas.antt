-- What a statement means depends on the catalog and on its own table alone; and rows go on fitting their columns.
use Rattle.std.proofs.Common.{◌≡◌, ℕ, List, [], ◌∷◌, true, false, refl, sym, ◌∙◌, ap, inl, inr, Option, Some, None, Bool}
use Rattle.std.proofs.lemmas.Bool.{cases_Bool, or_parts}
use Rattle.dby_types.specs.declared.answer.Component.{Component}
use Rattle.dby_types.specs.declared.definition.TableDef.{TableDef}
use Rattle.dby_types.specs.declared.number.RowId.{RowId}
use Rattle.dby_types.specs.declared.state.SqlState.{SqlState}
use Rattle.dby_types.specs.declared.state.SqlState.TheVariants as state
use Rattle.dby_types.specs.declared.value.Value.{Value}
use Rattle.journal_model.specs.declared.journal.Refusal.{Refusal}
use Rattle.journal_model.specs.declared.journal.Refusal.TheVariants.{Sql, Memory}
use Rattle.sql_forms.specs.declared.form.Form.TheVariants.{CreateTable, Insert, Select}
use Rattle.table_model.specs.Tables.{Tables, Made, laid_over}
use Rattle.table_model.proofs.TablesLemmas.{each_map}
use Rattle.journal_model.specs.Catalog.{Defines}
use Rattle.journal_model.specs.Meaning.{is_long}
use Rattle.journal_model.specs.Levels.{ReadsCommitted, Stood, Moved, meets, rows_at}
use Rattle.journal_model.specs.Legal.{CommitsFit}
use Rattle.session_model.specs.declared.order.Order.{Order}
use Rattle.session_model.specs.declared.order.Order.TheVariants.{Command as bids, Form as runs}
use Rattle.session_model.specs.Orders.{PassesOrder, Passes, RefusedOrder, RefusedIf, order_of}
use Rattle.session_model.specs.World.{Told, said, denied}
use Rattle.session_model.specs.Legal.{NullInOrder, IsMeant, HasEvidence}
use Rattle.session_model.specs.Places.{is_catalog, touches, Fitting}
use Rattle.session_model.proofs.PlaceLemmas.{touched, untouched}

abbrev pub SameCatalog : Tables → Tables → Type 0
SameCatalog f g = (table : ℕ) (rid : RowId) → is_catalog table ≡ true → f table rid ≡ g table rid

pub other_way : (f g : Tables) → SameCatalog f g → SameCatalog g f
other_way f g e table rid c = sym (e table rid c)

pub defines_same : (f g : Tables) → SameCatalog f g → (d : TableDef) → Defines f d → Defines g d
defines_same f g e d h = record {
  number = h.number;
  table = (let t = h.table in (t.0, sym (e 1 t.0 refl) ∙ t.1));
  columns = record {
    each = λ place c at. let x = h.columns.each place c at in (x.0, sym (e 2 x.0 refl) ∙ x.1);
    only = λ rid row at is. h.columns.only rid row (e 2 rid refl ∙ at) is;
  };
  limit = h.limit;
}

-- MEANING
passes_form : (form : Order) (f g : Tables) → SameCatalog f g → PassesOrder (Some form) f → PassesOrder (Some form) g
passes_form (bids c) f g e h = h
passes_form (runs (CreateTable name columns)) f g e h = ((λ d defines. h.0 d (defines_same g f (other_way f g e) d defines)), h.1, h.2)
passes_form (runs (Insert name tuples)) f g e h = record {
  target = record { def = h.target.def; defined = defines_same f g e h.target.def h.target.defined; named = h.target.named };
  suited = h.suited;
}
passes_form (runs (Select name)) f g e h = record { def = h.def; defined = defines_same f g e h.def h.defined; named = h.named }

passes_order : (order : Option Order) (f g : Tables) → SameCatalog f g → PassesOrder order f → PassesOrder order g
passes_order None f g e h = h
passes_order (Some form) f g e h = passes_form form f g e h

pub passes_same : (text : List ℕ) (f g : Tables) → SameCatalog f g → Passes text f → Passes text g
passes_same text f g e h = record { short = h.short; order = passes_order (order_of text) f g e h.order }

null_same : (order : Option Order) (f g : Tables) → SameCatalog f g → NullInOrder order f → NullInOrder order g
null_same None f g e h = h
null_same (Some (bids c)) f g e h = h
null_same (Some (runs (CreateTable name columns))) f g e h = h
null_same (Some (runs (Select name))) f g e h = h
null_same (Some (runs (Insert name tuples))) f g e h = (
  record {
    target = record { def = h.0.target.def; defined = defines_same f g e h.0.target.def h.0.target.defined; named = h.0.target.named };
    suited = h.0.suited;
  },
  h.1,
)

-- THE SINGLE REFUSAL of a text, and the evidence of one
refused_form : (order : Order) (f g : Tables) → SameCatalog f g → (why : SqlState) → RefusedOrder (Some order) f why → RefusedOrder (Some order) g why
refused_form (bids c) f g e why h = h
refused_form (runs (CreateTable name columns)) f g e why h = (
  h.0,
  elim h.1 [
    | inl t ↦ inl (record { def = t.def; defined = defines_same f g e t.def t.defined; named = t.named })
    | inr more ↦ inr more
  ],
)
refused_form (runs (Insert name tuples)) f g e why h = elim h [
  | inl none ↦ inl (none.0, λ d defines. none.1 d (defines_same g f (other_way f g e) d defines))
  | inr bad ↦ inr (
    bad.0,
    record {
      target = record { def = bad.1.target.def; defined = defines_same f g e bad.1.target.def bad.1.target.defined; named = bad.1.target.named };
      misfit = bad.1.misfit;
    },
  )
]
refused_form (runs (Select name)) f g e why h = (h.0, λ d defines. h.1 d (defines_same g f (other_way f g e) d defines))

refused_same : (long : Bool) (order : Option Order) (f g : Tables) → SameCatalog f g → (why : SqlState) → RefusedIf long order f why → RefusedIf long order g why
refused_same true order f g e why h = h
refused_same false None f g e why h = h
refused_same false (Some order) f g e why h = refused_form order f g e why h

pub evidence_same : (text : List ℕ) (f g : Tables) → SameCatalog f g → (why : Refusal) → HasEvidence text f why → HasEvidence text g why
evidence_same text f g e Memory h = tt
evidence_same text f g e (Sql state.NullNotAllowed rows) h = (h.0, passes_same text f g e h.1, null_same (order_of text) f g e h.2)
evidence_same text f g e (Sql state.PagesSpent rows) h = h
evidence_same text f g e (Sql state.LogSpent rows) h = h
evidence_same text f g e (Sql state.Deadlock rows) h = (h.0, refused_same (is_long text) (order_of text) f g e state.Deadlock h.1)
evidence_same text f g e (Sql state.DuplicateKey rows) h = (h.0, refused_same (is_long text) (order_of text) f g e state.DuplicateKey h.1)
evidence_same text f g e (Sql state.TextTooLong rows) h = (h.0, refused_same (is_long text) (order_of text) f g e state.TextTooLong h.1)
evidence_same text f g e (Sql state.OutOfRange rows) h = (h.0, refused_same (is_long text) (order_of text) f g e state.OutOfRange h.1)
evidence_same text f g e (Sql state.DivisionByZero rows) h = (h.0, refused_same (is_long text) (order_of text) f g e state.DivisionByZero h.1)
evidence_same text f g e (Sql (state.Syntax at) rows) h = (h.0, refused_same (is_long text) (order_of text) f g e (state.Syntax at) h.1)
evidence_same text f g e (Sql state.NoTable rows) h = (h.0, refused_same (is_long text) (order_of text) f g e state.NoTable h.1)
evidence_same text f g e (Sql state.NoColumn rows) h = (h.0, refused_same (is_long text) (order_of text) f g e state.NoColumn h.1)
evidence_same text f g e (Sql state.AmbiguousColumn rows) h = (h.0, refused_same (is_long text) (order_of text) f g e state.AmbiguousColumn h.1)
evidence_same text f g e (Sql state.NotInTarget rows) h = (h.0, refused_same (is_long text) (order_of text) f g e state.NotInTarget h.1)
evidence_same text f g e (Sql state.ValueCount rows) h = (h.0, refused_same (is_long text) (order_of text) f g e state.ValueCount h.1)
evidence_same text f g e (Sql state.NotComparable rows) h = (h.0, refused_same (is_long text) (order_of text) f g e state.NotComparable h.1)
evidence_same text f g e (Sql state.NotStorable rows) h = (h.0, refused_same (is_long text) (order_of text) f g e state.NotStorable h.1)
evidence_same text f g e (Sql state.NameExists rows) h = (h.0, refused_same (is_long text) (order_of text) f g e state.NameExists h.1)
evidence_same text f g e (Sql state.NothingToDrop rows) h = (h.0, refused_same (is_long text) (order_of text) f g e state.NothingToDrop h.1)
evidence_same text f g e (Sql state.NoParent rows) h = (h.0, refused_same (is_long text) (order_of text) f g e state.NoParent h.1)
evidence_same text f g e (Sql state.CheckFails rows) h = (h.0, refused_same (is_long text) (order_of text) f g e state.CheckFails h.1)
evidence_same text f g e (Sql state.TooLarge rows) h = (h.0, refused_same (is_long text) (order_of text) f g e state.TooLarge h.1)
evidence_same text f g e (Sql state.StatementTooLong rows) h = (h.0, refused_same (is_long text) (order_of text) f g e state.StatementTooLong h.1)
evidence_same text f g e (Sql state.NameTwice rows) h = (h.0, refused_same (is_long text) (order_of text) f g e state.NameTwice h.1)
evidence_same text f g e (Sql state.Grouping rows) h = (h.0, refused_same (is_long text) (order_of text) f g e state.Grouping h.1)
evidence_same text f g e (Sql state.WrongOperand rows) h = (h.0, refused_same (is_long text) (order_of text) f g e state.WrongOperand h.1)
evidence_same text f g e (Sql state.SecondPrimaryKey rows) h = (h.0, refused_same (is_long text) (order_of text) f g e state.SecondPrimaryKey h.1)
evidence_same text f g e (Sql state.CursorState rows) h = (h.0, refused_same (is_long text) (order_of text) f g e state.CursorState h.1)
evidence_same text f g e (Sql state.CursorQuery rows) h = (h.0, refused_same (is_long text) (order_of text) f g e state.CursorQuery h.1)
evidence_same text f g e (Sql state.CursorsSpent rows) h = (h.0, refused_same (is_long text) (order_of text) f g e state.CursorsSpent h.1)
evidence_same text f g e (Sql state.CursorOpen rows) h = (h.0, refused_same (is_long text) (order_of text) f g e state.CursorOpen h.1)
evidence_same text f g e (Sql state.NoParentKey rows) h = (h.0, refused_same (is_long text) (order_of text) f g e state.NoParentKey h.1)
evidence_same text f g e (Sql state.IsParent rows) h = (h.0, refused_same (is_long text) (order_of text) f g e state.IsParent h.1)
evidence_same text f g e (Sql state.CheckTooLong rows) h = (h.0, refused_same (is_long text) (order_of text) f g e state.CheckTooLong h.1)
evidence_same text f g e (Sql state.NotBuilt rows) h = (h.0, refused_same (is_long text) (order_of text) f g e state.NotBuilt h.1)

-- a joined list of one table's rows over one view
stood_same : (n : ℕ) (f g : Tables) → ((rid : RowId) → f n rid ≡ g n rid) → (tuple : List Component) → Stood (λ m. f) 0 0 (n ∷ []) tuple → Stood (λ m. g) 0 0 (n ∷ []) tuple
stood_same n f g e [] h = h
stood_same n f g e (c ∷ []) h = ((h.0.0, h.0.1, h.0.2, sym (e c.rid) ∙ h.0.3), tt)
stood_same n f g e (c ∷ x ∷ xs) h = absurd h.1

rows_same : (n : ℕ) (f g : Tables) → ((rid : RowId) → f n rid ≡ g n rid) → (ids : List RowId) → rows_at f (n ∷ []) ids ≡ rows_at g (n ∷ []) ids
rows_same n f g e [] = refl
rows_same n f g e (r ∷ []) = ap (λ (row : Option (List Value)). rows_at (λ t s. row) (n ∷ []) (r ∷ [])) (e r)
rows_same n f g e (r ∷ x ∷ xs) = ap (λ (row : Option (List Value)). rows_at (λ t s. row) (n ∷ []) (r ∷ x ∷ xs)) (e r)

not_moved : (n : ℕ) (f : Tables) (ids : List RowId) → Moved (λ m. f) 0 0 (n ∷ []) ids → ⊥
not_moved n f [] h = h
not_moved n f (r ∷ []) h = elim h [ inl x ↦ x.6 refl | inr no_more ↦ no_more ]
not_moved n f (r ∷ x ∷ xs) h = elim h [ inl x ↦ x.6 refl | inr no_more ↦ no_more ]

reads_same : (n : ℕ) (f g : Tables) (joined : List (List Component)) → ((rid : RowId) → f n rid ≡ g n rid)
    → ReadsCommitted (λ m. f) 0 0 (n ∷ []) (λ row. meets) joined → ReadsCommitted (λ m. g) 0 0 (n ∷ []) (λ row. meets) joined
reads_same n f g joined e h = record {
  stood = each_map (Stood (λ m. f) 0 0 (n ∷ [])) (Stood (λ m. g) 0 0 (n ∷ [])) (stood_same n f g e) joined h.stood;
  met = h.met;
  once = λ ids rows stays met. h.once ids rows (λ m a b. rows_same n f g e ids ∙ stays m a b) met;
  quiet = λ ids rows why stays refuses. h.quiet ids rows why (λ m a b. rows_same n f g e ids ∙ stays m a b) refuses;
  twice = λ ids many. absurd (not_moved n f ids (h.twice ids many));
}

-- WHAT WAS TOLD IS RIGHT over another view with the same catalog and the same rows of its table
pub meant_same : (order : Option Order) (text : List ℕ) (f g : Tables) (n : ℕ) (told : Told) (before after : List Made)
    → SameCatalog f g → ((rid : RowId) → f n rid ≡ g n rid) → IsMeant order text f n told before after → IsMeant order text g n told before after
meant_same None text f g n (said a) before after e k h = tt
meant_same None text f g n (denied why) before after e k h = (passes_same text f g e h.0, null_same None f g e h.1)
meant_same (Some (bids c)) text f g n (said a) before after e k h = tt
meant_same (Some (bids c)) text f g n (denied why) before after e k h = (passes_same text f g e h.0, null_same (Some (bids c)) f g e h.1)
meant_same (Some (runs (CreateTable name columns))) text f g n (said a) before after e k h = passes_same text f g e h
meant_same (Some (runs (CreateTable name columns))) text f g n (denied why) before after e k h = (passes_same text f g e h.0, null_same (Some (runs (CreateTable name columns))) f g e h.1)
meant_same (Some (runs (Select name))) text f g n (said a) before after e k h = record {
  table = record { def = h.table.def; defined = defines_same f g e h.table.def h.table.defined; named = h.table.named };
  number_is = h.number_is;
  rows = h.rows;
  read = reads_same n f g h.rows k h.read;
  told = h.told;
}
meant_same (Some (runs (Select name))) text f g n (denied why) before after e k h = (passes_same text f g e h.0, null_same (Some (runs (Select name))) f g e h.1)
meant_same (Some (runs (Insert name tuples))) text f g n (said a) before after e k h = record {
  own = h.own;
  changes = h.changes;
  answers = record {
    suits = record {
      target = record { def = h.answers.suits.target.def; defined = defines_same f g e h.answers.suits.target.def h.answers.suits.target.defined; named = h.answers.suits.target.named };
      suited = h.answers.suits.suited;
    };
    whole = h.answers.whole;
    puts = h.answers.puts;
    told = h.answers.told;
    unread = h.answers.unread;
  };
  number_is = h.number_is;
}
meant_same (Some (runs (Insert name tuples))) text f g n (denied why) before after e k h = (passes_same text f g e h.0, null_same (Some (runs (Insert name tuples))) f g e h.1)

-- FITTING. Two transactions' changes, neither of which touches the catalog, fit over each other
abbrev pub OffCatalog : List Made → Type 0
OffCatalog ms = (table : ℕ) (rid : RowId) → is_catalog table ≡ true → touches ms table rid ≡ false

commits_merge : (f : Tables) (ms us : List Made) → OffCatalog ms → OffCatalog us → CommitsFit (laid_over ms f) → CommitsFit (laid_over us f) → CommitsFit (laid_over ms (laid_over us f))
commits_merge f ms us off off' fit fit' = λ d rid row defines at.
    let g = laid_over us f in
    let in_g : Defines g d = defines_same (laid_over ms g) g (λ table r c. untouched ms g table r (off table r c)) d defines in
    let in_f : Defines f d = defines_same g f (λ table r c. untouched us f table r (off' table r c)) d in_g in
    elim (cases_Bool (touches ms d.number rid)) [
      | inl hit ↦ fit d rid row (defines_same f (laid_over ms f) (λ table r c. sym (untouched ms f table r (off table r c))) d in_f) (touched ms f g d.number rid hit ∙ at)
      | inr miss ↦ fit' d rid row in_g (sym (untouched ms g d.number rid miss) ∙ at)
    ]

pub fitting_merge : (f : Tables) (ms us : List Made) → OffCatalog ms → OffCatalog us → Fitting f ms → CommitsFit (laid_over us f) → Fitting (laid_over us f) ms
fitting_merge f [] us off off' h fit = fit
fitting_merge f (m ∷ ms) us off off' h fit = (commits_merge f (m ∷ ms) us off off' h.0 fit, fitting_merge f ms us (λ table rid c. (or_parts _ _ (off table rid c)).1) off' h.1 fit)

pub fitting_head : (f : Tables) (ms : List Made) → Fitting f ms → CommitsFit (laid_over ms f)
fitting_head f [] h = h
fitting_head f (m ∷ ms) h = h.0

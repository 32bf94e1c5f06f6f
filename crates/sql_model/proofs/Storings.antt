-- A new row may stand in its table.
use Rattle.std.proofs.Common.{◌≡◌, ◌≤◌, ℕ, suc, ℤ, Bool, true, false, cond, List, [], ◌∷◌, length, take, map, Option, Some, None, Result, Ok, Err, refl, sym, ap, ◌∙◌, arith}
use Rattle.std.specs.Prelude.{nat_le, min}
use Rattle.std.proofs.lemmas.Bool.{and_from, and_parts, false≢true}
use Rattle.std.proofs.lemmas.Bool.Decides.{nat_tests}
use Rattle.std.proofs.lemmas.List.{length-take, length-map}
use Rattle.dby_types.specs.declared.definition.ColumnDef.{ColumnDef}
use Rattle.dby_types.specs.declared.state.SqlState.{SqlState}
use Rattle.dby_types.specs.declared.state.SqlState.TheVariants.{OutOfRange, TextTooLong, NotStorable}
use Rattle.dby_types.specs.declared.value.Ty.{Ty}
use Rattle.dby_types.specs.declared.value.Ty.TheVariants.{Small, Int, Big}
use Rattle.dby_types.specs.declared.value.Ty.TheVariants.{Bool as Truths, Text as Varchar}
use Rattle.dby_types.specs.declared.value.Value.{Value}
use Rattle.dby_types.specs.declared.value.Value.TheVariants.{Null, Num, Text}
use Rattle.dby_types.specs.declared.value.Value.TheVariants.{Bool as Truth}
use Rattle.expr_model.specs.declared.evaluated.Evaluated.{Evaluated}
use Rattle.expr_model.specs.declared.evaluated.Evaluated.TheVariants.{Value as Gives, Sql as Refused}
use Rattle.sql_ast.specs.declared.bound.BoundSet.{BoundSet}
use Rattle.sql_ast.specs.declared.bound.Expr.{Expr}
use Rattle.sql_model.specs.Changes.{tuple_values, set_values_from}
use Rattle.sql_model.specs.Inserting.{items_from, in_table_order}
use Rattle.sql_model.specs.Lines.{values_of, value_in, values_in, first_refusal}
use Rattle.sql_model.specs.Storing.{taken, kept_null, kept, kept_line, or_else, row_refusal, stored_row, HasNoNull, MayStand}
use Rattle.sql_model.specs.Tuples.{Row}
use Rattle.table_model.specs.Fitting.{fits_columns}
use Rattle.value_compare.specs.Logic.{is_null}
use Rattle.value_compare.specs.Storing.{is_number_of, is_number_type, stored, is_storable}
use Rattle.value_compare.specs.Text.{trimmed_text}

-- what a column keeps can be stored, and is NULL only of NULL
abbrev IsKept : Ty → Value → Type 0
IsKept ty w = (is_storable ty w ≡ true) × (is_null w ≡ false)

kept_number : (ty : Ty) (n : ℤ) (w : Value) → stored ty (Num n) ≡ Ok w → IsKept ty w
kept_number ty n w h = step (is_number_of ty n) refl (is_number_type ty) h
  where
    step : (b : Bool) → is_number_of ty n ≡ b → (c : Bool) → cond b (Ok (Num n)) (cond c (Err OutOfRange) (Err NotStorable)) ≡ Ok w → IsKept ty w
    step true e c h' = let same : Num n ≡ w = cc in (ap (is_storable ty) (sym same) ∙ e, ap is_null (sym same))
    step false e true h' = absurd (cc)
    step false e false h' = absurd (cc)

short_take : (limit : ℕ) (t : List ℕ) → nat_le (length (take limit t)) limit ≡ true
short_take limit t =
    let long : length (take limit t) ≡ min limit (length t) = length-take limit t in
    let fits : length (take limit t) ≤ limit = omega arith in
    grind (arith, nat_tests)

kept_text : (limit : ℕ) (t : List ℕ) (w : Value) → stored (Varchar limit) (Text t) ≡ Ok w → IsKept (Varchar limit) w
kept_text limit t w h = step (nat_le (length t) limit) refl (nat_le (length (trimmed_text t)) limit) h
  where
    step : (b : Bool) → nat_le (length t) limit ≡ b → (c : Bool) → cond b (Ok (Text t)) (cond c (Ok (Text (take limit t))) (Err TextTooLong)) ≡ Ok w → IsKept (Varchar limit) w
    step true e c h' = let same : Text t ≡ w = cc in (ap (is_storable (Varchar limit)) (sym same) ∙ e, ap is_null (sym same))
    step false e true h' = let same : Text (take limit t) ≡ w = cc in (ap (is_storable (Varchar limit)) (sym same) ∙ short_take limit t, ap is_null (sym same))
    step false e false h' = absurd (cc)

kept_value : (ty : Ty) (v w : Value) → is_null v ≡ false → stored ty v ≡ Ok w → IsKept ty w
kept_value ty Null w k h = absurd (cc)
kept_value ty (Num n) w k h = kept_number ty n w h
kept_value Truths (Truth b) w k h = let same : Truth b ≡ w = cc in (ap (is_storable Truths) (sym same), ap is_null (sym same))
kept_value Small (Truth b) w k h = absurd (cc)
kept_value Int (Truth b) w k h = absurd (cc)
kept_value Big (Truth b) w k h = absurd (cc)
kept_value (Varchar limit) (Truth b) w k h = absurd (cc)
kept_value (Varchar limit) (Text t) w k h = kept_text limit t w h
kept_value Small (Text t) w k h = absurd (cc)
kept_value Int (Text t) w k h = absurd (cc)
kept_value Big (Text t) w k h = absurd (cc)
kept_value Truths (Text t) w k h = absurd (cc)

-- one column
abbrev Stands : ColumnDef → Evaluated → Type 0
Stands c e = (is_storable c.ty (value_in e) ≡ true) × (c.not_null ≡ true → is_null (value_in e) ≡ false)

null_stands : (c : ColumnDef) → first_refusal (kept_null c.not_null ∷ []) ≡ None → Stands c (kept_null c.not_null)
null_stands c h = step c.not_null refl h
  where
    step : (b : Bool) → c.not_null ≡ b → first_refusal (kept_null b ∷ []) ≡ None → Stands c (kept_null b)
    step true e h' = absurd (cc)
    step false e h' = (refl, λ k. absurd (false≢true (sym e ∙ k)))

value_stands : (c : ColumnDef) (v : Value) → is_null v ≡ false → first_refusal (taken (stored c.ty v) ∷ []) ≡ None → Stands c (taken (stored c.ty v))
value_stands c v known h = step (stored c.ty v) refl h
  where
    step : (r : Result Value SqlState) → stored c.ty v ≡ r → first_refusal (taken r ∷ []) ≡ None → Stands c (taken r)
    step (Ok w) e h' = let kept : IsKept c.ty w = kept_value c.ty v w known e in (kept.0, λ k. kept.1)
    step (Err why) e h' = absurd (cc)

column_stands : (c : ColumnDef) (v : Value) → first_refusal (kept c v ∷ []) ≡ None → Stands c (kept c v)
column_stands c Null h = null_stands c h
column_stands c (Num n) h = value_stands c (Num n) refl h
column_stands c (Truth b) h = value_stands c (Truth b) refl h
column_stands c (Text t) h = value_stands c (Text t) refl h

-- all columns
none_parts : (e : Evaluated) (line : List Evaluated) → first_refusal (e ∷ line) ≡ None → (first_refusal (e ∷ []) ≡ None) × (first_refusal line ≡ None)
none_parts (Gives v) line h = (refl, h)
none_parts (Refused why) line h = absurd (cc)

abbrev LineStands : List ColumnDef → Row → Type 0
LineStands cs vs = (fits_columns cs vs ≡ true) × HasNoNull cs vs

line_stands : (cs : List ColumnDef) (vs : Row) → length vs ≡ length cs → first_refusal (kept_line cs vs) ≡ None → LineStands cs (values_in (kept_line cs vs))
line_stands [] [] long h = (refl, tt)
line_stands [] (v ∷ vs) long h = absurd (omega arith)
line_stands (c ∷ cs) [] long h = absurd (omega arith)
line_stands (c ∷ cs) (v ∷ vs) long h =
    let parts : (first_refusal (kept c v ∷ []) ≡ None) × (first_refusal (kept_line cs vs) ≡ None) = none_parts (kept c v) (kept_line cs vs) h in
    let here : Stands c (kept c v) = column_stands c v parts.0 in
    let rest : LineStands cs (values_in (kept_line cs vs)) = line_stands cs vs (omega arith) parts.1 in
    (and_from (is_storable c.ty (value_in (kept c v))) (fits_columns cs (values_in (kept_line cs vs))) here.0 rest.0, (here.1, rest.1))

later_none : (a b : Option SqlState) → or_else a b ≡ None → b ≡ None
later_none None b h = h
later_none (Some why) b h = absurd (cc)

pub new_row_stands : (columns : List ColumnDef) (line : List Evaluated) → length line ≡ length columns → row_refusal columns line ≡ None → MayStand columns (stored_row columns line)
new_row_stands columns line long h =
    let all : LineStands columns (values_in (kept_line columns (values_in line))) =
    line_stands columns (values_in line) (length-map line value_in ∙ long) (later_none (first_refusal line) (first_refusal (kept_line columns (values_in line))) h) in
    record { fits = all.0; nulls = all.1 }

-- a row that stands already is kept as it is
truth_itself : (ty : Ty) (b : Bool) → is_storable ty (Truth b) ≡ true → stored ty (Truth b) ≡ Ok (Truth b)
truth_itself Truths b h = refl
truth_itself Small b h = absurd (cc)
truth_itself Int b h = absurd (cc)
truth_itself Big b h = absurd (cc)
truth_itself (Varchar limit) b h = absurd (cc)

text_itself : (ty : Ty) (t : List ℕ) → is_storable ty (Text t) ≡ true → stored ty (Text t) ≡ Ok (Text t)
text_itself (Varchar limit) t h = ap (λ b. cond b (Ok (Text t)) (cond (nat_le (length (trimmed_text t)) limit) (Ok (Text (take limit t))) (Err TextTooLong))) h
text_itself Truths t h = absurd (cc)
text_itself Small t h = absurd (cc)
text_itself Int t h = absurd (cc)
text_itself Big t h = absurd (cc)

kept_itself : (c : ColumnDef) (v : Value) → is_storable c.ty v ≡ true → (c.not_null ≡ true → is_null v ≡ false) → kept c v ≡ Gives v
kept_itself c Null fits null = step c.not_null refl
  where
    step : (b : Bool) → c.not_null ≡ b → kept_null b ≡ Gives Null
    step true e = absurd (false≢true (sym (null e)))
    step false e = refl
kept_itself c (Num n) fits null = ap (λ b. taken (cond b (Ok (Num n)) (cond (is_number_type c.ty) (Err OutOfRange) (Err NotStorable)))) fits
kept_itself c (Truth b) fits null = ap taken (truth_itself c.ty b fits)
kept_itself c (Text t) fits null = ap taken (text_itself c.ty t fits)

line_itself : (cs : List ColumnDef) (vs : Row) → fits_columns cs vs ≡ true → HasNoNull cs vs → kept_line cs vs ≡ map Gives vs
line_itself [] [] h k = refl
line_itself [] (v ∷ vs) h k = absurd (cc)
line_itself (c ∷ cs) [] h k = absurd (cc)
line_itself (c ∷ cs) (v ∷ vs) h k =
    let parts : (is_storable c.ty v ≡ true) × (fits_columns cs vs ≡ true) = and_parts (is_storable c.ty v) (fits_columns cs vs) h in
    ap (λ (e : Evaluated). e ∷ kept_line cs vs) (kept_itself c v parts.0 k.0) ∙ ap (λ (l : List Evaluated). Gives v ∷ l) (line_itself cs vs parts.1 k.1)

given_values : (vs : Row) → values_in (map Gives vs) ≡ vs
given_values [] = refl
given_values (v ∷ vs) = ap (λ (r : Row). v ∷ r) (given_values vs)

given_quiet : (vs : Row) → first_refusal (map Gives vs) ≡ None
given_quiet [] = refl
given_quiet (v ∷ vs) = given_quiet vs

pub standing_row_stays : (columns : List ColumnDef) (r : Row) → MayStand columns r → stored_row columns (map Gives r) ≡ r
standing_row_stays columns r h =
    ap (λ (s : Row). values_in (kept_line columns s)) (given_values r) ∙ ap values_in (line_itself columns r h.fits h.nulls) ∙ given_values r

pub standing_row_quiet : (columns : List ColumnDef) (r : Row) → MayStand columns r → row_refusal columns (map Gives r) ≡ None
standing_row_quiet columns r h =
    ap (λ w. or_else w (first_refusal (kept_line columns (values_in (map Gives r))))) (given_quiet r)
    ∙ ap (λ (s : Row). first_refusal (kept_line columns s)) (given_values r) ∙ ap first_refusal (line_itself columns r h.fits h.nulls) ∙ given_quiet r

-- a new row has a value for each column
pub set_long : (n : ℕ) (sets : List BoundSet) (columns : List ColumnDef) (r : Row) → length (set_values_from n sets columns r) ≡ length columns
set_long n sets [] r = refl
set_long n sets (c ∷ cs) r = let more : length (set_values_from (suc n) sets cs r) ≡ length cs = set_long (suc n) sets cs r in omega arith

pub items_long : (n : ℕ) (columns : List ColumnDef) (ps : List ℕ) (es : List Expr) → length (items_from n columns ps es) ≡ length columns
items_long n [] ps es = refl
items_long n (c ∷ cs) ps es = let more : length (items_from (suc n) cs ps es) ≡ length cs = items_long (suc n) cs ps es in omega arith

values_long : (es : List Expr) (r : Row) → length (values_of es r) ≡ length es
values_long [] r = refl
values_long (e ∷ es) r = let more : length (values_of es r) ≡ length es = values_long es r in omega arith

pub tuple_long : (columns : List ColumnDef) (ps : List ℕ) (es : List Expr) → length (tuple_values (in_table_order columns ps es)) ≡ length columns
tuple_long columns ps es = values_long (in_table_order columns ps es) [] ∙ items_long 0 columns ps es

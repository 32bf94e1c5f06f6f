-- A table that a text spells is small: its names have at most 128 bytes and its columns are INTEGER, so that its catalog rows fit, and its own rows.
use Rattle.std.proofs.Common.{◌≡◌, ℕ, zero, suc, ◌+◌, ◌*◌, ◌<◌, ◌≤◌, ◌^◌, List, [], ◌∷◌, length, map, Bool, true, false, refl, sym, ap, subst, arith, Option, Some, None}
use Rattle.std.specs.Prelude.{⊤, ◌&&◌, ◌||◌, ◌==◌, codes, nat_le, slice_get, slice_range, if◌then◌else◌}
use Rattle.std.proofs.lemmas.Bool.{and_parts}
use Rattle.std.proofs.lemmas.Bool.Decides.{nat_tests}
use Rattle.std.proofs.lemmas.List.{length-map}
use Rattle.dby_types.specs.declared.definition.ColumnDef.{ColumnDef}
use Rattle.dby_types.specs.declared.value.Ty.TheVariants as ty
use Rattle.dby_types.specs.declared.value.Value.{Value}
use Rattle.table_model.specs.Fitting.{fits_columns}
use Rattle.table_model.specs.Tables.{Each}
use Rattle.table_model.proofs.TablesLemmas.{each_append}
use Rattle.row_codec.specs.StoredRow.{row_len}
use Rattle.store_api.specs.Catalog.{columns_of_tables, columns_of_columns}
use Rattle.journal_model.specs.Catalog.{table_row, column_row}
use Rattle.sql_lexer.specs.Kinds.{kind_of, name_of, number_of, number_from, quoted_of, text_of, sign_of, sign_of_two, sign_spelled, unquoted}
use Rattle.sql_lexer.specs.Bytes.{is_letter, is_digit, folded}
use Rattle.sql_lexer.specs.Reading.{reading_after, is_open}
use Rattle.sql_lexer.specs.Reserved.{is_reserved_word}
use Rattle.sql_lexer.specs.Tokens.{tokens_of, tokens_from, token_where, token_begin, ends_token}
use Rattle.sql_lexer.specs.declared.reading.Reading.{Reading}
use Rattle.sql_lexer.specs.declared.reading.Reading.TheVariants.{Between}
use Rattle.sql_lexer.specs.declared.token.Sign.{Sign as ASign}
use Rattle.sql_lexer.specs.declared.token.Sign.TheVariants as sign
use Rattle.sql_lexer.specs.declared.token.Token.{Token}
use Rattle.sql_lexer.specs.declared.token.TokenKind.{TokenKind}
use Rattle.sql_lexer.specs.declared.token.TokenKind.TheVariants.{Name, Quoted, Number, Text, Sign, Bad}
use Rattle.sql_forms.specs.declared.columns.ColumnsAt.{ColumnsAt}
use Rattle.sql_forms.specs.declared.columns.ColumnsAt.TheVariants as column
use Rattle.sql_forms.specs.declared.form.Form.{Form}
use Rattle.sql_forms.specs.declared.form.Form.TheVariants.{CreateTable, Insert, Select}
use Rattle.sql_forms.specs.Columns.{columns_in, columns_from, columns_end, if_done, next_column, column_at, column_where, column_name, column_flag, name_or}
use Rattle.sql_forms.specs.Forms.{form_of, spelled, selected, selected_of, created, created_of, inserted, inserted_of}
use Rattle.sql_forms.specs.Tuples.{tuples_in}
use Rattle.sql_forms.specs.Words.{name_in, is_word, is_star, is_comma, is_close}
use Rattle.sql_commands.specs.declared.command.Command.{Command}
use Rattle.sql_commands.specs.Commands.{command_of}
use Rattle.session_model.specs.declared.order.Order.TheVariants as ordered
use Rattle.session_model.specs.Orders.{order_of, order_from}

-- TOKENS: a name has at most 128 bytes
abbrev IsShort : TokenKind → Type 0
IsShort (Name name) = length name ≤ 128
IsShort (Quoted name) = length name ≤ 128
IsShort _ = ⊤

record Short (k : TokenKind) : Type 0 where
  short : IsShort k

short_if : (b : Bool) (x y : TokenKind) → (b ≡ true → Short x) → Short y → Short (if b then x else y)
short_if true x y h k = h refl
short_if false x y h k = k

a_sign : (s : ASign) → Short (Sign s)
a_sign s = record { short = tt }

none_bad : Short Bad
none_bad = record { short = tt }

short_name : (spelling : List ℕ) → Short (name_of spelling)
short_name spelling = short_if (nat_le (length spelling) 128) (Name (map folded spelling)) Bad
    (λ e. record { short = (let same = length-map spelling folded in let le : length spelling ≤ 128 = grind (arith, nat_tests) in omega (arith, same, le)) }) none_bad

short_quoted : (name : Option (List ℕ)) → Short (quoted_of name)
short_quoted None = none_bad
short_quoted (Some name) = short_if (nat_le 1 (length name) && nat_le (length name) 128) (Quoted name) Bad
    (λ e. record { short = (let both = (and_parts (nat_le 1 (length name)) (nat_le (length name) 128) e).1 in grind (arith, nat_tests)) }) none_bad

short_number : (digits : List ℕ) → Short (number_of digits)
short_number digits = short_if (nat_le (number_from 0 digits) 9223372036854775808) (Number (number_from 0 digits)) Bad (λ e. record { short = tt }) none_bad

short_text : (text : Option (List ℕ)) → Short (text_of text)
short_text None = none_bad
short_text (Some text) = record { short = tt }

short_one : (b : ℕ) → Short (sign_of b)
short_one b = short_if (b == 40) _ _ (λ e. a_sign sign.Open) (short_if (b == 41) _ _ (λ e. a_sign sign.Close)
    (short_if (b == 44) _ _ (λ e. a_sign sign.Comma) (short_if (b == 46) _ _ (λ e. a_sign sign.Dot)
    (short_if (b == 42) _ _ (λ e. a_sign sign.Star) (short_if (b == 43) _ _ (λ e. a_sign sign.Plus)
    (short_if (b == 45) _ _ (λ e. a_sign sign.Minus) (short_if (b == 47) _ _ (λ e. a_sign sign.Slash)
    (short_if (b == 61) _ _ (λ e. a_sign sign.Equal) (short_if (b == 60) _ _ (λ e. a_sign sign.Less)
    (short_if (b == 62) _ _ (λ e. a_sign sign.Greater) none_bad))))))))))

short_two : (b c : ℕ) → Short (sign_of_two b c)
short_two b c = short_if ((b == 60) && (c == 62)) _ _ (λ e. a_sign sign.NotEqual) (short_if ((b == 33) && (c == 61)) _ _ (λ e. a_sign sign.NotEqual)
    (short_if ((b == 60) && (c == 61)) _ _ (λ e. a_sign sign.LessEqual) (short_if ((b == 62) && (c == 61)) _ _ (λ e. a_sign sign.GreaterEqual) none_bad)))

short_signs : (b : ℕ) (rest : List ℕ) → Short (sign_spelled b rest)
short_signs b [] = short_one b
short_signs b (c ∷ rest) = short_two b c

short_kind : (spelling : List ℕ) → Short (kind_of spelling)
short_kind [] = none_bad
short_kind (b ∷ rest) = short_if (is_letter b) (name_of (b ∷ rest)) _ (λ e. short_name (b ∷ rest)) (short_if (is_digit b) (number_of (b ∷ rest)) _ (λ e. short_number (b ∷ rest))
    (short_if (b == 39) (text_of (unquoted 39 false rest)) _ (λ e. short_text (unquoted 39 false rest))
    (short_if (b == 34) (quoted_of (unquoted 34 false rest)) (sign_spelled b rest) (λ e. short_quoted (unquoted 34 false rest)) (short_signs b rest))))

abbrev HasShort : Token → Type 0
HasShort t = Short t.kind

short_where : (found : Bool) (text : List ℕ) (from to : ℕ) → Each HasShort (token_where found text from to)
short_where true text from to = (short_kind (slice_range text from to), tt)
short_where false text from to = tt

short_from : (text : List ℕ) (reading : Reading) (from at : ℕ) (rest : List ℕ) → Each HasShort (tokens_from text reading from at rest)
short_from text reading from at [] = short_where (is_open reading) text from at
short_from text reading from at (b ∷ rest) = each_append HasShort (token_where (ends_token reading b rest) text (token_begin reading from at) (at + 1))
    (tokens_from text (reading_after reading b rest) (token_begin reading from at) (at + 1) rest)
    (short_where (ends_token reading b rest) text (token_begin reading from at) (at + 1))
    (short_from text (reading_after reading b rest) (token_begin reading from at) (at + 1) rest)

-- COLUMNS
pub record IsSmallColumn (c : ColumnDef) : Type 0 where
  pub name : length c.name ≤ 128
  pub ty : c.ty ≡ ty.Int

abbrev IsShortName : Option (List ℕ) → Type 0
IsShortName None = ⊤
IsShortName (Some name) = length name ≤ 128

short_in_if : (b : Bool) (name : List ℕ) → length name ≤ 128 → IsShortName (if b then None else Some name)
short_in_if true name h = tt
short_in_if false name h = h

short_in : (k : TokenKind) → Short k → IsShortName (name_in k)
short_in (Name name) h = short_in_if (is_reserved_word name) name h.short
short_in (Quoted name) h = h.short
short_in (Number n) h = tt
short_in (Text text) h = tt
short_in (Sign s) h = tt
short_in Bad h = tt

short_or : (old : List ℕ) (name : Option (List ℕ)) → length old ≤ 128 → IsShortName name → length (name_or old name) ≤ 128
short_or old None h k = h
short_or old (Some name) h k = k

short_column_name : (at : ColumnsAt) (name : List ℕ) (t : TokenKind) → length name ≤ 128 → Short t → length (column_name at name t) ≤ 128
short_column_name column.Open name t h k = h
short_column_name column.Name name t h k = short_or name (name_in t) h (short_in t k)
short_column_name column.AtType name t h k = h
short_column_name column.Flag name t h k = h
short_column_name column.Null name t h k = h
short_column_name column.Next name t h k = h
short_column_name column.Done name t h k = h
short_column_name column.Failed name t h k = h

small_where : (ends : Bool) (name : List ℕ) (flag : Bool) → length name ≤ 128 → Each IsSmallColumn (column_where ends name flag)
small_where true name flag h = (record { name = h; ty = refl }, tt)
small_where false name flag h = tt

small_at : (at : ColumnsAt) (name : List ℕ) (flag : Bool) (t : TokenKind) → length name ≤ 128 → Each IsSmallColumn (column_at at name flag t)
small_at column.Open name flag t h = tt
small_at column.Name name flag t h = tt
small_at column.AtType name flag t h = tt
small_at column.Flag name flag t h = small_where (is_comma t || is_close t) name flag h
small_at column.Null name flag t h = tt
small_at column.Next name flag t h = small_where (is_comma t || is_close t) name flag h
small_at column.Done name flag t h = tt
small_at column.Failed name flag t h = tt

small_from : (ts : List Token) (at : ColumnsAt) (name : List ℕ) (flag : Bool) → length name ≤ 128 → Each HasShort ts → Each IsSmallColumn (columns_from at name flag ts)
small_from [] at name flag h k = tt
small_from (t ∷ ts) at name flag h k = each_append IsSmallColumn (column_at at name flag t.kind) (columns_from (next_column at t.kind) (column_name at name t.kind) (column_flag at flag) ts)
    (small_at at name flag t.kind h)
    (small_from ts (next_column at t.kind) (column_name at name t.kind) (column_flag at flag) (short_column_name at name t.kind h k.0) k.1)

-- FORMS
abbrev AreSmallColumns : Option (List ColumnDef) → Type 0
AreSmallColumns None = ⊤
AreSmallColumns (Some columns) = Each IsSmallColumn columns

small_done : (at : ColumnsAt) (columns : List ColumnDef) → Each IsSmallColumn columns → AreSmallColumns (if_done at columns)
small_done column.Open columns h = tt
small_done column.Name columns h = tt
small_done column.AtType columns h = tt
small_done column.Flag columns h = tt
small_done column.Null columns h = tt
small_done column.Next columns h = tt
small_done column.Done columns h = h
small_done column.Failed columns h = tt

abbrev IsSmallForm : Option Form → Type 0
IsSmallForm (Some (CreateTable name columns)) = (length name ≤ 128) × Each IsSmallColumn columns
IsSmallForm (Some (Insert name tuples)) = ⊤
IsSmallForm (Some (Select name)) = ⊤
IsSmallForm None = ⊤

record Small (f : Option Form) : Type 0 where
  small : IsSmallForm f

small_if : (b : Bool) (x y : Option Form) → Small x → Small y → Small (if b then x else y)
small_if true x y h k = h
small_if false x y h k = k

no_form : Small None
no_form = record { small = tt }

small_created : (name : Option (List ℕ)) (columns : Option (List ColumnDef)) → IsShortName name → AreSmallColumns columns → Small (created_of name columns)
small_created (Some name) (Some columns) h k = record { small = (h, k) }
small_created (Some name) None h k = no_form
small_created None columns h k = no_form

small_selected_of : (name : Option (List ℕ)) → Small (selected_of name)
small_selected_of None = no_form
small_selected_of (Some name) = record { small = tt }

small_inserted_of : (name : Option (List ℕ)) (tuples : Option (List (List Value))) → Small (inserted_of name tuples)
small_inserted_of (Some name) (Some tuples) = record { small = tt }
small_inserted_of (Some name) None = no_form
small_inserted_of None tuples = no_form

small_create : (ts : List Token) → Each HasShort ts → Small (created ts)
small_create [] h = no_form
small_create (table ∷ ts) h = small_created (name_in table.kind) (columns_in ts) (short_in table.kind h.0)
    (small_done (columns_end column.Open ts) (columns_from column.Open [] false ts) (small_from ts column.Open [] false (omega arith) h.1))

small_select : (ts : List Token) → Small (selected ts)
small_select [] = no_form
small_select (a ∷ []) = no_form
small_select (a ∷ b ∷ []) = small_if (is_word (codes "FROM") a.kind) (selected_of (name_in b.kind)) None (small_selected_of (name_in b.kind)) no_form
small_select (a ∷ b ∷ c ∷ ts) = no_form

small_insert : (ts : List Token) → Small (inserted ts)
small_insert [] = no_form
small_insert (a ∷ []) = no_form
small_insert (a ∷ b ∷ ts) = small_if (is_word (codes "VALUES") b.kind) (inserted_of (name_in a.kind) (tuples_in ts)) None (small_inserted_of (name_in a.kind) (tuples_in ts)) no_form

small_spelled : (ts : List Token) → Each HasShort ts → Small (spelled ts)
small_spelled [] h = no_form
small_spelled (a ∷ []) h = no_form
small_spelled (a ∷ b ∷ ts) h = small_if (is_word (codes "SELECT") a.kind && is_star b.kind) (selected ts) _ (small_select ts)
    (small_if (is_word (codes "CREATE") a.kind && is_word (codes "TABLE") b.kind) (created ts) _ (small_create ts h.1.1)
    (small_if (is_word (codes "INSERT") a.kind && is_word (codes "INTO") b.kind) (inserted ts) None (small_insert ts) no_form))

small_form : (text : List ℕ) → Small (form_of text)
unfolding form_of
small_form text = small_spelled (tokens_of text) (short_from text Between 0 0 text)

form_is : (c : Option Command) (f : Option Form) (g : Form) → order_from c f ≡ Some (ordered.Form g) → f ≡ Some g
form_is (Some c) f g e = cc
form_is None (Some f) g e = (let same : f ≡ g = cc in ap Some same)
form_is None None g e = cc

-- A CREATE TABLE that a text spells
pub small_create_of : (text name : List ℕ) (columns : List ColumnDef) → order_of text ≡ Some (ordered.Form (CreateTable name columns)) → (length name ≤ 128) × Each IsSmallColumn columns
small_create_of text name columns e = subst IsSmallForm (form_is (command_of text) (form_of text) (CreateTable name columns) e) (small_form text).small

-- ITS OWN ROWS are short
row_of_small : (columns : List ColumnDef) → Each IsSmallColumn columns → row_len columns ≡ 5 * length columns
row_of_small [] h = refl
row_of_small (c ∷ cs) h = (let rest = row_of_small cs h.1 in let one : row_len (c ∷ []) ≡ 5 = ap (λ t. row_len (record c { ty = t } ∷ [])) h.0.ty in omega (arith, rest, one))

pub short_rows : (columns : List ColumnDef) → Each IsSmallColumn columns → length columns ≤ 64 → row_len columns ≤ 1900
short_rows columns h few = (let len = row_of_small columns h in omega (arith, len, few))

-- ITS CATALOG ROWS fit
pub small_column : (columns : List ColumnDef) (k : ℕ) (c : ColumnDef) → Each IsSmallColumn columns → slice_get columns k ≡ Some c → IsSmallColumn c
small_column [] k c h at = cc
small_column (x ∷ columns) zero c h at = (let same : x ≡ c = cc in subst IsSmallColumn same h.0)
small_column (x ∷ columns) (suc k) c h at = small_column columns k c h.1 at

pub column_fits : (n place : ℕ) (c : ColumnDef) → n < 2 ^ 31 → place < 64 → IsSmallColumn c → fits_columns columns_of_columns (column_row n place c) ≡ true
column_fits n place c small few h =
    let name : nat_le (length c.name) 128 ≡ true = (let le = h.name in grind (arith, nat_tests)) in
    let kind = h.ty in
    subst (λ t. fits_columns columns_of_columns (column_row n place (record c { ty = t })) ≡ true) (sym kind) (grind (arith, nat_tests, name, small, few))

pub table_fits : (n : ℕ) (name : List ℕ) → n < 2 ^ 31 → length name ≤ 128 → fits_columns columns_of_tables (table_row n name) ≡ true
table_fits n name small short = (let is : nat_le (length name) 128 ≡ true = grind (arith, nat_tests) in grind (arith, nat_tests, is, small))

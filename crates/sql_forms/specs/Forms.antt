-- The form that a text spells, if it spells one of the three.
use Rattle.std.specs.Prelude.{ℕ, List, [], ◌∷◌, Option, Some, None, ◌&&◌, codes, if◌then◌else◌}
use Rattle.dby_types.specs.declared.definition.ColumnDef.{ColumnDef}
use Rattle.dby_types.specs.declared.value.Value.{Value}
use Rattle.sql_lexer.specs.Tokens.{tokens_of}
use Rattle.sql_lexer.specs.declared.token.Token.{Token}
use Rattle.sql_forms.specs.declared.form.Form.{Form}
use Rattle.sql_forms.specs.declared.form.Form.TheVariants.{CreateTable, Insert, Select}
use Rattle.sql_forms.specs.Words.{is_word, name_in, is_star}
use Rattle.sql_forms.specs.Columns.{columns_in}
use Rattle.sql_forms.specs.Tuples.{tuples_in}

abbrev pub selected_of : Option (List ℕ) → Option Form
selected_of None = None
selected_of (Some name) = Some (Select name)

-- behind SELECT *: FROM name
abbrev pub selected : List Token → Option Form
selected (from ∷ table ∷ []) = if is_word (codes "FROM") from.kind then selected_of (name_in table.kind) else None
selected _ = None

abbrev pub created_of : Option (List ℕ) → Option (List ColumnDef) → Option Form
created_of (Some name) (Some columns) = Some (CreateTable name columns)
created_of (Some name) None = None
created_of None columns = None

-- behind CREATE TABLE: name, columns
abbrev pub created : List Token → Option Form
created (table ∷ ts) = created_of (name_in table.kind) (columns_in ts)
created [] = None

abbrev pub inserted_of : Option (List ℕ) → Option (List (List Value)) → Option Form
inserted_of (Some name) (Some tuples) = Some (Insert name tuples)
inserted_of (Some name) None = None
inserted_of None tuples = None

-- behind INSERT INTO: name VALUES, tuples
abbrev pub inserted : List Token → Option Form
inserted (table ∷ values ∷ ts) =
    if is_word (codes "VALUES") values.kind then inserted_of (name_in table.kind) (tuples_in ts) else None
inserted _ = None

abbrev pub spelled : List Token → Option Form
spelled (first ∷ second ∷ ts) =
    if is_word (codes "SELECT") first.kind && is_star second.kind then selected ts
    else if is_word (codes "CREATE") first.kind && is_word (codes "TABLE") second.kind then created ts
    else if is_word (codes "INSERT") first.kind && is_word (codes "INTO") second.kind then inserted ts
    else None
spelled _ = None

-- the form of a text
unfoldable pub form_of : List ℕ → Option Form
form_of text = spelled (tokens_of text)

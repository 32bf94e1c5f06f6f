-- What the parts of CREATE and DROP say, in the words of the grammar's rules.
use Rattle.std.specs.Prelude.{ℕ, List, ◌∷◌}
use Rattle.dby_types.specs.declared.value.Ty.{Ty}
use Rattle.dby_types.specs.declared.value.Ty.TheVariants as ty
use Rattle.sql_ast.specs.declared.statement.ColumnMark.{ColumnMark}
use Rattle.sql_ast.specs.declared.statement.ColumnMark.TheVariants as mark
use Rattle.sql_ast.specs.declared.statement.ColumnText.{ColumnText}
use Rattle.sql_ast.specs.declared.statement.TablePart.{TablePart}
use Rattle.sql_ast.specs.declared.statement.TablePart.TheVariants as part
use Rattle.sql_grammar.specs.Rules.{Parsed, nothing, named, counted, pair, left, right}
use Rattle.sql_parts.specs.Lists.{all_said}

abbrev pub names_said : List (List ℕ) → Parsed
names_said ns = all_said (λ n. named n) ns

abbrev pub type_said : Ty → Parsed
type_said ty.Small = left nothing
type_said ty.Int = right (left nothing)
type_said ty.Big = right (right (left nothing))
type_said ty.Bool = right (right (right (left nothing)))
type_said (ty.Text n) = right (right (right (right (counted n))))

abbrev pub mark_said : ColumnMark → Parsed
mark_said mark.NotNull = left nothing
mark_said mark.PrimaryKey = right (left nothing)
mark_said mark.Unique = right (right nothing)

abbrev pub column_said : ColumnText → Parsed
column_said c = pair (named c.name) (pair (type_said c.ty) (all_said mark_said c.marks))

abbrev pub part_said : TablePart → Parsed
part_said (part.Column c) = left (column_said c)
part_said (part.PrimaryKey ns) = right (left (names_said ns))
part_said (part.Unique ns) = right (right (names_said ns))

-- of which the first one is a column
abbrev pub parts_said : List TablePart → Parsed
parts_said (part.Column c ∷ ps) = pair (column_said c) (all_said part_said ps)
parts_said _ = nothing

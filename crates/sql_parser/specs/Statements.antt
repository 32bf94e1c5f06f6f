-- What a statement says, in the words of the grammar's rules.
use Rattle.std.specs.Prelude.{ℕ, zero, suc, List, Option, Bool, true, false}
use Rattle.std.specs.Global.{Box}
use Rattle.dby_types.specs.declared.number.Level.{Level}
use Rattle.dby_types.specs.declared.number.Level.TheVariants as level
use Rattle.sql_ast.specs.declared.expression.Expression.{Expression}
use Rattle.sql_ast.specs.declared.statement.Dropped.{Dropped}
use Rattle.sql_ast.specs.declared.statement.Dropped.TheVariants as dropped
use Rattle.sql_ast.specs.declared.statement.TableMode.{TableMode}
use Rattle.sql_ast.specs.declared.statement.TableMode.TheVariants as mode
use Rattle.sql_ast.specs.declared.statement.TablePart.{TablePart}
use Rattle.sql_ast.specs.declared.statement.Item.{Item}
use Rattle.sql_ast.specs.declared.statement.SetText.{SetText}
use Rattle.sql_ast.specs.declared.statement.SelectText.{SelectText}
use Rattle.sql_ast.specs.declared.statement.Statement.{Statement}
use Rattle.sql_ast.specs.declared.statement.Statement.TheVariants as s
use Rattle.sql_grammar.specs.Rules.{Parsed, nothing, named, pair, left, right}
use Rattle.sql_parts.specs.Lists.{all_said}
use Rattle.sql_parts.specs.Options.{flag, option_said}
use Rattle.sql_parts.specs.Tables.{names_said, parts_said}
use Rattle.sql_parts.specs.Items.{expression_said, set_said, tuple_said}
use Rattle.sql_parts.specs.Queries.{select_said}

abbrev pub dropped_said : Dropped → Parsed
dropped_said dropped.Table = left nothing
dropped_said dropped.Index = right nothing

abbrev pub columns_said : Option (List (List ℕ)) → Parsed
columns_said c = option_said names_said c

abbrev pub boxed_said : Box Expression → Parsed
boxed_said b = expression_said b.value

abbrev pub where_said : Option (Box Expression) → Parsed
where_said c = option_said boxed_said c

abbrev pub query_said : Box SelectText → Parsed
query_said b = select_said b.value

abbrev pub mode_said : TableMode → Parsed
mode_said mode.Share = left nothing
mode_said mode.Exclusive = right nothing

-- UR, CS, RS or RR
abbrev pub level_said : Level → Parsed
level_said level.Ur = left nothing
level_said level.Cs = right (left nothing)
level_said level.Rs = right (right (left nothing))
level_said level.Rr = right (right (right nothing))

-- ON or OFF
abbrev pub on_said : Bool → Parsed
on_said true = left nothing
on_said false = right nothing

-- the form that stands behind this many others
abbrev pub behind : ℕ → Parsed → Parsed
behind zero v = v
behind (suc n) v = right (behind n v)

abbrev pub table_said : List ℕ → List TablePart → Parsed
table_said name parts = pair (named name) (parts_said parts)

abbrev pub index_said : Bool → List ℕ → List ℕ → List (List ℕ) → Parsed
index_said unique name table columns = pair (flag unique) (pair (named name) (pair (named table) (names_said columns)))

abbrev pub insert_said : List ℕ → Option (List (List ℕ)) → List (List Item) → Parsed
insert_said table columns tuples = pair (named table) (pair (columns_said columns) (all_said tuple_said tuples))

abbrev pub update_said : List ℕ → List SetText → Option (Box Expression) → Parsed
update_said table sets condition = pair (named table) (pair (all_said set_said sets) (where_said condition))

abbrev pub statement_said : Statement → Parsed
statement_said (s.CreateTable name parts) = left (left (table_said name parts))
statement_said (s.CreateIndex unique name table columns) = left (right (index_said unique name table columns))
statement_said (s.Drop what name) = behind 1 (left (pair (dropped_said what) (named name)))
statement_said (s.Insert table columns tuples) = behind 2 (left (insert_said table columns tuples))
statement_said (s.Update table sets condition) = behind 3 (left (update_said table sets condition))
statement_said (s.Delete table condition) = behind 4 (left (pair (named table) (where_said condition)))
statement_said (s.Select query) = behind 5 (left (query_said query))
statement_said (s.LockTable table mode) = behind 6 (left (pair (named table) (mode_said mode)))
statement_said (s.SetIsolation level) = behind 7 (left (level_said level))
statement_said (s.Autocommit on) = behind 8 (left (on_said on))
statement_said s.Commit = behind 9 (left nothing)
statement_said s.Rollback = behind 10 nothing
statement_said (s.Unread text) = nothing

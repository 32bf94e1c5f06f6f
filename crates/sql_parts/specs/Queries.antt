-- What the parts of SELECT say, in the words of the grammar's rules.
use Rattle.std.specs.Prelude.{ℕ, List, Option, Some, None, Bool, true, false}
use Rattle.sql_ast.specs.declared.expression.Expression.{Expression}
use Rattle.sql_ast.specs.declared.statement.OutText.{OutText}
use Rattle.sql_ast.specs.declared.statement.Shown.{Shown}
use Rattle.sql_ast.specs.declared.statement.Shown.TheVariants as shown
use Rattle.sql_ast.specs.declared.statement.TableText.{TableText}
use Rattle.sql_ast.specs.declared.statement.JoinText.{JoinText}
use Rattle.sql_ast.specs.declared.statement.FromText.{FromText}
use Rattle.sql_ast.specs.declared.statement.GroupText.{GroupText}
use Rattle.sql_ast.specs.declared.statement.OrderBy.{OrderBy}
use Rattle.sql_ast.specs.declared.statement.OrderBy.TheVariants as by
use Rattle.sql_ast.specs.declared.statement.OrderText.{OrderText}
use Rattle.sql_ast.specs.declared.statement.SelectText.{SelectText}
use Rattle.sql_grammar.specs.Rules.{Parsed, nothing, named, counted, pair, left, right, present}
use Rattle.sql_parts.specs.Lists.{all_said}
use Rattle.sql_parts.specs.Options.{flag, option_said, list_said}
use Rattle.sql_parts.specs.Items.{expression_said, condition_said}

abbrev pub alias_said : Option (List ℕ) → Parsed
alias_said n = option_said (λ n. named n) n

abbrev pub out_said : OutText → Parsed
out_said o = pair (expression_said o.expression) (alias_said o.name)

abbrev pub shown_said : Shown → Parsed
shown_said shown.All = left nothing
shown_said (shown.These outs) = right (all_said out_said outs)

abbrev pub table_said : TableText → Parsed
table_said t = pair (named t.name) (alias_said t.alias)

abbrev pub join_said : JoinText → Parsed
join_said j = pair (table_said j.table) (expression_said j.condition)

abbrev pub from_said : FromText → Parsed
from_said f = pair (table_said f.table) (all_said join_said f.joins)

-- a column alone, or behind its table and a dot
abbrev pub column_behind : Option (List ℕ) → List ℕ → Parsed
column_behind None column = pair (named column) nothing
column_behind (Some table) column = pair (named table) (present (named column))

abbrev pub group_said : GroupText → Parsed
group_said g = column_behind g.table g.column

abbrev pub by_said : OrderBy → Parsed
by_said (by.Name n) = left (named n)
by_said (by.Position n) = right (counted n)

-- ASC or DESC, by whether it is DESC
abbrev pub way_said : Bool → Parsed
way_said false = left nothing
way_said true = right nothing

abbrev pub order_said : OrderText → Parsed
order_said k = pair (by_said k.by) (flag k.descends)

-- [ WHERE expr ] [ GROUP BY .. ] [ ORDER BY .. ]
abbrev pub clauses_said : Option Expression → List GroupText → List OrderText → Parsed
clauses_said condition group order = pair (condition_said condition) (pair (list_said group_said group) (list_said order_said order))

abbrev pub source_said : List FromText → Option Expression → List GroupText → List OrderText → Parsed
source_said from condition group order = pair (all_said from_said from) (clauses_said condition group order)

abbrev pub select_said : SelectText → Parsed
select_said s = pair (flag s.distinct) (pair (shown_said s.shown) (source_said s.from s.condition s.group s.order))

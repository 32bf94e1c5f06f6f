-- A query.
use Rattle.std.specs.Prelude.{ℕ, List, ◌++◌, length}
use Rattle.dby_types.specs.declared.definition.Dictionary.{Dictionary}
use Rattle.dby_types.specs.declared.state.SqlState.{SqlState}
use Rattle.sql_ast.specs.declared.expression.Expression.{Expression}
use Rattle.sql_ast.specs.declared.statement.SelectText.{SelectText}
use Rattle.sql_binding.specs.Bound.{Shown, Query}
use Rattle.sql_binding.specs.Expressions.{Scope, conjuncts_of}
use Rattle.sql_binding.specs.Faults.{condition_faults}
use Rattle.sql_binding.specs.From.{tables_of, on_conditions, listed, sources_of, numbers_of, missing_tables, exposed_names, twice_faults, limit_faults}
use Rattle.sql_binding.specs.Names.{Source}
use Rattle.sql_binding.specs.Items.{items_of, shown_by, shown_faults}
use Rattle.sql_binding.specs.Grouping.{group_faults, groups_if, is_empty, is_grouped, key_places, keys_if, sums_of}
use Rattle.sql_binding.specs.Ordering.{order_faults, order_of}

-- the tables of a query
abbrev pub query_sources : Dictionary → SelectText → List Source
query_sources d q = sources_of d (tables_of q.from)

abbrev pub keys_of : Dictionary → SelectText → List ℕ
keys_of d q = key_places (query_sources d q) q.group

-- what select items are bound over: the joined row, or the row of a group, which has its keys and then the aggregates from left to right
abbrev pub query_scope : Dictionary → SelectText → Scope
query_scope d q = record { sources = query_sources d q; keys = keys_if (is_grouped q) (keys_of d q) }

-- the conditions of ON, and then that of WHERE
abbrev pub conditions_of : SelectText → List Expression
conditions_of q = on_conditions q.from ++ listed q.condition

abbrev pub shown_in : Dictionary → SelectText → List Shown
shown_in d q = shown_by (query_scope d q) (length (keys_of d q)) q.shown

-- A BOUND QUERY
abbrev pub query : Dictionary → SelectText → Query
query d q = record {
  distinct = q.distinct;
  shown = shown_in d q;
  tables = numbers_of d (tables_of q.from);
  conjuncts = conjuncts_of (query_sources d q) (conditions_of q);
  groups = groups_if (is_grouped q) (record { whole = is_empty q.group; keys = keys_of d q; sums = sums_of (query_sources d q) (items_of q.shown) });
  order = order_of (shown_in d q) q.order;
}

-- what is wrong behind the tables' names
abbrev pub later_faults : Dictionary → SelectText → List SqlState
later_faults d q =
    shown_faults (query_scope d q) (length (keys_of d q)) q.shown
    ++ (condition_faults (query_sources d q) (conditions_of q)
    ++ (group_faults (query_sources d q) q.group
    ++ (order_faults (shown_in d q) q.order
    ++ (twice_faults (exposed_names (query_sources d q))
    ++ limit_faults (length (tables_of q.from)) 8))))

-- ALL THAT IS WRONG with a query, each class from left to right
abbrev pub query_faults : Dictionary → SelectText → List SqlState
query_faults d q = missing_tables d (tables_of q.from) ++ later_faults d q

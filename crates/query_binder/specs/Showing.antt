-- The parts of a query bound: what is given, and the fault that is told behind it.
use Rattle.std.specs.Prelude.{◌≡◌, ℕ, Bool, List, [], ◌∷◌, ◌++◌, length, Option}
use Rattle.dby_types.specs.declared.definition.ColumnDef.{ColumnDef}
use Rattle.dby_types.specs.declared.state.SqlState.{SqlState}
use Rattle.expr_binder.specs.Walking.{kept, Walked}
use Rattle.expr_binder.specs.declared.walk.Walk.{Walk}
use Rattle.query_binder.specs.declared.chosen.Chosen.{Chosen}
use Rattle.sql_ast.specs.declared.bound.Expr.{Expr}
use Rattle.sql_ast.specs.declared.bound.OrderKey.{OrderKey}
use Rattle.sql_ast.specs.declared.bound.Out.{Out}
use Rattle.sql_ast.specs.declared.expression.Expression.{Expression}
use Rattle.sql_ast.specs.declared.statement.GroupText.{GroupText}
use Rattle.sql_ast.specs.declared.statement.OrderText.{OrderText}
use Rattle.sql_ast.specs.declared.statement.OutText.{OutText}
use Rattle.sql_ast.specs.declared.statement.SelectText.{SelectText}
use Rattle.sql_ast.specs.declared.statement.Shown.{Shown as ShownText}
use Rattle.sql_binding.specs.Bound.{Shown, shown_of, groups_in}
use Rattle.sql_binding.specs.Expressions.{Scope, conjuncts_of}
use Rattle.sql_binding.specs.Faults.{condition_faults, key_faults}
use Rattle.sql_binding.specs.From.{listed, on_conditions}
use Rattle.sql_binding.specs.Grouping.{group_faults, groups_if, key_places, keys_if, sums_of}
use Rattle.sql_binding.specs.Items.{calls_of, items_of, item_faults, shown_items, shown_tables, shown_columns, column_faults, all_faults, shown_by, shown_faults}
use Rattle.sql_binding.specs.Names.{Source}
use Rattle.sql_binding.specs.Ordering.{or_first, order_faults, order_faults_of, order_of}
use Rattle.sql_binding.specs.Trees.{trees_of}

-- CONDITIONS, with their conjuncts behind those that were there
pub record Tests (ss : List Source) (cs : List Expression) (f g : Option SqlState) (xs ys : List Expr) : Type 0 where
  pub parts : trees_of ys ≡ trees_of xs ++ conjuncts_of ss cs
  pub fault : g ≡ kept f (condition_faults ss cs)

-- .. those of a query
pub record Joins (ss : List Source) (q : SelectText) (f g : Option SqlState) (xs : List Expr) : Type 0 where
  pub parts : trees_of xs ≡ conjuncts_of ss (on_conditions q.from ++ listed q.condition)
  pub fault : g ≡ kept f (condition_faults ss (on_conditions q.from ++ listed q.condition))

-- GROUP BY
pub record Groups (ss : List Source) (texts : List GroupText) (f g : Option SqlState) (found : List ℕ) : Type 0 where
  pub places : found ≡ key_places ss texts
  pub fault : g ≡ kept f (group_faults ss texts)

-- SELECT ITEMS, of which the first has position 1
pub record Lists (s : Scope) (texts : List OutText) (a b : Walk) (outs : List Out) : Type 0 where
  pub shown : shown_of outs ≡ shown_items s a.next 1 texts
  pub walk : Walked a b (item_faults s a.next texts) (calls_of texts) (sums_of s.sources texts)

-- the column at a place of the joined row
pub record ListsOne (keys : Option (List ℕ)) (place : ℕ) (c : ColumnDef) (a b : Walk) (o : Out) : Type 0 where
  pub shown : (ss : List Source) → shown_of (o ∷ []) ≡ shown_columns (record { sources = ss; keys = keys }) place (c ∷ [])
  pub walk : Walked a b (key_faults keys place) 0 []

-- the columns of a table, behind those that were there
pub record ListsColumns (keys : Option (List ℕ)) (at : ℕ) (cs : List ColumnDef) (a b : Walk) (xs ys : List Out) : Type 0 where
  pub shown : (ss : List Source) → shown_of ys ≡ shown_of xs ++ shown_columns (record { sources = ss; keys = keys }) at cs
  pub walk : Walked a b (column_faults keys at cs) 0 []

-- ALL COLUMNS
pub record ListsAll (s : Scope) (a b : Walk) (outs : List Out) : Type 0 where
  pub shown : shown_of outs ≡ shown_tables s 0 s.sources
  pub walk : Walked a b (all_faults s.keys 0 s.sources) 0 []

-- WHAT A QUERY SHOWS
pub record Shows (s : Scope) (text : ShownText) (a b : Walk) (outs : List Out) : Type 0 where
  pub shown : shown_of outs ≡ shown_by s a.next text
  pub walk : Walked a b (shown_faults s a.next text) (calls_of (items_of text)) (sums_of s.sources (items_of text))

-- what a query shows over these keys, or over rows
abbrev pub over : List Source → Option (List ℕ) → Scope
over ss keys = record { sources = ss; keys = keys }

-- WHAT A QUERY SHOWS, of rows, or of the groups that these keys make
pub record Chooses (ss : List Source) (grouped whole : Bool) (keys : List ℕ) (text : ShownText) (f g : Option SqlState) (c : Chosen) : Type 0 where
  pub shown : shown_of c.outs ≡ shown_by (over ss (keys_if grouped keys)) (length keys) text
  pub groups : groups_in c.grouping ≡ groups_if grouped (record { whole = whole; keys = keys; sums = sums_of ss (items_of text) })
  pub fault : g ≡ kept f (shown_faults (over ss (keys_if grouped keys)) (length keys) text)

-- a column of ORDER BY
pub record Aims (found : Option ℕ) (f g : Option SqlState) (n : ℕ) : Type 0 where
  pub place : n ≡ or_first found
  pub fault : g ≡ kept f (order_faults_of found)

-- ORDER BY
pub record Orders (shown : List Shown) (texts : List OrderText) (f g : Option SqlState) (bound : List OrderKey) : Type 0 where
  pub keys : bound ≡ order_of shown texts
  pub fault : g ≡ kept f (order_faults shown texts)

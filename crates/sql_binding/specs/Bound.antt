-- Bound statements with trees alone: what a bound statement in code says.
use Rattle.std.specs.Prelude.{ℕ, Bool, List, [], ◌∷◌, map, Option, Some, None}
use Rattle.dby_types.specs.declared.definition.ColumnDef.{ColumnDef}
use Rattle.dby_types.specs.declared.number.Level.{Level}
use Rattle.sql_ast.specs.declared.bound.BoundKey.{BoundKey}
use Rattle.sql_ast.specs.declared.bound.BoundSelect.{BoundSelect}
use Rattle.sql_ast.specs.declared.bound.BoundSet.{BoundSet}
use Rattle.sql_ast.specs.declared.bound.BoundStatement.{BoundStatement}
use Rattle.sql_ast.specs.declared.bound.BoundStatement.TheVariants.{CreateTable, CreateIndex, Drop, Insert, Update, Delete, Select, LockTable, SetIsolation, Autocommit, Commit, Rollback}
use Rattle.sql_ast.specs.declared.bound.Grouping.{Grouping}
use Rattle.sql_ast.specs.declared.bound.OrderKey.{OrderKey}
use Rattle.sql_ast.specs.declared.bound.Out.{Out}
use Rattle.sql_ast.specs.declared.bound.Total.{Total}
use Rattle.sql_ast.specs.declared.bound.Total.TheVariants.{CountAll, Over}
use Rattle.sql_ast.specs.declared.expression.Aggregate.{Aggregate}
use Rattle.sql_ast.specs.declared.statement.Dropped.{Dropped}
use Rattle.sql_ast.specs.declared.statement.TableMode.{TableMode}
use Rattle.sql_binding.specs.Trees.{Tree, tree_of, trees_of}

-- a column of a query's answer
pub record Shown : Type 0 where
  pub name : List ℕ
  pub tree : Tree

pub data Sum : Type 0 where
  all_rows : Sum
  sum_of : Aggregate → Tree → Sum

pub record Groups : Type 0 where
  pub whole : Bool
  pub keys : List ℕ
  pub sums : List Sum

pub record Query : Type 0 where
  pub distinct : Bool
  pub shown : List Shown
  pub tables : List ℕ
  pub conjuncts : List Tree
  pub groups : Option Groups
  pub order : List OrderKey

-- a column that SET changes
pub record Put : Type 0 where
  pub column : ℕ
  pub tree : Tree

pub data Bound : Type 0 where
  create_table : List ℕ → List ColumnDef → List BoundKey → Bound
  create_index : Bool → List ℕ → ℕ → List ℕ → Bound
  drop_ : Dropped → ℕ → Bound
  insert : ℕ → List (List Tree) → Bound
  update : ℕ → List Put → List Tree → Bound
  delete : ℕ → List Tree → Bound
  select : Query → Bound
  lock_table : ℕ → TableMode → Bound
  set_isolation : Level → Bound
  autocommit : Bool → Bound
  commit rollback : Bound

abbrev pub shown_of : List Out → List Shown
shown_of [] = []
shown_of (o ∷ os) = record { name = o.name; tree = tree_of o.expression } ∷ shown_of os

abbrev pub sum_in : Total → Sum
sum_in CountAll = all_rows
sum_in (Over f e) = sum_of f (tree_of e)

abbrev pub groups_in : Option Grouping → Option Groups
groups_in None = None
groups_in (Some g) = Some (record { whole = g.whole; keys = g.keys; sums = map sum_in g.totals })

abbrev pub puts_of : List BoundSet → List Put
puts_of [] = []
puts_of (s ∷ ss) = record { column = s.column; tree = tree_of s.value } ∷ puts_of ss

abbrev pub query_of : BoundSelect → Query
query_of q = record {
  distinct = q.distinct;
  shown = shown_of q.outs;
  tables = q.tables;
  conjuncts = trees_of q.conjuncts;
  groups = groups_in q.grouping;
  order = q.order;
}

-- WHAT A BOUND STATEMENT SAYS
abbrev pub seen : BoundStatement → Bound
seen (CreateTable name columns keys) = create_table name columns keys
seen (CreateIndex unique name table columns) = create_index unique name table columns
seen (Drop what number) = drop_ what number
seen (Insert table tuples) = insert table (map trees_of tuples)
seen (Update table sets cs) = update table (puts_of sets) (trees_of cs)
seen (Delete table cs) = delete table (trees_of cs)
seen (Select q) = select (query_of q.value)
seen (LockTable table mode) = lock_table table mode
seen (SetIsolation level) = set_isolation level
seen (Autocommit on) = autocommit on
seen Commit = commit
seen Rollback = rollback

-- What a bound statement may be answered.
use Rattle.std.specs.Prelude.{◌≡◌, ℕ, List, [], ◌∷◌, length}
use Rattle.dby_types.specs.declared.answer.Answer.{Answer}
use Rattle.dby_types.specs.declared.answer.Answer.TheVariants.{Rows, Changed, Done, Committed, RolledBack}
use Rattle.dby_types.specs.declared.definition.Dictionary.{Dictionary}
use Rattle.sql_ast.specs.declared.bound.BoundSelect.{BoundSelect}
use Rattle.sql_ast.specs.declared.bound.BoundStatement.{BoundStatement}
use Rattle.sql_ast.specs.declared.bound.BoundStatement.TheVariants.{CreateTable, CreateIndex, Drop, Insert, Update, Delete, Select, LockTable, SetIsolation, Autocommit, Commit, Rollback}
use Rattle.sql_ast.specs.declared.bound.Out.{Out}
use Rattle.sql_model.specs.Changes.{RowChange}
use Rattle.sql_model.specs.Meaning.{Answers, Makes}
use Rattle.sql_model.specs.Tuples.{Row}
use Rattle.table_model.specs.Tables.{Tables}

abbrev pub names_of : List Out → List (List ℕ)
names_of [] = []
names_of (o ∷ os) = o.name ∷ names_of os

-- a query's columns and rows
pub record ShowsRows (q : BoundSelect) (tables : Tables) (answer : Answer) : Type 0 where
  pub rows : List Row
  pub answers : Answers q tables rows
  pub told : answer ≡ Rows (names_of q.outs) rows

-- the number of a statement's changes
pub record Counts (b : BoundStatement) (d : Dictionary) (tables : Tables) (answer : Answer) : Type 0 where
  pub changes : List RowChange
  pub makes : Makes b d tables changes
  pub told : answer ≡ Changed (length changes)

-- a statement that shows nothing
pub record IsDone (b : BoundStatement) (d : Dictionary) (tables : Tables) (answer : Answer) : Type 0 where
  pub changes : List RowChange
  pub makes : Makes b d tables changes
  pub told : answer ≡ Done

-- AN ANSWER of a bound statement over tables
abbrev pub IsTold : BoundStatement → Dictionary → Tables → Answer → Type 0
IsTold (CreateTable name columns keys) d tables answer = IsDone (CreateTable name columns keys) d tables answer
IsTold (CreateIndex unique name table columns) d tables answer = ⊥
IsTold (Drop what number) d tables answer = ⊥
IsTold (Insert table tuples) d tables answer = Counts (Insert table tuples) d tables answer
IsTold (Update table sets cs) d tables answer = Counts (Update table sets cs) d tables answer
IsTold (Delete table cs) d tables answer = Counts (Delete table cs) d tables answer
IsTold (Select q) d tables answer = ShowsRows q.value tables answer
IsTold (LockTable table mode) d tables answer = ⊥
IsTold (SetIsolation level) d tables answer = IsDone (SetIsolation level) d tables answer
IsTold (Autocommit on) d tables answer = answer ≡ Done
IsTold Commit d tables answer = answer ≡ Committed
IsTold Rollback d tables answer = answer ≡ RolledBack

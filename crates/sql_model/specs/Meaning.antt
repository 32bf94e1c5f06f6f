-- THE MEANING of a bound statement over tables: the refusals that it may give, and where there is none its answer or its changes.
use Rattle.std.specs.Prelude.{◌≡◌, ◌⊎◌, ℕ, List, [], ◌∷◌, map, Contains}
use Rattle.dby_types.specs.declared.definition.Dictionary.{Dictionary}
use Rattle.dby_types.specs.declared.number.Level.{Level}
use Rattle.dby_types.specs.declared.number.Level.TheVariants.{Ur, Cs, Rs, Rr}
use Rattle.dby_types.specs.declared.state.SqlState.{SqlState}
use Rattle.dby_types.specs.declared.state.SqlState.TheVariants.{NotBuilt}
use Rattle.sql_ast.specs.declared.bound.BoundSelect.{BoundSelect}
use Rattle.sql_ast.specs.declared.bound.BoundStatement.{BoundStatement}
use Rattle.sql_ast.specs.declared.bound.BoundStatement.TheVariants.{CreateTable, CreateIndex, Drop, Insert, Update, Delete, Select, LockTable, SetIsolation, Autocommit, Commit, Rollback}
use Rattle.sql_ast.specs.declared.bound.Expr.{Expr}
use Rattle.sql_model.specs.Catalog.{columns_in, create_changes}
use Rattle.sql_model.specs.Changes.{RowChange, insert_changes, insert_refusals, update_changes, update_refusals, delete_changes}
use Rattle.sql_model.specs.Joins.{Joins, WhereRefuses}
use Rattle.sql_model.specs.Query.{Finishes, finish_refusals}
use Rattle.sql_model.specs.Tuples.{Row, Tuple, row_of}
use Rattle.table_model.specs.Tables.{Tables}

abbrev pub rows_of : List Tuple → List Row
rows_of found = map row_of found

-- a refusal of what is made of the joined list
pub record LaterRefuses (tables : Tables) (from : List ℕ) (cs : List Expr) (refusals : List Tuple → List SqlState) (why : SqlState) : Type 0 where
  pub found : List Tuple
  pub joins : Joins tables from cs found
  pub refused : Contains (refusals found) why

abbrev pub query_refusals : BoundSelect → List Tuple → List SqlState
query_refusals q found = finish_refusals q (rows_of found)

abbrev pub no_refusals : List Tuple → List SqlState
no_refusals found = []

-- a refusal by WHERE for some tuple, or by what is made of the tuples that meet it
abbrev pub RefusesOver : Tables → List ℕ → List Expr → (List Tuple → List SqlState) → SqlState → Type 0
RefusesOver tables from cs refusals why = WhereRefuses tables from cs why ⊎ LaterRefuses tables from cs refusals why

-- two levels aren't built yet
abbrev pub LevelRefuses : Level → SqlState → Type 0
LevelRefuses Ur why = why ≡ NotBuilt
LevelRefuses Cs why = ⊥
LevelRefuses Rs why = why ≡ NotBuilt
LevelRefuses Rr why = ⊥

-- THE REFUSALS of a bound statement: all that some tuple, row or total gives. What isn't built yet has one refusal alone
abbrev pub Refuses : BoundStatement → Dictionary → Tables → SqlState → Type 0
Refuses (CreateTable name columns []) d tables why = ⊥
Refuses (CreateTable name columns (k ∷ ks)) d tables why = why ≡ NotBuilt
Refuses (CreateIndex unique name table columns) d tables why = why ≡ NotBuilt
Refuses (Drop what number) d tables why = why ≡ NotBuilt
Refuses (Insert table tuples) d tables why = Contains (insert_refusals (columns_in d table) tuples) why
Refuses (Update table sets cs) d tables why = RefusesOver tables (table ∷ []) cs (update_refusals (columns_in d table) sets) why
Refuses (Delete table cs) d tables why = RefusesOver tables (table ∷ []) cs no_refusals why
Refuses (Select q) d tables why = RefusesOver tables q.value.tables q.value.conjuncts (query_refusals q.value) why
Refuses (LockTable table mode) d tables why = why ≡ NotBuilt
Refuses (SetIsolation level) d tables why = LevelRefuses level why
Refuses (Autocommit on) d tables why = ⊥
Refuses Commit d tables why = ⊥
Refuses Rollback d tables why = ⊥

-- it refuses nothing
abbrev pub IsOk : BoundStatement → Dictionary → Tables → Type 0
IsOk b d tables = (why : SqlState) → Refuses b d tables why → ⊥

-- THE ANSWERS of a query: its bag, in ORDER BY's order
pub record Answers (q : BoundSelect) (tables : Tables) (rows : List Row) : Type 0 where
  pub quiet : (why : SqlState) → WhereRefuses tables q.tables q.conjuncts why → ⊥
  pub found : List Tuple
  pub joins : Joins tables q.tables q.conjuncts found
  pub finishes : Finishes q (rows_of found) rows

-- changes of the rows that meet WHERE
pub record ChangesFound (tables : Tables) (table : ℕ) (cs : List Expr) (make : List Tuple → List RowChange) (changes : List RowChange) : Type 0 where
  pub found : List Tuple
  pub joins : Joins tables (table ∷ []) cs found
  pub made : changes ≡ make found

-- THE CHANGES of a bound statement that refuses nothing
abbrev pub Changes : BoundStatement → Dictionary → Tables → List RowChange → Type 0
Changes (CreateTable name columns keys) d tables changes = (number : ℕ) × (changes ≡ create_changes number name columns)
Changes (CreateIndex unique name table columns) d tables changes = ⊥
Changes (Drop what number) d tables changes = ⊥
Changes (Insert table tuples) d tables changes = changes ≡ insert_changes table (columns_in d table) tuples
Changes (Update table sets cs) d tables changes = ChangesFound tables table cs (update_changes table (columns_in d table) sets) changes
Changes (Delete table cs) d tables changes = ChangesFound tables table cs (delete_changes table) changes
Changes (Select q) d tables changes = changes ≡ []
Changes (LockTable table mode) d tables changes = ⊥
Changes (SetIsolation level) d tables changes = changes ≡ []
Changes (Autocommit on) d tables changes = changes ≡ []
Changes Commit d tables changes = changes ≡ []
Changes Rollback d tables changes = changes ≡ []

-- A CHANGE THAT IS MADE: nothing refuses, and these are its changes
pub record Makes (b : BoundStatement) (d : Dictionary) (tables : Tables) (changes : List RowChange) : Type 0 where
  pub ok : IsOk b d tables
  pub changes_are : Changes b d tables changes

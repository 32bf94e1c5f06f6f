-- BINDING: a statement's tree and a dictionary give a bound statement, or one refusal.
use Rattle.std.specs.Prelude.{ℕ, List, [], ◌∷◌, ◌++◌, Option, Result}
use Rattle.dby_types.specs.declared.definition.Dictionary.{Dictionary}
use Rattle.dby_types.specs.declared.definition.TableDef.{TableDef}
use Rattle.dby_types.specs.declared.state.SqlState.{SqlState}
use Rattle.dby_types.specs.declared.state.SqlState.TheVariants.{NotBuilt}
use Rattle.sql_ast.specs.declared.expression.Expression.{Expression}
use Rattle.sql_ast.specs.declared.statement.Item.{Item}
use Rattle.sql_ast.specs.declared.statement.SetText.{SetText}
use Rattle.sql_ast.specs.declared.statement.Statement.{Statement}
use Rattle.sql_ast.specs.declared.statement.Statement.TheVariants.{Unread, CreateTable, CreateIndex, Drop, Insert, Update, Delete, Select, LockTable, SetIsolation, Autocommit, Commit, Rollback}
use Rattle.sql_binding.specs.Bound.{Bound, create_table, create_index, drop_, insert, update, delete, select, lock_table, set_isolation, autocommit, commit, rollback}
use Rattle.sql_binding.specs.Changes.{targets, missing_targets, tuples_trees, tuples_faults, names_in, puts, set_faults, set_names, condition_in, only_source}
use Rattle.sql_binding.specs.Creating.{created_columns, created_keys, create_faults, places_named, index_faults, dropped_number, drop_faults}
use Rattle.sql_binding.specs.Expressions.{conjuncts_of}
use Rattle.sql_binding.specs.Faults.{condition_faults}
use Rattle.sql_binding.specs.From.{columns_of, number_of, table_faults, found_in, twice_faults}
use Rattle.sql_binding.specs.Queries.{query, query_faults}
use Rattle.sql_binding.specs.Order.{refusal_of, given_unless}

abbrev pub inserted : Option TableDef → Option (List (List ℕ)) → List (List Item) → Bound
inserted t names tuples = insert (number_of t) (tuples_trees (columns_of t) (targets (columns_of t) names) tuples)

abbrev pub insert_faults : Option TableDef → Option (List (List ℕ)) → List (List Item) → List SqlState
insert_faults t names tuples =
    table_faults t ++ (missing_targets (columns_of t) (names_in names) ++ (tuples_faults (targets (columns_of t) names) tuples ++ twice_faults (names_in names)))

abbrev pub updated : Option TableDef → List ℕ → List SetText → List Expression → Bound
updated t name sets cs =
    update (number_of t) (puts (columns_of t) (only_source name (columns_of t)) sets) (conjuncts_of (only_source name (columns_of t)) cs)

abbrev pub update_faults : Option TableDef → List ℕ → List SetText → List Expression → List SqlState
update_faults t name sets cs =
    table_faults t ++ (set_faults (columns_of t) (only_source name (columns_of t)) sets
    ++ (condition_faults (only_source name (columns_of t)) cs ++ twice_faults (set_names sets)))

abbrev pub deleted : Option TableDef → List ℕ → List Expression → Bound
deleted t name cs = delete (number_of t) (conjuncts_of (only_source name (columns_of t)) cs)

abbrev pub delete_faults : Option TableDef → List ℕ → List Expression → List SqlState
delete_faults t name cs = table_faults t ++ condition_faults (only_source name (columns_of t)) cs

-- THE BOUND FORM. What a name stands for that isn't there says nothing: then there is a refusal, and this isn't given
abbrev pub bound_form : Statement → Dictionary → Bound
bound_form (Unread text) d = commit
bound_form (CreateTable name parts) d = create_table name (created_columns parts) (created_keys parts)
bound_form (CreateIndex unique name table columns) d = create_index unique name (number_of (found_in d table)) (places_named (columns_of (found_in d table)) columns)
bound_form (Drop what name) d = drop_ what (dropped_number d what name)
bound_form (Insert table columns tuples) d = inserted (found_in d table) columns tuples
bound_form (Update table sets condition) d = updated (found_in d table) table sets (condition_in condition)
bound_form (Delete table condition) d = deleted (found_in d table) table (condition_in condition)
bound_form (Select q) d = select (query d q.value)
bound_form (LockTable table mode) d = lock_table (number_of (found_in d table)) mode
bound_form (SetIsolation level) d = set_isolation level
bound_form (Autocommit on) d = autocommit on
bound_form Commit d = commit
bound_form Rollback d = rollback

-- ALL THAT IS WRONG with a statement, each class from left to right. A text that wasn't read is no statement
abbrev pub all_faults : Statement → Dictionary → List SqlState
all_faults (Unread text) d = NotBuilt ∷ []
all_faults (CreateTable name parts) d = create_faults d name parts
all_faults (CreateIndex unique name table columns) d = index_faults d name (table_faults (found_in d table)) (columns_of (found_in d table)) columns
all_faults (Drop what name) d = drop_faults d what name
all_faults (Insert table columns tuples) d = insert_faults (found_in d table) columns tuples
all_faults (Update table sets condition) d = update_faults (found_in d table) table sets (condition_in condition)
all_faults (Delete table condition) d = delete_faults (found_in d table) table (condition_in condition)
all_faults (Select q) d = query_faults d q.value
all_faults (LockTable table mode) d = table_faults (found_in d table)
all_faults (SetIsolation level) d = []
all_faults (Autocommit on) d = []
all_faults Commit d = []
all_faults Rollback d = []

-- A STATEMENT BOUND: its form where nothing is wrong, and else the one refusal
abbrev pub binding : Statement → Dictionary → Result Bound SqlState
binding s d = given_unless (refusal_of (all_faults s d)) (bound_form s d)

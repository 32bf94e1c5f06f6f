-- Which forms of statements are built: all but keys, indexes, DROP, LOCK TABLE, and the levels of reads that aren't committed or are repeatable.
use Rattle.std.specs.Prelude.{Bool, true, false, ◌||◌, not, List, [], ◌∷◌}
use Rattle.dby_types.specs.declared.number.Level.{Level}
use Rattle.dby_types.specs.declared.number.Level.TheVariants.{Ur, Cs, Rs, Rr}
use Rattle.sql_ast.specs.declared.statement.ColumnMark.{ColumnMark}
use Rattle.sql_ast.specs.declared.statement.ColumnMark.TheVariants as mark
use Rattle.sql_ast.specs.declared.statement.Statement.{Statement}
use Rattle.sql_ast.specs.declared.statement.Statement.TheVariants.{Unread, CreateTable, CreateIndex, Drop, Insert, Update, Delete, Select, LockTable, SetIsolation, Autocommit, Commit, Rollback}
use Rattle.sql_ast.specs.declared.statement.TablePart.{TablePart}
use Rattle.sql_ast.specs.declared.statement.TablePart.TheVariants.{Column, PrimaryKey, Unique}

abbrev pub is_key_mark : ColumnMark → Bool
is_key_mark mark.NotNull = false
is_key_mark mark.PrimaryKey = true
is_key_mark mark.Unique = true

abbrev pub marks_key : List ColumnMark → Bool
marks_key [] = false
marks_key (m ∷ ms) = is_key_mark m || marks_key ms

abbrev pub makes_key : TablePart → Bool
makes_key (Column c) = marks_key c.marks
makes_key (PrimaryKey names) = true
makes_key (Unique names) = true

abbrev pub has_key : List TablePart → Bool
has_key [] = false
has_key (p ∷ ps) = makes_key p || has_key ps

abbrev pub is_level : Level → Bool
is_level Ur = false
is_level Cs = true
is_level Rs = false
is_level Rr = true

abbrev pub is_built : Statement → Bool
is_built (Unread text) = false
is_built (CreateTable name parts) = not (has_key parts)
is_built (CreateIndex unique name table columns) = false
is_built (Drop what name) = false
is_built (Insert table columns tuples) = true
is_built (Update table sets condition) = true
is_built (Delete table condition) = true
is_built (Select q) = true
is_built (LockTable table mode) = false
is_built (SetIsolation level) = is_level level
is_built (Autocommit on) = true
is_built Commit = true
is_built Rollback = true

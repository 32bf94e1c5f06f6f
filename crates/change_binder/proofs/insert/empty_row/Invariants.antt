use Rattle.std.proofs.Common.{◌≡◌, ◌++◌, drop}
use Rattle.change_binder.specs.Filling.{nulls}
use Rattle.sql_binding.specs.Trees.{trees_of}
use Rattle.change_binder.proofs.insert.empty_row.Given as goal

abbrev pub invariant-loop-column : goal.invariant-loop-column
invariant-loop-column l = record { so_far : trees_of l.row.items ++ nulls (drop l.column-index l.columns) ≡ nulls l.columns }

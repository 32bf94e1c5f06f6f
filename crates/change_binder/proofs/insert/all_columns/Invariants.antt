use Rattle.std.proofs.Common.{◌≡◌, ◌++◌, drop}
use Rattle.change_binder.specs.Binding.{spots_in}
use Rattle.sql_binding.specs.Changes.{spots_of}
use Rattle.change_binder.proofs.insert.all_columns.Given as goal

abbrev pub invariant-loop-column : goal.invariant-loop-column
invariant-loop-column l = record {
  place : l.place ≡ l.column-index;
  so_far : spots_in l.spots.items ++ spots_of l.place (drop l.column-index l.columns) ≡ spots_of 0 l.columns;
}

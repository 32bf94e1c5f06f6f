use Rattle.std.proofs.Common.{◌≡◌, ◌++◌, drop}
use Rattle.change_binder.specs.Binding.{spots_in}
use Rattle.expr_binder.specs.Walking.{kept}
use Rattle.sql_binding.specs.Changes.{targets_named, missing_targets}
use Rattle.change_binder.proofs.insert.named_columns.Given as goal

abbrev pub invariant-loop-name : goal.invariant-loop-name
invariant-loop-name l = record {
  spots : spots_in l.spots.items ++ targets_named l.columns (drop l.name-index l.names) ≡ targets_named l.columns l.names;
  fault : kept l.fault (missing_targets l.columns (drop l.name-index l.names)) ≡ kept l.initial.fault (missing_targets l.columns l.names);
}

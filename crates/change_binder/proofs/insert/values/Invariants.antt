use Rattle.std.proofs.Common.{◌≡◌, ◌++◌, drop}
use Rattle.change_binder.specs.Binding.{spots_in, item_values}
use Rattle.expr_binder.specs.Walking.{kept}
use Rattle.sql_binding.specs.Changes.{tuple_faults}
use Rattle.sql_binding.specs.Trees.{trees_of}
use Rattle.change_binder.proofs.insert.values.Given as goal

abbrev pub invariant-loop-item : goal.invariant-loop-item
invariant-loop-item l = record {
  at : l.i ≡ l.item-index;
  trees : trees_of l.xs.items ++ item_values (spots_in (drop l.i l.spots)) (drop l.item-index l.items) ≡ item_values (spots_in l.spots) l.items;
  fault : kept l.fault (tuple_faults (spots_in (drop l.i l.spots)) (drop l.item-index l.items)) ≡ kept l.initial.fault (tuple_faults (spots_in l.spots) l.items);
}

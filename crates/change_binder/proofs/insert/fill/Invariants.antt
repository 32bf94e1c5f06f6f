use Rattle.std.proofs.Common.{◌≡◌, ◌≤◌, length, take}
use Rattle.change_binder.specs.Binding.{spots_in}
use Rattle.change_binder.specs.Filling.{filled}
use Rattle.sql_binding.specs.Trees.{trees_of}
use Rattle.change_binder.proofs.insert.fill.Given as goal

abbrev pub invariant-last : goal.invariant-last
invariant-last l = record {
  same : length l.values.items ≤ length l.spots;
  so_far : filled (spots_in (take (length l.values.items) l.spots)) (trees_of l.values.items) (trees_of l.row.items)
      ≡ filled (spots_in l.spots) (trees_of l.initial.values.items) (trees_of l.initial.row.items);
}

abbrev pub decreases-last : goal.decreases-last
decreases-last l = length l.values.items

use Rattle.std.proofs.Common.{◌≡◌, ℕ, [], None, length, reverse}
use Rattle.list_store.specs.Heaps.{rows_in, given_in, without_discarded}
use Rattle.list_store.proofs.heap.drop_discarded.Given as goal

abbrev pub invariant-loop-item : goal.invariant-loop-item
invariant-loop-item l = record {
  rows : (n : ℕ) → without_discarded [] (reverse l.items.items) (rows_in l.heaps.entries) n ≡ without_discarded [] (reverse l.fn.ended.items.items) (rows_in l.fn.heaps.entries) n;
  given : (n : ℕ) → without_discarded None (reverse l.items.items) (given_in l.heaps.entries) n ≡ without_discarded None (reverse l.fn.ended.items.items) (given_in l.fn.heaps.entries) n;
}

abbrev pub decreases-loop-item : goal.decreases-loop-item
decreases-loop-item l = length l.items.items

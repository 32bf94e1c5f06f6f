use Rattle.std.proofs.Common.{◌≡◌, ◌+◌, drop}
use Rattle.sql_binding.specs.Expressions.{index_of}
use Rattle.expr_binder.proofs.leaf.index_of.Given as goal

abbrev pub invariant-loop-key : goal.invariant-loop-key
invariant-loop-key l = record {
  place : l.at ≡ l.key-index;
  so_far : l.at + index_of l.p (drop l.key-index l.keys) ≡ index_of l.p l.keys;
}

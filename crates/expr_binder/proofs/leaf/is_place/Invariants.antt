use Rattle.std.proofs.Common.{◌≡◌, drop}
use Rattle.sql_binding.specs.Faults.{is_place}
use Rattle.expr_binder.proofs.leaf.is_place.Given as goal

abbrev pub invariant-loop-key : goal.invariant-loop-key
invariant-loop-key l = record { so_far : is_place l.p (drop l.key-index l.keys) ≡ is_place l.p l.keys }

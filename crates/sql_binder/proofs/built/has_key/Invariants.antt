use Rattle.std.proofs.Common.{◌≡◌, drop}
use Rattle.sql_binder.specs.Built.{has_key}
use Rattle.sql_binder.proofs.built.has_key.Given as goal

abbrev pub invariant-loop-part : goal.invariant-loop-part
invariant-loop-part l = record { so_far : has_key (drop l.part-index l.parts) ≡ has_key l.parts }

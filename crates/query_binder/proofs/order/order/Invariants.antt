use Rattle.query_binder.proofs.Keys.{Ordering}
use Rattle.sql_binding.specs.Bound.{shown_of}
use Rattle.query_binder.proofs.order.order.Given as goal

abbrev pub invariant-loop-text : goal.invariant-loop-text
invariant-loop-text l = Ordering (shown_of l.outs) l.texts l.text-index l.initial.fault l.fault l.keys

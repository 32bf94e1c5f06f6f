use Rattle.expr_binder.specs.Seen.{scope_in}
use Rattle.query_binder.proofs.ItemSteps.{Listing}
use Rattle.query_binder.proofs.items.items.Given as goal

abbrev pub invariant-loop-text : goal.invariant-loop-text
invariant-loop-text l = Listing (scope_in l.sources l.keys) l.texts l.text-index l.position l.initial.walk l.walk l.outs

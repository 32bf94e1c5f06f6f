use Rattle.expr_binder.specs.Seen.{sources_in}
use Rattle.query_binder.proofs.Keys.{Grouping}
use Rattle.query_binder.proofs.group.keys.Given as goal

abbrev pub invariant-loop-text : goal.invariant-loop-text
invariant-loop-text l = Grouping (sources_in l.sources) l.texts l.text-index l.initial.fault l.fault l.places

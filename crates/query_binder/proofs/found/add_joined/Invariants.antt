use Rattle.query_binder.proofs.TableSteps.{Joining}
use Rattle.query_binder.proofs.found.add_joined.Given as goal

abbrev pub invariant-loop-join : goal.invariant-loop-join
invariant-loop-join g l = Joining (g.D.Catalog.dictionary l.d) l.joins l.join-index l.initial.found l.found

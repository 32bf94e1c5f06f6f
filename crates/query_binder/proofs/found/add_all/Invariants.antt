use Rattle.query_binder.proofs.TableSteps.{Listing}
use Rattle.query_binder.proofs.found.add_all.Given as goal

abbrev pub invariant-loop-item : goal.invariant-loop-item
invariant-loop-item g l = Listing (g.D.Catalog.dictionary l.d) l.from l.item-index l.initial.found l.found

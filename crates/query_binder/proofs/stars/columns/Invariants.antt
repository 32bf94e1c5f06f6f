use Rattle.query_binder.proofs.ItemSteps.{Columns}
use Rattle.query_binder.proofs.stars.columns.Given as goal

abbrev pub invariant-loop-def : goal.invariant-loop-def
invariant-loop-def l = Columns l.keys l.at l.columns l.def-index l.place l.initial.walk l.walk l.initial.outs l.outs

use Rattle.change_binder.specs.Binding.{spots_in}
use Rattle.sql_binder.proofs.Rows.{Filling}
use Rattle.sql_binder.proofs.insert.rows.Given as goal

abbrev pub invariant-loop-items : goal.invariant-loop-items
invariant-loop-items l = Filling (spots_in l.spots) l.columns l.tuples l.items-index l.initial.fault l.fault l.rows

use Rattle.sql_binding.proofs.Changing.{tuples_long, targets_long, all_targets_long}
use Rattle.sql_binding.proofs.laws.tuples_have_all_columns.Goals as goal

pub returns : goal.returns
returns c = record { all = tuples_long; listed = targets_long; whole = all_targets_long 0 }

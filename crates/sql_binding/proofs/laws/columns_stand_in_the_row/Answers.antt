use Rattle.sql_binding.proofs.Placing.{within_row}
use Rattle.sql_binding.proofs.laws.columns_stand_in_the_row.Goals as goal

pub returns : goal.returns
returns c = within_row

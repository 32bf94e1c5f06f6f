use Rattle.sql_model.proofs.Storings.{new_row_stands}
use Rattle.sql_model.proofs.laws.new_rows_may_stand.Goals as goal

pub returns : goal.returns
returns c = new_row_stands

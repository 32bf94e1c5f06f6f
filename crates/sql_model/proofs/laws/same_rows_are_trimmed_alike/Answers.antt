use Rattle.sql_model.proofs.SameRows.{same_row_decides}
use Rattle.sql_model.proofs.laws.same_rows_are_trimmed_alike.Goals as goal

pub returns : goal.returns
returns c = same_row_decides

use Rattle.sql_model.proofs.Dividing.{groups_divide}
use Rattle.sql_model.proofs.laws.groups_divide_the_rows.Goals as goal

pub returns : goal.returns
returns c = groups_divide

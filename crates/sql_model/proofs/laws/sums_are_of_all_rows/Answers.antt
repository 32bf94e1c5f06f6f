use Rattle.sql_model.proofs.Totalling.{sum_of_all, total_of_parts}
use Rattle.sql_model.proofs.laws.sums_are_of_all_rows.Goals as goal

pub returns : goal.returns
returns c = record { whole = sum_of_all; parts = total_of_parts }

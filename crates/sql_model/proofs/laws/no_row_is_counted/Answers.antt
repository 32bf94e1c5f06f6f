use Rattle.std.proofs.Common.{refl}
use Rattle.sql_model.proofs.Totalling.{one_row, no_group}
use Rattle.sql_model.proofs.laws.no_row_is_counted.Goals as goal

pub returns : goal.returns
returns c = record { whole = one_row; keyed = no_group; all = refl; count = λ e. refl; sum = λ e. refl; ends = λ e. (refl, refl) }

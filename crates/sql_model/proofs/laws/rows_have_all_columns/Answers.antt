use Rattle.sql_model.proofs.Storings.{set_long, tuple_long, standing_row_stays, standing_row_quiet}
use Rattle.sql_model.proofs.laws.rows_have_all_columns.Goals as goal

pub returns : goal.returns
returns c = record {
  tuple = tuple_long;
  sets = λ columns sets r. set_long 0 sets columns r;
  same = λ columns r h. (standing_row_stays columns r h, standing_row_quiet columns r h);
}

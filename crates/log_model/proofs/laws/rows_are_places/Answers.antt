use Rattle.log_model.proofs.Effects.{container_put, row_put}
use Rattle.log_model.proofs.laws.rows_are_places.Goals as goal

pub returns : goal.returns
returns c = record { row = row_put; container = container_put }

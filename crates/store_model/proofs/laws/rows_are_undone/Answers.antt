use Rattle.store_model.proofs.Effects.{row_undone}
use Rattle.store_model.proofs.laws.rows_are_undone.Goals as goal

pub returns : goal.returns
returns c = row_undone

use Rattle.store_model.proofs.Effects.{row_changed, row_may_change}
use Rattle.store_model.proofs.laws.rows_change.Goals as goal

pub returns : goal.returns
returns c = record { may = row_may_change; shown = row_changed }

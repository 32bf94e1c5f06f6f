use Rattle.sql_binding.proofs.Keeping.{insert_kept, puts_kept}
use Rattle.sql_binding.proofs.laws.columns_can_store_their_values.Goals as goal

pub returns : goal.returns
returns c = record { insert = insert_kept; update = puts_kept }

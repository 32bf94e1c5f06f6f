use Rattle.sql_model.proofs.Swapping.{changes_swap}
use Rattle.sql_model.proofs.laws.changes_may_be_swapped.Goals as goal

pub returns : goal.returns
returns c = changes_swap

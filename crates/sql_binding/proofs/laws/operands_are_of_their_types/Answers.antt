use Rattle.sql_binding.proofs.Typing.{is_typed, condition_typed}
use Rattle.sql_binding.proofs.laws.operands_are_of_their_types.Goals as goal

pub returns : goal.returns
returns c = record { operands = is_typed; condition = condition_typed }

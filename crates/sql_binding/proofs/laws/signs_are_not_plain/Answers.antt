use Rattle.sql_binding.proofs.Signing.{sign_not_plain}
use Rattle.sql_binding.proofs.laws.signs_are_not_plain.Goals as goal
use Rattle.sql_binding.specs.Expressions.{bound_over}

pub returns : goal.returns
returns c = λ ss op p a x h. sign_not_plain op (bound_over ss a) x.node x.ty h

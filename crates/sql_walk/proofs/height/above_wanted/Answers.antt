use Rattle.std.proofs.Common.{◌∙◌, sym, ap}
use Rattle.sql_expressions.specs.Capped.{capped}
use Rattle.sql_walk.proofs.Heights.{operand_level}
use Rattle.sql_walk.proofs.height.above_wanted.Goals as goal

pub returns : goal.returns
returns c = c.above_term.ensures _ (c.above_product-term.ensures _ c.signed-factor.ensures) ∙ ap (λ d. capped d) (sym (operand_level c.args.level.now))

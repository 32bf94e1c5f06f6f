use Rattle.std.proofs.Common.{ap, ◌∙◌}
use Rattle.sql_binding.specs.Trees.{typed, column}
use Rattle.sql_binding.specs.Types.{total_type}
use Rattle.expr_binder.proofs.Forms.{called_walk, place_is}
use Rattle.expr_binder.proofs.expression.called.Goals as goal

pub returns : goal.returns
returns c fs h = (
  ap (λ n. typed (column n) c.total_type-ty.result) (place_is c.args.walk.now c.args.inner c.expect_summable.new.walk _ _ c.in_ok-place.ensures.0 c.expect_summable.ensures)
      ∙ ap (typed (column c.args.walk.now.next)) (c.total_type-ty.ensures ∙ ap (total_type c.args.f) c.ty_of.ensures),
  called_walk c.args.walk.now c.args.inner c.expect_summable.new.walk _ fs _ _ h c.expect_summable.ensures c.in_ok-place.ensures.1,
)

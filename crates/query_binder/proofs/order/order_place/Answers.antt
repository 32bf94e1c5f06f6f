use Rattle.std.proofs.Common.{ap, sym, ◌∙◌}
use Rattle.query_binder.proofs.ItemSteps.{shown_long}
use Rattle.sql_binding.specs.Bound.{shown_of}
use Rattle.sql_binding.specs.Ordering.{order_place, place_at}
use Rattle.query_binder.proofs.order.order_place.Goals as goal

pub returns-in-Position : goal.returns-in-Position
returns-in-Position c = c.place_at.ensures ∙ ap (place_at c.in-Position.n) (shown_long c.args.outs.now) ∙ ap (order_place (shown_of c.args.outs.now)) (sym c.in-Position.is)

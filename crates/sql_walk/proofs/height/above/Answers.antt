use Rattle.sql_walk.proofs.height.above.Goals as goal

pub returns : goal.returns
returns c x h = c.above_term.ensures _ (c.above_product-term.ensures _ (c.above_signs-factor.ensures x h))

use Rattle.sql_walk.proofs.height.above_term.Goals as goal

pub returns : goal.returns
returns c x h =
    c.above_tree.ensures _ (c.above_tree-conjunct.ensures _ (c.above_nots-negation.ensures _ (c.above_place-predicate.ensures _ (c.above_sum-sum.ensures x h))))

use Rattle.expr_binder.proofs.Conjuncts.{and_splits, to_part, on_ok}
use Rattle.expr_binder.proofs.condition.+condition.Goals as goal

pub returns-in_ok-condition-in-And : goal.returns-in_ok-condition-in-And
returns-in_ok-condition-in-And t c =
    on_ok _ _ _ c.condition-in-And.ensures (λ h. and_splits _ _ _ _ _ _ c.in-And.is _ _ _ _ _ _ (to_part c.deref.ensures c.in_ok-condition-in-And.ensures) (to_part c.deref-in-And.ensures h))

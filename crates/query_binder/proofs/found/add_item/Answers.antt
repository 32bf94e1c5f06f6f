use Rattle.expr_binder.proofs.Conjuncts.{on_ok}
use Rattle.query_binder.proofs.TableSteps.{item_adds}
use Rattle.query_binder.proofs.found.add_item.Goals as goal

pub returns : goal.returns
returns g c = on_ok _ _ _ c.add_joined.ensures (λ k. item_adds _ c.args.item.now _ _ _ c.as_slice.ensures c.in_ok-add.ensures k)

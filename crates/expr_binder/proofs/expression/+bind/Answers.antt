use Rattle.expr_binder.proofs.Forms.{or_binds, and_binds, add_binds, multiply_binds, not_binds, sign_binds, compare_binds, between_binds, in_binds, call_binds, at}
use Rattle.expr_binder.proofs.Looping.{member_tree, member_walk, trees_end, members_end}
use Rattle.expr_binder.proofs.expression.+bind.Goals as goal

pub expression-returns-in_ok-y-in-Or : goal.expression-returns-in_ok-y-in-Or
expression-returns-in_ok-y-in-Or t c =
    or_binds _ _ _ _ _ _ c.in-Or.is _ _ _ _ _ _ _ (at c.deref.ensures c.in_ok-x-in-Or.ensures) c.expect_kind.ensures
    (at c.deref-in-Or.ensures c.in_ok-y-in-Or.ensures) c.expect_kind-in-Or.ensures _ c.or.ensures

pub expression-returns-in_ok-y-in-And : goal.expression-returns-in_ok-y-in-And
expression-returns-in_ok-y-in-And t c =
    and_binds _ _ _ _ _ _ c.in-And.is _ _ _ _ _ _ _ (at c.deref-in-And.ensures c.in_ok-x-in-And.ensures) c.expect_kind-in-And.ensures
    (at c.deref-in-And-2.ensures c.in_ok-y-in-And.ensures) c.expect_kind-in-And-2.ensures _ c.and.ensures

pub expression-returns-in_ok-x-in-Not : goal.expression-returns-in_ok-x-in-Not
expression-returns-in_ok-x-in-Not t c =
    not_binds _ _ _ _ c.in-Not.is _ _ _ _ (at c.deref-in-Not.ensures c.in_ok-x-in-Not.ensures) c.expect_kind-in-Not.ensures _ c.not.ensures

pub expression-returns-in_ok-y-in-Compare : goal.expression-returns-in_ok-y-in-Compare
expression-returns-in_ok-y-in-Compare t c =
    compare_binds _ _ _ _ _ _ _ c.in-Compare.is _ _ _ _ _ _ _ c.ty_of.ensures (at c.deref-in-Compare.ensures c.in_ok-x-in-Compare.ensures)
    (at c.deref-in-Compare-2.ensures c.in_ok-y-in-Compare.ensures) c.expect_beside.ensures _ c.compare.ensures

pub expression-returns-in_ok-z-in-Between : goal.expression-returns-in_ok-z-in-Between
expression-returns-in_ok-z-in-Between t c =
    between_binds _ _ _ _ _ _ _ _ _ c.in-Between.is _ _ _ _ _ _ _ _ _ _ _ c.ty_of-in-Between.ensures c.ty_of-in-Between-2.ensures
    (at c.deref-in-Between.ensures c.in_ok-x-in-Between.ensures) (at c.deref-in-Between-2.ensures c.in_ok-y-in-Between.ensures) c.expect_beside-in-Between.ensures
    (at c.deref-in-Between-3.ensures c.in_ok-z-in-Between.ensures) c.expect_beside-in-Between-2.ensures _ c.between.ensures

pub expression-returns-in_ok-ys-in-In : goal.expression-returns-in_ok-ys-in-In
expression-returns-in_ok-ys-in-In t c =
    in_binds _ _ _ _ _ c.in-In.is _ c.as_slice.ensures.value _ _ _ _ _ _ c.ty_of-in-In.ensures (at c.deref-in-In.ensures c.in_ok-x-in-In.ensures)
    c.in_ok-ys-in-In.ensures.0 c.in_ok-ys-in-In.ensures.1 _ c.is_in.ensures

pub expression-returns-in_ok-y-in-Add : goal.expression-returns-in_ok-y-in-Add
expression-returns-in_ok-y-in-Add t c =
    add_binds _ _ _ _ _ _ _ c.in-Add.is _ _ _ _ _ _ _ (at c.deref-in-Add.ensures c.in_ok-x-in-Add.ensures) c.expect_kind-in-Add.ensures
    (at c.deref-in-Add-2.ensures c.in_ok-y-in-Add.ensures) c.expect_kind-in-Add-2.ensures _ c.sum_op.ensures _ c.arithmetic.ensures

pub expression-returns-in_ok-y-in-Multiply : goal.expression-returns-in_ok-y-in-Multiply
expression-returns-in_ok-y-in-Multiply t c =
    multiply_binds _ _ _ _ _ _ _ c.in-Multiply.is _ _ _ _ _ _ _ (at c.deref-in-Multiply.ensures c.in_ok-x-in-Multiply.ensures) c.expect_kind-in-Multiply.ensures
    (at c.deref-in-Multiply-2.ensures c.in_ok-y-in-Multiply.ensures) c.expect_kind-in-Multiply-2.ensures _ c.product_op.ensures _ c.arithmetic-in-Multiply.ensures

pub expression-returns-in_ok-x-in-Sign : goal.expression-returns-in_ok-x-in-Sign
expression-returns-in_ok-x-in-Sign t c =
    sign_binds _ _ _ _ _ c.in-Sign.is _ _ _ _ (at c.deref-in-Sign.ensures c.in_ok-x-in-Sign.ensures) c.expect_kind-in-Sign.ensures _ c.sign.ensures

pub expression-returns-in_ok-x-in-Call : goal.expression-returns-in_ok-x-in-Call
expression-returns-in_ok-x-in-Call t c =
    call_binds _ _ _ _ _ c.in-Call.is _ _ _ _ _ _ c.expect_groups-in-Call.ensures c.within-inner.ensures (at c.deref-in-Call.ensures c.in_ok-x-in-Call.ensures) _ c.called.ensures

pub members-loop-e-preserved : goal.members-loop-e-preserved
members-loop-e-preserved t c = record {
  trees = member_tree _ _ _ _ _ _ _ _ _ c.loop-e-test.true c.e-item.is c.in_ok-x.ensures c.expect_beside.ensures _ _ c.in_ok-push.ensures.items _ c.loop-e.invariant.trees;
  walk = member_walk _ _ _ _ _ _ _ _ _ c.loop-e-test.true c.e-item.is c.in_ok-x.ensures c.expect_beside.ensures _ c.loop-e.invariant.walk;
}

pub members-returns : goal.members-returns
members-returns t c = (
  trees_end _ _ _ _ _ _ c.loop-e-test.false c.loop-e.invariant.trees,
  members_end _ _ _ _ _ c.loop-e-test.false _ c.loop-e.invariant.walk,
)

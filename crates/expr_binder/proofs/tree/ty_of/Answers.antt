use Rattle.expr_binder.proofs.Rows.{type_is}
use Rattle.expr_binder.proofs.tree.ty_of.Goals as goal

pub returns : goal.returns
returns c = type_is c.args.x.now.node c.args.x.now.ty

use Rattle.change_binder.proofs.Rows.{tuple_is}
use Rattle.change_binder.proofs.insert.tuple.Goals as goal

pub returns : goal.returns
returns c = tuple_is _ _ c.args.items.now _ _ _ _ c.in_ok-xs.ensures c.keep_unless.ensures _ c.filled_row.ensures

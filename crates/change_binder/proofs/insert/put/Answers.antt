use Rattle.std.proofs.Common.{arith}
use Rattle.change_binder.proofs.Rows.{put_is, not_put}
use Rattle.change_binder.proofs.insert.put.Goals as goal

pub returns-then-place-len : goal.returns-then-place-len
returns-then-place-len c = put_is c.args.place c.args.x c.args.row.now.items

pub returns-else-place-len : goal.returns-else-place-len
returns-else-place-len c = not_put c.args.place c.args.x c.args.row.now.items (grind (arith, c.if-place-len.false, c.len.ensures))

use Rattle.std.proofs.Common.{◌∙◌, sym, arith}
use Rattle.lock_manager.proofs.ListedLemmas.{row_other}
use Rattle.lock_manager.proofs.unlisting.unlist_some.Goals as goal

pub loop-name-preserved-then-is_row_name : goal.loop-name-preserved-then-is_row_name
loop-name-preserved-then-is_row_name c = record {
  packed = c.unlist.ensures.packed;
  kept = λ k u other none. c.loop-name.invariant.kept k u other (c.unlist.ensures.kept k u (row_other c.args.table c.in-Some.name.now k c.args.txn u (sym c.is_row_name.ensures.exact ∙ c.if-is_row_name.true) other) none);
  room = omega (arith, c.loop-name.invariant.room, c.unlist.ensures.room);
}

use Rattle.std.proofs.Common.{arith}
use Rattle.lock_manager.proofs.ListedLemmas.{txn_other}
use Rattle.lock_manager.proofs.unlisting.unlist_each.Goals as goal

pub loop-name-preserved : goal.loop-name-preserved
loop-name-preserved c = record {
  packed = c.unlist.ensures.packed;
  kept = λ k u other none. c.loop-name.invariant.kept k u other (c.unlist.ensures.kept k u (txn_other c.in-Some.name.now k c.args.txn u other) none);
  room = omega (arith, c.loop-name.invariant.room, c.unlist.ensures.room);
}

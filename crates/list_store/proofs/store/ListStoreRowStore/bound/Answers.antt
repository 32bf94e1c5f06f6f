use Rattle.std.proofs.Common.{◌≤◌, ◌-◌, ◌^◌, subst, arith}
use Rattle.list_store.specs.Lists.{Lists, IsKept}
use Rattle.list_store.proofs.store.ListStoreRowStore.bound.Goals as goal

pub returns : goal.returns
returns c = few c.args.self.now (subst IsKept c.self.view_is c.self.invariant)
  where
    few : (l : Lists) → IsKept l → l.next_container - 13 ≤ 2 ^ 31
    few l kept = omega (arith, kept.containers.1)

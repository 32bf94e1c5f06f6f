use Rattle.std.proofs.Common.{subst}
use Rattle.list_store.specs.Lists.{IsKept}
use Rattle.list_store.proofs.ListLemmas.{sound}
use Rattle.list_store.proofs.store.ListStoreRowStore.law.Goals as goal

pub returns : goal.returns
returns c = sound c.args.self.now (subst IsKept c.self.view_is c.self.invariant)

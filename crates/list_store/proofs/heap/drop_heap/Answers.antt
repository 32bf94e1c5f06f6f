use Rattle.list_store.proofs.HeapLemmas.{none_put}
use Rattle.list_store.proofs.heap.drop_heap.Goals as goal

pub returns : goal.returns
returns c = none_put c.args.heaps.now.entries c.remove.new.self.entries c.args.table c.remove.ensures.updates.0

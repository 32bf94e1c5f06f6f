use Rattle.std.proofs.Common.{None, refl, sym, ◌∙◌}
use Rattle.list_store.proofs.HeapLemmas.{empty_put, nothing}
use Rattle.list_store.proofs.heap.make.Goals as goal

pub returns-clause-same : goal.returns-clause-same
returns-clause-same c =
    empty_put c.args.heaps.now.entries c.insert.new.self.entries c.args.table (record { columns = None; rows = c.new.result })
    c.in_ok-insert.ensures.updates.0 (nothing _ (sym c.contains_key.ensures ∙ c.if-contains_key.false)) refl c.new.ensures.items

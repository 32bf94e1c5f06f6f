use Rattle.std.proofs.Common.{◌∙◌, ap}
use Rattle.store_trials.specs.Sent.{cleared}
use Rattle.store_trials.proofs.OverLemmas.{moved_over}
use Rattle.store_trials.proofs.onward.OnwardStoreRowStore.onward.Goals as goal

pub returns-clause-ok : goal.returns-clause-ok
returns-clause-ok g c =
    moved_over (g.S.RowStore.view c.args.self.now.store) (g.S.RowStore.view c.onward-answer.new.self) c.args.self.now.sent c.clear.new.marks c.args.a c.onward-answer.result
    (c.clear.ensures ∙ ap (cleared c.args.self.now.sent c.args.a) c.ends_move.ensures)
    c.onward-answer.ensures.ok

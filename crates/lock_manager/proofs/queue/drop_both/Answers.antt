use Rattle.std.proofs.Common.{◌∙◌, sym}
use Rattle.lock_manager.proofs.TableLemmas.{not_among_parts}
use Rattle.lock_manager.proofs.WithoutLemmas.{without_nobody}
use Rattle.lock_manager.proofs.queue.drop_both.Goals as goal

pub returns-else-waits-clause-conversions : goal.returns-else-waits-clause-conversions
returns-else-waits-clause-conversions c =
    let cs = c.args.conversions.now.line.items in
    let rs = c.args.requests.now.line.items in
    without_nobody c.args.t cs (not_among_parts c.args.t cs rs (sym c.requires ∙ c.if-waits.false)).0

pub returns-else-waits-clause-requests : goal.returns-else-waits-clause-requests
returns-else-waits-clause-requests c =
    let cs = c.args.conversions.now.line.items in
    let rs = c.args.requests.now.line.items in
    without_nobody c.args.t rs (not_among_parts c.args.t cs rs (sym c.requires ∙ c.if-waits.false)).1

use Rattle.std.proofs.Common.{◌++◌, [], length, map, subst, inl, inr}
use Rattle.std.specs.Prelude.{string_bytes}
use Rattle.journal_text.specs.Printing.{Leaves}
use Rattle.derby.specs.Text.{journal_text, last_line}
use Rattle.derby.proofs.StepLemmas.{starts}
use Rattle.derby.proofs.printing.print_run.Goals as goal

pub returns-then-finish : goal.returns-then-finish
returns-then-finish g c =
    let start = g.K.Sink.seen c.args.sink.now in
    let told = journal_text (length c.args.scripts.now) c.args.journal.now in
    let text = told ++ last_line c.args.ending c.args.plan.now (map string_bytes c.args.scripts.now) in
    let printed = c.put_last.ensures.behind start told (c.put_text.ensures.behind start [] (starts start c.new-out.result c.new-out.ensures.empty c.new-out.ensures.well)) in
    inl (subst (λ b. Leaves b start (g.K.Sink.seen c.finish.new.sink) text) c.if-finish.true (c.finish.ensures start text printed), c.status.ensures)

pub returns-else-finish : goal.returns-else-finish
returns-else-finish g c =
    let start = g.K.Sink.seen c.args.sink.now in
    let told = journal_text (length c.args.scripts.now) c.args.journal.now in
    let text = told ++ last_line c.args.ending c.args.plan.now (map string_bytes c.args.scripts.now) in
    let printed = c.put_last.ensures.behind start told (c.put_text.ensures.behind start [] (starts start c.new-out.result c.new-out.ensures.empty c.new-out.ensures.well)) in
    inr (subst (λ b. Leaves b start (g.K.Sink.seen c.finish.new.sink) text) c.if-finish.false (c.finish.ensures start text printed), c.status_at_fault.ensures)

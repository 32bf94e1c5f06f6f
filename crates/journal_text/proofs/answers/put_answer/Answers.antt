use Rattle.std.proofs.Common.{sym, subst}
use Rattle.dby_types.specs.declared.answer.Answer.{Answer}
use Rattle.journal_model.specs.Text.{answer_text}
use Rattle.journal_text.specs.Printing.{Prints}
use Rattle.journal_text.proofs.answers.put_answer.Goals as goal

pub returns-in-RolledBack : goal.returns-in-RolledBack
returns-in-RolledBack g c =
    subst (λ (a : Answer). Prints (g.K.Sink.seen c.args.sink.now) c.args.out.now (g.K.Sink.seen c.put-in-RolledBack.new.sink) c.put-in-RolledBack.new.self (answer_text a)) (sym c.in-RolledBack.is) c.put-in-RolledBack.ensures

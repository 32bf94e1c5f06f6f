use Rattle.std.proofs.Common.{map, sym, subst}
use Rattle.std.specs.Prelude.{string_bytes}
use Rattle.journal_text.specs.Printing.{Prints}
use Rattle.derby.specs.Text.{last_line}
use Rattle.derby.proofs.printing.put_last.Goals as goal

pub returns-in-Usage : goal.returns-in-Usage
returns-in-Usage g c =
    subst (λ e. Prints (g.K.Sink.seen c.args.sink.now) c.args.out.now (g.K.Sink.seen c.put.new.sink) c.put.new.self (last_line e c.args.plan.now (map string_bytes c.args.scripts.now))) (sym c.in-Usage.is) c.put.ensures

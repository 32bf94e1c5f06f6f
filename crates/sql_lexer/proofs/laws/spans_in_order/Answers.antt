use Rattle.sql_lexer.proofs.OrderLemmas.{spans_of-in_order}
use Rattle.sql_lexer.proofs.laws.spans_in_order.Goals as goal

pub returns : goal.returns
returns c = spans_of-in_order c.args.script.now

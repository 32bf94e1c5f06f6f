use Rattle.std.proofs.Common.{sym, ◌∙◌}
use Rattle.sql_grammar.proofs.Verdict.{one-statement, took-value}
use Rattle.sql_grammar.proofs.laws.one_statement.Goals as goal

pub returns : goal.returns
returns c limit ts v w p q = took-value v w (sym (one-statement limit ts v p) ∙ one-statement limit ts w q)

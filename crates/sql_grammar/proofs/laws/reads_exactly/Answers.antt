use Rattle.std.proofs.Common.{Some, None}
use Rattle.sql_grammar.proofs.Verdict.{verdict}
use Rattle.sql_grammar.proofs.laws.reads_exactly.Goals as goal

pub returns : goal.returns
returns c = record { all = λ ts. verdict None tt ts; limited = λ limit ts h. verdict (Some limit) h ts }

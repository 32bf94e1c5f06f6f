use Rattle.sql_lexer.proofs.AloneLemmas.{statements_of-alone}
use Rattle.sql_lexer.proofs.laws.statements_alone.Goals as goal

pub returns : goal.returns
returns c = statements_of-alone c.args.script.now

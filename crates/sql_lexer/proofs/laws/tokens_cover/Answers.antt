use Rattle.sql_lexer.proofs.CoverLemmas.{tokens_of-cover}
use Rattle.sql_lexer.proofs.laws.tokens_cover.Goals as goal

pub returns : goal.returns
returns c = tokens_of-cover c.args.text.now

use Rattle.sql_grammar.specs.Grammar.{order_part}
use Rattle.sql_parts.proofs.Ordered.{directed_ok}
use Rattle.sql_parts.proofs.queries.order_part.Goals as goal

pub returns : goal.returns
unfolding order_part
returns c = directed_ok _ _ _ _ _ _ _ _ c.in_ok-by.ensures c.in_ok-way.ensures c.descends.ensures

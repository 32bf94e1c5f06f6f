use Rattle.sql_binding.proofs.Changing.{conjuncts_append, split_alike}
use Rattle.sql_binding.proofs.laws.conjuncts_are_on_then_where.Goals as goal
use Rattle.sql_binding.specs.From.{on_conditions, listed}
use Rattle.sql_binding.specs.Queries.{query_sources}

pub returns : goal.returns
returns c = record {
  order = λ d q. conjuncts_append (query_sources d q) (on_conditions q.from) (listed q.condition);
  split = λ e. split_alike e.node e.ty;
}

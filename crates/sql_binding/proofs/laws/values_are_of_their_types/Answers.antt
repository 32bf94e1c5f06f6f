use Rattle.std.proofs.Common.{sym, subst}
use Rattle.sql_binding.proofs.Heading.{HeadFits, head_fits}
use Rattle.sql_binding.proofs.Valuing.{expression_kind}
use Rattle.sql_binding.proofs.laws.values_are_of_their_types.Goals as goal
use Rattle.sql_binding.specs.Laws.{joined_columns}
use Rattle.sql_binding.specs.Trees.{Tree}

pub returns : goal.returns
returns c = λ ss e x row v f h has g.
    expression_kind (joined_columns ss) row x v has (subst (λ (t : Tree). HeadFits (joined_columns ss) t) (sym h) (head_fits ss e f)) g

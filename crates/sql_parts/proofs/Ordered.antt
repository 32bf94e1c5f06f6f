-- The order that a key names.
use Rattle.std.proofs.Common.{◌≡◌, List, ap, ◌∙◌}
use Rattle.sql_grammar.specs.Syntax.{Token}
use Rattle.sql_grammar.specs.Rules.{Rule, order, directed, descent, Parsed, pair}
use Rattle.sql_grammar.specs.Reading.{took}
use Rattle.sql_tokens.specs.Reading.{reading}
use Rattle.sql_tokens.proofs.Orders.{order_ok}

pub directed_ok : (a b : Rule) (ts us rest : List Token) (v w x : Parsed) → reading a ts ≡ took v us → reading b us ≡ took w rest → descent w ≡ x
    → reading (order directed a b) ts ≡ took (pair v x) rest
directed_ok a b ts us rest v w x p q e = order_ok directed a b ts us rest v w p q ∙ ap (λ y. took (pair v y) rest) e

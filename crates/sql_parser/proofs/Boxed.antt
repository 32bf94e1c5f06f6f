-- A condition in a box.
use Rattle.std.proofs.Common.{◌≡◌, List, Option, sym, ap, ◌∙◌}
use Rattle.std.specs.Global.{Box}
use Rattle.sql_ast.specs.declared.expression.Expression.{Expression}
use Rattle.sql_grammar.specs.Syntax.{Token}
use Rattle.sql_grammar.specs.Rules.{Rule}
use Rattle.sql_grammar.specs.Reading.{took}
use Rattle.sql_tokens.specs.Reading.{reading}
use Rattle.sql_parts.specs.Items.{condition_said}
use Rattle.sql_parser.specs.Statements.{where_said}

pub boxed_told : (a : Rule) (ts rest : List Token) (c : Option Expression) (b : Option (Box Expression)) → reading a ts ≡ took (condition_said c) rest → where_said b ≡ condition_said c
    → reading a ts ≡ took (where_said b) rest
boxed_told a ts rest c b h q = h ∙ ap (λ v. took v rest) (sym q)

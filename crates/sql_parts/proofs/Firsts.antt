-- A table's parts, of which the first one is a column.
use Rattle.std.proofs.Common.{◌≡◌, List, [], ◌∷◌, Some, refl, sym, ap, ◌∙◌}
use Rattle.std.specs.Prelude.{Result, Ok, Err}
use Rattle.sql_ast.specs.declared.statement.ColumnText.{ColumnText}
use Rattle.sql_ast.specs.declared.statement.TablePart.{TablePart}
use Rattle.sql_ast.specs.declared.statement.TablePart.TheVariants as part
use Rattle.sql_grammar.specs.Syntax.{Token}
use Rattle.sql_grammar.specs.Rules.{Rule, and_then, Parsed, nothing, pair, left}
use Rattle.sql_grammar.specs.Reading.{Outcome, took, wrong, deep, bind, read}
use Rattle.sql_tokens.specs.Reading.{reading, Tells}
use Rattle.sql_tokens.specs.declared.failing.Failing.{Failing}
use Rattle.sql_tokens.specs.declared.failing.Failing.TheVariants as failing
use Rattle.sql_tokens.proofs.Orders.{told_as}
use Rattle.sql_parts.specs.Lists.{all_said, led}
use Rattle.sql_parts.specs.Tables.{column_said, part_said, parts_said}

-- the first part as a column, which it is said to be one of several kinds of part
abbrev bared : Parsed → Parsed
bared (pair (left v) w) = pair v w
bared _ = nothing

abbrev bare : Outcome → Outcome
bare o = bind o (λ v rest. took (bared v) rest)

bared-parts : (ps : List TablePart) → bared (all_said part_said ps) ≡ parts_said ps
bared-parts [] = refl
bared-parts (part.Column c ∷ ps) = refl
bared-parts (part.PrimaryKey ns ∷ ps) = refl
bared-parts (part.Unique ns ∷ ps) = refl

bare-led : (c : ColumnText) (o : Outcome) → bind o (λ w rest. took (pair (column_said c) w) rest) ≡ bare (led part_said (part.Column c ∷ []) o)
unfolding led
bare-led c (took v rest) = refl
bare-led c (wrong rest) = refl
bare-led c (deep rest) = refl

bare-told : (o : Outcome) (result : Result (List TablePart) Failing) (rest : List Token) → Tells (λ xs. all_said part_said xs) o result rest → Tells parts_said (bare o) result rest
bare-told o (Ok ps) rest h = ap (λ o. bare o) h ∙ ap (λ v. took v rest) (bared-parts ps)
bare-told o (Err failing.Wrong) rest h = ap (λ o. bare o) h
bare-told o (Err failing.Deep) rest h = ap (λ o. bare o) h
bare-told o (Err failing.Memory) rest h = tt

pub parts_told : (a b : Rule) (ts us rest : List Token) (c : ColumnText) (ps : List TablePart) (result : Result (List TablePart) Failing)
    → reading a ts ≡ took (column_said c) us → ps ≡ part.Column c ∷ []
    → Tells (λ xs. all_said part_said xs) (led part_said ps (reading b us)) result rest
    → Tells parts_said (reading (and_then a b) ts) result rest
unfolding reading
parts_told a b ts us rest c ps result h q t =
    told_as parts_said _ (bare (led part_said ps (read (Some 200) b us))) result rest
    (ap (λ o. bind o (λ v us. bind (read (Some 200) b us) (λ w rest. took (pair v w) rest))) h
    ∙ bare-led c (read (Some 200) b us)
    ∙ ap (λ xs. bare (led part_said xs (read (Some 200) b us))) (sym q))
    (bare-told (led part_said ps (read (Some 200) b us)) result rest t)

-- What the parser answers of a text.
use Rattle.std.specs.Prelude.{◌≡◌, ℕ, List, [], ◌∷◌, length, drop, Option, Some, Result, Ok, Err}
use Rattle.sql_lexer.specs.declared.token.Token.{Token as TextToken}
use Rattle.sql_lexer.specs.Tokens.{tokens_of}
use Rattle.sql_ast.specs.declared.statement.Statement.{Statement}
use Rattle.sql_grammar.specs.Syntax.{Token}
use Rattle.sql_grammar.specs.Tokens.{seen, tokens_in}
use Rattle.sql_grammar.specs.Reading.{took, wrong, deep}
use Rattle.sql_grammar.specs.Verdict.{Fault, IsWrongAt, IsDeepAt, whole}
use Rattle.sql_parser.specs.Statements.{statement_said}
use Rattle.sql_parser.specs.declared.parse.ParseAnswer.{ParseAnswer}
use Rattle.sql_parser.specs.declared.parse.ParseAnswer.TheVariants as answer

-- no expression is deeper
abbrev pub limit : Option ℕ
limit = Some 200

-- where the first of these tokens stands; where there is none, the text's end
abbrev pub place : ℕ → List TextToken → ℕ
place end [] = end
place end (t ∷ ts) = t.span.from

-- the first fault of a text is of this kind and at its token of this number
abbrev pub FaultAt : List ℕ → ℕ → (List Token → List Token → Type 0) → Type 0
FaultAt text n Is = Fault limit (tokens_in text) (drop n (tokens_in text)) Is

-- why a text is no statement: no statement goes on with the token at this place; or none that isn't too deep does with
-- some token
abbrev pub IsCause : List ℕ → ParseAnswer → Type 0
IsCause text (answer.Syntax at) = (n : ℕ) × FaultAt text n IsWrongAt × (at ≡ place (length text) (drop n (tokens_of text)))
IsCause text answer.Deep = (n : ℕ) × FaultAt text n (IsDeepAt limit)
IsCause text answer.Memory = Unit {0}

-- what is read of these tokens, of a text that ends here
abbrev pub Answered : List TextToken → ℕ → Result Statement ParseAnswer → Type 0
Answered ts end (Ok s) = whole limit (seen ts) ≡ took (statement_said s) []
Answered ts end (Err (answer.Syntax at)) = (n : ℕ) × (whole limit (seen ts) ≡ wrong (drop n (seen ts))) × (at ≡ place end (drop n ts))
Answered ts end (Err answer.Deep) = (n : ℕ) × (whole limit (seen ts) ≡ deep (drop n (seen ts)))
Answered ts end (Err answer.Memory) = Unit {0}

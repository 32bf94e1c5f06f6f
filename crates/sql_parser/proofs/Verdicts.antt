-- What is read of a text is what the grammar says of it.
use Rattle.std.proofs.Common.{◌≡◌, ℕ, List, [], length, drop, refl, sym, subst, ◌∙◌, arith}
use Rattle.std.specs.Prelude.{Result, Ok, Err, IfOk, IfErr, MatchResult}
use Rattle.sql_lexer.specs.Tokens.{tokens_of}
use Rattle.sql_ast.specs.declared.statement.Statement.{Statement}
use Rattle.sql_grammar.specs.Syntax.{Token}
use Rattle.sql_grammar.specs.Rules.{Parsed}
use Rattle.sql_grammar.specs.Reading.{Outcome, took, wrong, deep}
use Rattle.sql_grammar.specs.Tokens.{seen, tokens_in}
use Rattle.sql_grammar.specs.Verdict.{IsStatement, IsVerdict, whole}
use Rattle.sql_grammar.proofs.Verdict.{verdict, one-statement, took-value}
use Rattle.sql_parser.specs.Answers.{Answered, IsCause, limit}
use Rattle.sql_parser.specs.Statements.{statement_said}
use Rattle.sql_parser.specs.declared.parse.ParseAnswer.{ParseAnswer}
use Rattle.sql_parser.specs.declared.parse.ParseAnswer.TheVariants as answer

-- the verdict on tokens whose reading is known
judged : (ts : List Token) (o : Outcome) → whole limit ts ≡ o → IsVerdict limit ts o
judged ts o q = let P : Outcome → Type 0 = λ o. IsVerdict limit ts o in subst P q (verdict limit (omega arith) ts)

abbrev pub Told : List ℕ → Result Statement ParseAnswer → Type 0
Told text result = Answered (tokens_of text) (length text) result

pub told_ok : (text : List ℕ) (result : Result Statement ParseAnswer) → Told text result → IfOk result (λ s. IsStatement limit (tokens_in text) (statement_said s))
unfolding tokens_in
told_ok text (Ok s) h = judged (seen (tokens_of text)) (took (statement_said s) []) h
told_ok text (Err e) h = tt

pub told_err : (text : List ℕ) (result : Result Statement ParseAnswer) → Told text result → IfErr result (λ e. IsCause text e)
unfolding tokens_in
told_err text (Ok s) h = tt
told_err text (Err (answer.Syntax at)) (n, h, p) = (n, judged (seen (tokens_of text)) (wrong (drop n (seen (tokens_of text)))) h, p)
told_err text (Err answer.Deep) (n, h) = (n, judged (seen (tokens_of text)) (deep (drop n (seen (tokens_of text)))) h)
told_err text (Err answer.Memory) h = tt

not-wrong : (v : Parsed) (rest : List Token) → took v [] ≡ wrong rest → ⊥
not-wrong v rest q = let P : Outcome → Type 0 = λ o. elim o [ took u ts ↦ Unit {0} | wrong ts ↦ ⊥ | deep ts ↦ ⊥ ] in subst P q tt

not-deep : (v : Parsed) (rest : List Token) → took v [] ≡ deep rest → ⊥
not-deep v rest q = let P : Outcome → Type 0 = λ o. elim o [ took u ts ↦ Unit {0} | wrong ts ↦ ⊥ | deep ts ↦ ⊥ ] in subst P q tt

pub told_exact : (text : List ℕ) (result : Result Statement ParseAnswer) (v : Parsed) → Told text result → IsStatement limit (tokens_in text) v
    → MatchResult result (λ s. statement_said s ≡ v) (λ e. e ≡ answer.Memory)
unfolding tokens_in
told_exact text (Ok s) v h w = took-value (statement_said s) v (sym h ∙ one-statement limit (seen (tokens_of text)) v w)
told_exact text (Err (answer.Syntax at)) v (n, h, p) w = absurd (not-wrong v (drop n (seen (tokens_of text))) (sym (one-statement limit (seen (tokens_of text)) v w) ∙ h))
told_exact text (Err answer.Deep) v (n, h) w = absurd (not-deep v (drop n (seen (tokens_of text))) (sym (one-statement limit (seen (tokens_of text)) v w) ∙ h))
told_exact text (Err answer.Memory) v h w = refl

-- What the parser's functions say of the tokens that they read.
use Rattle.std.specs.Prelude.{◌≡◌, ℕ, List, [], ◌∷◌, Bool, true, false, Option, Some, None, Result, Ok, Err, drop}
use Rattle.sql_lexer.specs.declared.token.Token.{Token as TextToken}
use Rattle.sql_grammar.specs.Syntax.{Token}
use Rattle.sql_grammar.specs.declared.word.Class.{Class}
use Rattle.sql_grammar.specs.Classes.{has}
use Rattle.sql_grammar.specs.Rules.{Rule, this, Parsed, nothing}
use Rattle.sql_grammar.specs.Reading.{Outcome, took, wrong, deep, read, starts}
use Rattle.sql_grammar.specs.Tokens.{seen}
use Rattle.sql_tokens.specs.declared.failing.Failing.{Failing}
use Rattle.sql_tokens.specs.declared.failing.Failing.TheVariants as failing

-- what the grammar reads by a rule; an expression has at most depth 200
unfoldable pub reading : Rule → List Token → Outcome
reading r ts = read (Some 200) r ts

-- the token in front is of the class and is passed, or it isn't
abbrev pub Passes : Class → Bool → List Token → List Token → Type 0
Passes c true ts rest = (starts (c ∷ []) ts ≡ true) × (reading (this c) ts ≡ took nothing rest)
Passes c false ts rest = (starts (c ∷ []) ts ≡ false) × (rest ≡ ts)

-- the outcome is this failure, with these tokens left
abbrev pub Fails : Failing → Outcome → List Token → Type 0
Fails failing.Wrong o rest = o ≡ wrong rest
Fails failing.Deep o rest = o ≡ deep rest
Fails failing.Memory o rest = Unit {0}

-- the outcome is what was read, with these tokens left; or this failure
abbrev pub Tells : {A : Type 0} → (A → Parsed) → Outcome → Result A Failing → List Token → Type 0
Tells says o (Ok x) rest = o ≡ took (says x) rest
Tells says o (Err e) rest = Fails e o rest

-- what is read by a rule from one token to another one is this part, or its reading fails there
abbrev pub Reads : {A : Type 0} → Rule → (A → Parsed) → List TextToken → ℕ → ℕ → Result A Failing → Type 0
Reads r says ts from to result = Tells says (reading r (drop from (seen ts))) result (drop to (seen ts))

-- a token that says this, or that no part of this kind begins with
abbrev pub single : {A : Type 0} → (A → Parsed) → Option A → Token → List Token → Outcome
single says (Some x) t rest = took (says x) rest
single says None t rest = wrong (t ∷ rest)

-- the next token, by its class, is one of these
abbrev pub has_next : List Class → Option Class → Bool
has_next cs None = false
has_next cs (Some c) = has c cs

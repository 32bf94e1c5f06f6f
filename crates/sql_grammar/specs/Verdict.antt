-- What is said of a whole text: its tree, or the place of its first fault.
use Rattle.std.specs.Prelude.{◌≡◌, ℕ, List, [], ◌∷◌, ◌++◌, Option, None}
use Rattle.sql_grammar.specs.Syntax.{Token}
use Rattle.sql_grammar.specs.Rules.{Parsed, Spelled, Begun}
use Rattle.sql_grammar.specs.Grammar.{statement}
use Rattle.sql_grammar.specs.Reading.{Outcome, took, wrong, deep, bind, read}

-- the tokens are a statement, which says v
abbrev pub IsStatement : Option ℕ → List Token → Parsed → Type 0
IsStatement limit ts v = Spelled limit statement ts v

-- some statement begins with these tokens
abbrev pub Viable : Option ℕ → List Token → Type 0
Viable limit ts = Begun limit statement ts

-- nothing may follow a statement
abbrev pub at_end : Parsed → List Token → Outcome
at_end v [] = took v []
at_end v (t ∷ ts) = wrong (t ∷ ts)

abbrev pub whole : Option ℕ → List Token → Outcome
whole limit ts = bind (read limit statement ts) at_end

-- some statement begins with the tokens `front`, and none with the first token of the rest, too; where nothing is
-- left, the tokens are no statement
abbrev pub IsWrongAt : List Token → List Token → Type 0
IsWrongAt front [] = (v : Parsed) → IsStatement None front v → ⊥
IsWrongAt front (t ∷ ts) = Viable None (front ++ t ∷ []) → ⊥

-- some statement begins with the tokens `front` and the next one, but none within the limit
abbrev pub IsDeepAt : Option ℕ → List Token → List Token → Type 0
IsDeepAt limit front [] = ⊥
IsDeepAt limit front (t ∷ ts) = Viable None (front ++ t ∷ []) × (Viable limit (front ++ t ∷ []) → ⊥)

-- the first fault of a text: what stands in front of it goes on within the limit
pub record Fault (limit : Option ℕ) (ts : List Token) (rest : List Token) (Is : List Token → List Token → Type 0) : Type 0 where
  pub front : List Token
  pub cut : ts ≡ front ++ rest
  pub viable : Viable limit front
  pub is : Is front rest

abbrev pub IsVerdict : Option ℕ → List Token → Outcome → Type 0
IsVerdict limit ts (took v rest) = IsStatement limit ts v
IsVerdict limit ts (wrong rest) = Fault limit ts rest IsWrongAt
IsVerdict limit ts (deep rest) = Fault limit ts rest (IsDeepAt limit)

-- What a list of parts says.
use Rattle.std.specs.Prelude.{List, [], ◌∷◌}
use Rattle.sql_grammar.specs.Rules.{Parsed, nothing, pair}
use Rattle.sql_grammar.specs.Reading.{Outcome, took, bind}

-- items in front of what is said of the rest
abbrev pub in_front : {A : Type 0} → (A → Parsed) → List A → Parsed → Parsed
in_front says [] v = v
in_front says (x ∷ xs) v = pair (says x) (in_front says xs v)

abbrev pub all_said : {A : Type 0} → (A → Parsed) → List A → Parsed
all_said says xs = in_front says xs nothing

-- the outcome of the rest, with these items in front
unfoldable pub led : {A : Type 0} → (A → Parsed) → List A → Outcome → Outcome
led says xs o = bind o (λ v rest. took (in_front says xs v) rest)

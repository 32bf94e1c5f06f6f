-- What a part says that may be absent.
use Rattle.std.specs.Prelude.{List, [], ◌∷◌, Bool, true, false, Option, Some, None}
use Rattle.sql_grammar.specs.Rules.{Parsed, nothing, present}
use Rattle.sql_parts.specs.Lists.{all_said}

-- whether a word stands
abbrev pub flag : Bool → Parsed
flag true = present nothing
flag false = nothing

abbrev pub option_said : {A : Type 0} → (A → Parsed) → Option A → Parsed
option_said says None = nothing
option_said says (Some x) = present (says x)

-- a list of at least one part, or none
abbrev pub list_said : {A : Type 0} → (A → Parsed) → List A → Parsed
list_said says [] = nothing
list_said says (x ∷ xs) = present (all_said says (x ∷ xs))

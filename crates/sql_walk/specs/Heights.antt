-- What gives a tree its depth.
use Rattle.std.specs.Prelude.{ℕ, ◌+◌, List, [], ◌∷◌, Bool, true, false}
use Rattle.sql_grammar.specs.Syntax.{count}
use Rattle.sql_grammar.specs.Machine as m
use Rattle.sql_grammar.specs.Depth.{depth, call_up, level_up}
use Rattle.sql_expressions.specs.Shape.{level_of}
use Rattle.sql_expressions.specs.declared.level.Opener.{Opener}
use Rattle.sql_expressions.specs.declared.level.Level.{Level}

-- the depth that what was read last gives
abbrev pub last_up : m.Mode → ℕ
last_up m.Operand = 1
last_up (m.Whole e) = depth e
last_up (m.Tested e) = depth e
last_up (m.Named n) = 1
last_up (m.Dotted n) = 1
last_up (m.AtIs e) = depth e + 1
last_up (m.AtIsNot e) = depth e + 1
last_up (m.AtNot e) = depth e + 1
last_up (m.AtIn b e) = depth e + 1
last_up (m.AtCall a) = call_up a
last_up m.AtStar = 1

abbrev pub is_operand : m.Mode → Bool
is_operand m.Operand = true
is_operand _ = false

-- the depth of a list of levels, each within the one before it, where what stands in the last one has this depth
abbrev pub up_within : List (Opener × Level) → ℕ → ℕ
up_within [] d = d
up_within (x ∷ xs) d = level_up (level_of x.1) (up_within xs d + 1)

-- the innermost bracket is that of COUNT
abbrev pub is_counting : m.Outer → Bool
is_counting ((m.Calling count, k) ∷ out) = true
is_counting _ = false

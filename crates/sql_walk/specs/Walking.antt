-- What the reading of tokens gives, in code and in the grammar.
use Rattle.std.specs.Prelude.{ℕ, List, Some}
use Rattle.sql_grammar.specs.Machine.{State, ended}
use Rattle.sql_grammar.specs.Reading.{Outcome, wrong, deep, finish, walk}
use Rattle.sql_grammar.specs.Syntax.{Token}
use Rattle.sql_walk.specs.declared.walking.Next.{Next}
use Rattle.sql_walk.specs.declared.walking.Next.TheVariants as next
use Rattle.sql_walk.specs.declared.walking.Stopped.{Stopped}
use Rattle.sql_walk.specs.declared.walking.Stopped.TheVariants as stopped

-- the walk behind a token, or its end in front of it
abbrev pub next_of : ℕ → Next → State → List Token → List Token → Outcome
next_of limit next.On x here rest = walk (Some limit) x rest
next_of limit next.Ended x here rest = finish (ended x) here
next_of limit next.Wrong x here rest = wrong here
next_of limit next.Deep x here rest = deep here

abbrev pub stopped_of : Stopped → State → List Token → Outcome
stopped_of stopped.Ended x here = finish (ended x) here
stopped_of stopped.Wrong x here = wrong here
stopped_of stopped.Deep x here = deep here

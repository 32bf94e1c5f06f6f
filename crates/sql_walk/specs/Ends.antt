-- Where an expression may end.
use Rattle.std.specs.Prelude.{Bool, true, false}
use Rattle.sql_grammar.specs.Machine as m

abbrev pub ends_place : m.Place → Bool
ends_place m.First = true
ends_place (m.Right c a) = true
ends_place (m.Low b a) = false
ends_place (m.High b a c) = true
ends_place (m.Member b a bs) = false

abbrev pub ends_mode : m.Mode → Bool
ends_mode (m.Whole e) = true
ends_mode (m.Tested e) = true
ends_mode (m.Named n) = true
ends_mode _ = false

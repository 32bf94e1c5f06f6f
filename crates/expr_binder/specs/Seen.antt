-- What code has of names, in the words of binding.
use Rattle.std.specs.Prelude.{ℕ, List, [], ◌∷◌, Option, Some, None, Result, Ok, Err}
use Rattle.dby_types.specs.declared.state.SqlState.{SqlState}
use Rattle.expr_binder.specs.declared.names.Source.{Source as InCode}
use Rattle.expr_binder.specs.declared.names.Spot.{Spot as SpotInCode}
use Rattle.sql_binding.specs.Expressions.{Scope}
use Rattle.sql_binding.specs.Names.{Source, Spot}

abbrev pub source_of : InCode → Source
source_of s = record { exposed = s.exposed.now; columns = s.columns.now }

-- the tables of FROM
abbrev pub sources_in : List InCode → List Source
sources_in [] = []
sources_in (s ∷ ss) = source_of s ∷ sources_in ss

-- what an expression is bound over
abbrev pub scope_in : List InCode → Option (List ℕ) → Scope
scope_in ss keys = record { sources = sources_in ss; keys = keys }

abbrev pub spot_of : SpotInCode → Spot
spot_of s = record { place = s.place; ty = s.ty }

-- a column that was found, or none
abbrev pub found_spot : Option SpotInCode → Option Spot
found_spot None = None
found_spot (Some s) = Some (spot_of s)

abbrev pub named_spot : Result SpotInCode SqlState → Result Spot SqlState
named_spot (Ok s) = Ok (spot_of s)
named_spot (Err why) = Err why

-- The columns of a name that were found so far, and those behind them.
use Rattle.std.specs.Prelude.{List, ◌∷◌, Result, Err}
use Rattle.dby_types.specs.declared.state.SqlState.{SqlState}
use Rattle.dby_types.specs.declared.state.SqlState.TheVariants.{AmbiguousColumn}
use Rattle.expr_binder.specs.declared.names.Found.{Found}
use Rattle.expr_binder.specs.declared.names.Found.TheVariants.{None, One, Several}
use Rattle.expr_binder.specs.Seen.{spot_of}
use Rattle.sql_binding.specs.Names.{Spot, only_one}

abbrev pub with_more : Found → List Spot → Result Spot SqlState
with_more None rest = only_one rest
with_more (One s) rest = only_one (spot_of s ∷ rest)
with_more Several rest = Err AmbiguousColumn

-- ORDER BY.
use Rattle.std.specs.Prelude.{ℕ, suc, ◌-◌, nat_le, ◌&&◌, if◌then◌else◌, List, [], ◌∷◌, ◌++◌, length, Option, Some, None}
use Rattle.std.specs.Str.{bytes_eq}
use Rattle.dby_types.specs.declared.state.SqlState.{SqlState}
use Rattle.dby_types.specs.declared.state.SqlState.TheVariants.{NoColumn}
use Rattle.sql_ast.specs.declared.bound.OrderKey.{OrderKey}
use Rattle.sql_ast.specs.declared.statement.OrderBy.{OrderBy}
use Rattle.sql_ast.specs.declared.statement.OrderBy.TheVariants.{Name, Position}
use Rattle.sql_ast.specs.declared.statement.OrderText.{OrderText}
use Rattle.sql_binding.specs.Bound.{Shown}

abbrev pub behind_one : Option ℕ → Option ℕ
behind_one None = None
behind_one (Some n) = Some (suc n)

-- ORDER BY: the first column of a name, or the column at a position from 1
abbrev pub place_named : List ℕ → List Shown → Option ℕ
place_named name [] = None
place_named name (s ∷ ss) = if bytes_eq name s.name then Some 0 else behind_one (place_named name ss)

abbrev pub place_at : ℕ → ℕ → Option ℕ
place_at n count = if nat_le 1 n && nat_le n count then Some (n - 1) else None

abbrev pub order_place : List Shown → OrderBy → Option ℕ
order_place shown (Name name) = place_named name shown
order_place shown (Position n) = place_at n (length shown)

abbrev pub order_faults_of : Option ℕ → List SqlState
order_faults_of None = NoColumn ∷ []
order_faults_of (Some n) = []

abbrev pub or_first : Option ℕ → ℕ
or_first None = 0
or_first (Some n) = n

abbrev pub order_of : List Shown → List OrderText → List OrderKey
order_of shown [] = []
order_of shown (k ∷ ks) = record { place = or_first (order_place shown k.by); descends = k.descends } ∷ order_of shown ks

abbrev pub order_faults : List Shown → List OrderText → List SqlState
order_faults shown [] = []
order_faults shown (k ∷ ks) = order_faults_of (order_place shown k.by) ++ order_faults shown ks

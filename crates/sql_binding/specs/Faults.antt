-- What is wrong with an expression.
use Rattle.std.specs.Prelude.{ℕ, ◌+◌, Bool, true, false, ◌==◌, ◌||◌, List, [], ◌∷◌, ◌++◌, Option, Some, None}
use Rattle.dby_types.specs.declared.state.SqlState.{SqlState}
use Rattle.dby_types.specs.declared.state.SqlState.TheVariants.{NotComparable, WrongOperand, Grouping}
use Rattle.dby_types.specs.declared.value.Ty.{Ty}
use Rattle.dby_types.specs.declared.value.Ty.TheVariants.{Int}
use Rattle.dby_types.specs.declared.value.Ty.TheVariants.{Bool as Truths}
use Rattle.sql_ast.specs.declared.expression.Aggregate.{Aggregate}
use Rattle.sql_ast.specs.declared.expression.Aggregate.TheVariants.{Count, Sum, Min, Max}
use Rattle.sql_ast.specs.declared.expression.Expression.{Expression, Or', And', Not', Compare', IsNull', Between', In', Add', Multiply', Sign', Number, Text, Truth, Column, ColumnOf, Brackets', CountAll, Call', Row_of-Expression, end_of-Expression, more_of-Expression}
use Rattle.sql_binding.specs.Expressions.{Scope, over_rows, bound, bound_over, calls}
use Rattle.sql_binding.specs.Names.{Source, column_named, spot_or, spot_faults}
use Rattle.sql_binding.specs.Trees.{Tree, ty_of}
use Rattle.sql_binding.specs.Types.{same_kind}

-- a refusal where a test fails
abbrev pub unless : Bool → SqlState → List SqlState
unless true why = []
unless false why = why ∷ []

-- an operand has to be of a type's kind
abbrev pub operand_faults : Ty → Tree → List SqlState
operand_faults ty a = unless (same_kind ty (ty_of a)) WrongOperand

-- two operands have to be comparable
abbrev pub pair_faults : Tree → Tree → List SqlState
pair_faults a b = unless (same_kind (ty_of a) (ty_of b)) NotComparable

-- a place stands in a list
abbrev pub is_place : ℕ → List ℕ → Bool
is_place p [] = false
is_place p (k ∷ ks) = (p == k) || is_place p ks

-- where rows are grouped, a column has to be one of the keys
abbrev pub key_faults : Option (List ℕ) → ℕ → List SqlState
key_faults None p = []
key_faults (Some keys) p = unless (is_place p keys) Grouping

abbrev pub name_faults : Scope → Option (List ℕ) → List ℕ → List SqlState
name_faults s table name =
    spot_faults (column_named s.sources table name) ++ key_faults s.keys (spot_or (column_named s.sources table name)).place

-- an aggregate may stand only where rows are grouped
abbrev pub call_faults : Option (List ℕ) → List SqlState
call_faults None = Grouping ∷ []
call_faults (Some keys) = []

-- SUM is of numbers
abbrev pub total_faults : Aggregate → Tree → List SqlState
total_faults Sum a = operand_faults Int a
total_faults Count a = []
total_faults Min a = []
total_faults Max a = []

-- an operand's own faults, and then what it has to be: a truth value, a number, comparable with one to its left
abbrev pub as_truth : List SqlState → Tree → List SqlState
as_truth own a = own ++ operand_faults Truths a

abbrev pub as_number : List SqlState → Tree → List SqlState
as_number own a = own ++ operand_faults Int a

abbrev pub beside : Tree → List SqlState → Tree → List SqlState
beside left own a = own ++ pair_faults left a

-- ALL THAT IS WRONG with an expression, of whatever class, from left to right
abbrev mutual
  pub faults : Scope → ℕ → Expression → List SqlState
  faults s n (Or' p a q b) = as_truth (faults s n a) (bound s n a) ++ as_truth (faults s (n + calls a) b) (bound s (n + calls a) b)
  faults s n (And' p a q b) = as_truth (faults s n a) (bound s n a) ++ as_truth (faults s (n + calls a) b) (bound s (n + calls a) b)
  faults s n (Not' p a) = as_truth (faults s n a) (bound s n a)
  faults s n (Compare' op p a q b) = faults s n a ++ beside (bound s n a) (faults s (n + calls a) b) (bound s (n + calls a) b)
  faults s n (IsNull' deny p a) = faults s n a
  -- a BETWEEN b AND c is a >= b AND a <= c
  faults s n (Between' deny p a q b r c) =
      faults s n a ++ beside (bound s n a) (faults s (n + calls a) b) (bound s (n + calls a) b)
      ++ beside (bound s n a) (faults s (n + calls a + calls b) c) (bound s (n + calls a + calls b) c)
  -- a IN (b, c) is a = b OR a = c
  faults s n (In' deny p a shape members) = faults s n a ++ faults_in s (bound s n a) (n + calls a) members
  faults s n (Add' op p a q b) = as_number (faults s n a) (bound s n a) ++ as_number (faults s (n + calls a) b) (bound s (n + calls a) b)
  faults s n (Multiply' op p a q b) = as_number (faults s n a) (bound s n a) ++ as_number (faults s (n + calls a) b) (bound s (n + calls a) b)
  faults s n (Sign' op p a) = as_number (faults s n a) (bound s n a)
  faults s n (Number op m) = []
  faults s n (Text t) = []
  faults s n (Truth b) = []
  faults s n (Column name) = name_faults s None name
  faults s n (ColumnOf table name) = name_faults s (Some table) name
  faults s n (Brackets' p a) = faults s n a
  faults s n CountAll = call_faults s.keys
  faults s n (Call' f p a) = call_faults s.keys ++ faults (over_rows s.sources) 0 a ++ total_faults f (bound (over_rows s.sources) 0 a)

  pub faults_in : {m : _} → Scope → Tree → ℕ → Row_of-Expression m → List SqlState
  faults_in s left n end_of-Expression = []
  faults_in s left n (more_of-Expression e rest) = beside left (faults s n e) (bound s n e) ++ faults_in s left (n + calls e) rest

-- those of an expression over the joined row
abbrev pub faults_over : List Source → Expression → List SqlState
faults_over ss e = faults (over_rows ss) 0 e

-- conditions of ON and WHERE are truth values
abbrev pub condition_faults : List Source → List Expression → List SqlState
condition_faults ss [] = []
condition_faults ss (c ∷ cs) = as_truth (faults_over ss c) (bound_over ss c) ++ condition_faults ss cs

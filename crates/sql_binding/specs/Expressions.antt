-- The bound tree of an expression.
use Rattle.std.specs.Prelude.{ℕ, suc, ◌+◌, ◌==◌, if◌then◌else◌, List, [], ◌∷◌, ◌++◌, Option, Some, None}
use Rattle.dby_types.specs.declared.value.Ty.TheVariants.{Big}
use Rattle.dby_types.specs.declared.value.Ty.TheVariants.{Bool as Truths}
use Rattle.sql_ast.specs.declared.expression.Expression.{Expression, Or', And', Not', Compare', IsNull', Between', In', Add', Multiply', Sign', Number, Text, Truth, Column, ColumnOf, Brackets', CountAll, Call', Row_of-Expression, end_of-Expression, more_of-Expression}
use Rattle.sql_binding.specs.Names.{Source, Spot, column_named, spot_or}
use Rattle.sql_binding.specs.Trees.{Tree, Trees, typed, column, compare, is_null, between, in_, and, or, not, none, with, ty_of, conjuncts_in}
use Rattle.sql_binding.specs.Types.{total_type, signed, number_tree, text_tree, truth_tree, arithmetic_tree, sum_op, product_op, sign_tree}

-- what an expression is bound over: the tables of FROM; and, where rows are grouped, the places in the joined row of a group's keys
pub record Scope : Type 0 where
  pub sources : List Source
  pub keys : Option (List ℕ)

-- an expression over the joined row itself, which an aggregate's operand is too
abbrev pub over_rows : List Source → Scope
over_rows ss = record { sources = ss; keys = None }

-- where a place stands in a list
abbrev pub index_of : ℕ → List ℕ → ℕ
index_of p [] = 0
index_of p (k ∷ ks) = if p == k then 0 else suc (index_of p ks)

-- where a column of the joined row stands in the row of which the expression is computed: that row itself, or a group's keys
abbrev pub place_in : Option (List ℕ) → ℕ → ℕ
place_in None p = p
place_in (Some keys) p = index_of p keys

abbrev pub spot_tree : Scope → Spot → Tree
spot_tree s spot = typed (column (place_in s.keys spot.place)) spot.ty

abbrev pub name_tree : Scope → Option (List ℕ) → List ℕ → Tree
name_tree s table name = spot_tree s (spot_or (column_named s.sources table name))

-- the number of aggregates in an expression
abbrev mutual
  pub calls : Expression → ℕ
  calls (Or' p a q b) = calls a + calls b
  calls (And' p a q b) = calls a + calls b
  calls (Not' p a) = calls a
  calls (Compare' op p a q b) = calls a + calls b
  calls (IsNull' deny p a) = calls a
  calls (Between' deny p a q b r c) = calls a + (calls b + calls c)
  calls (In' deny p a shape members) = calls a + calls_in members
  calls (Add' op p a q b) = calls a + calls b
  calls (Multiply' op p a q b) = calls a + calls b
  calls (Sign' op p a) = calls a
  calls (Number op n) = 0
  calls (Text t) = 0
  calls (Truth b) = 0
  calls (Column name) = 0
  calls (ColumnOf table name) = 0
  calls (Brackets' p a) = calls a
  calls CountAll = 1
  calls (Call' f p a) = 1

  pub calls_in : {m : _} → Row_of-Expression m → ℕ
  calls_in end_of-Expression = 0
  calls_in (more_of-Expression e rest) = calls e + calls_in rest

-- THE BOUND TREE. Its aggregates, from left to right, are columns of a group's row from place n on. Brackets leave no node
abbrev mutual
  pub bound : Scope → ℕ → Expression → Tree
  bound s n (Or' p a q b) = typed (or (bound s n a) (bound s (n + calls a) b)) Truths
  bound s n (And' p a q b) = typed (and (bound s n a) (bound s (n + calls a) b)) Truths
  bound s n (Not' p a) = typed (not (bound s n a)) Truths
  bound s n (Compare' op p a q b) = typed (compare op (bound s n a) (bound s (n + calls a) b)) Truths
  bound s n (IsNull' deny p a) = typed (is_null deny (bound s n a)) Truths
  bound s n (Between' deny p a q b r c) =
      typed (between deny (bound s n a) (bound s (n + calls a) b) (bound s (n + calls a + calls b) c)) Truths
  bound s n (In' deny p a shape members) = typed (in_ deny (bound s n a) (bound_in s (n + calls a) members)) Truths
  bound s n (Add' op p a q b) = arithmetic_tree (sum_op op) (bound s n a) (bound s (n + calls a) b)
  bound s n (Multiply' op p a q b) = arithmetic_tree (product_op op) (bound s n a) (bound s (n + calls a) b)
  bound s n (Sign' op p a) = sign_tree op (bound s n a)
  bound s n (Number op m) = number_tree (signed op m)
  bound s n (Text t) = text_tree t
  bound s n (Truth b) = truth_tree b
  bound s n (Column name) = name_tree s None name
  bound s n (ColumnOf table name) = name_tree s (Some table) name
  bound s n (Brackets' p a) = bound s n a
  bound s n CountAll = typed (column n) Big
  bound s n (Call' f p a) = typed (column n) (total_type f (ty_of (bound (over_rows s.sources) 0 a)))

  pub bound_in : {m : _} → Scope → ℕ → Row_of-Expression m → Trees
  bound_in s n end_of-Expression = none
  bound_in s n (more_of-Expression e rest) = with (bound s n e) (bound_in s (n + calls e) rest)

-- an expression over the joined row
abbrev pub bound_over : List Source → Expression → Tree
bound_over ss e = bound (over_rows ss) 0 e

-- conditions, each split into its conjuncts, in text order
abbrev pub conjuncts_of : List Source → List Expression → List Tree
conjuncts_of ss [] = []
conjuncts_of ss (c ∷ cs) = conjuncts_in (bound_over ss c) ++ conjuncts_of ss cs

-- Words of the laws: places that are there.
use Rattle.std.specs.Prelude.{◌<◌, ℕ, ◌+◌, length, Option, Some, None}
use Rattle.sql_ast.specs.declared.bound.OrderKey.{OrderKey}
use Rattle.sql_binding.specs.Bound.{Shown, Sum, all_rows, sum_of, Groups, Query}
use Rattle.sql_binding.specs.Trees.{Tree, Trees, Form, typed, column, literal, arithmetic, negated, compare, is_null, between, in_, and, or, not, none, with}
use Rattle.table_model.specs.Tables.{Each}

-- the columns of a tree stand within a row of this length
abbrev mutual
  pub IsWithin : ℕ → Tree → Type 0
  IsWithin w (typed form ty) = IsFormWithin w form

  pub IsFormWithin : ℕ → Form → Type 0
  IsFormWithin w (column n) = n < w
  IsFormWithin w (literal v) = Unit {0}
  IsFormWithin w (arithmetic op a b) = IsWithin w a × IsWithin w b
  IsFormWithin w (negated a) = IsWithin w a
  IsFormWithin w (compare op a b) = IsWithin w a × IsWithin w b
  IsFormWithin w (is_null deny a) = IsWithin w a
  IsFormWithin w (between deny a b c) = IsWithin w a × (IsWithin w b × IsWithin w c)
  IsFormWithin w (in_ deny a members) = IsWithin w a × AreWithin w members
  IsFormWithin w (and a b) = IsWithin w a × IsWithin w b
  IsFormWithin w (or a b) = IsWithin w a × IsWithin w b
  IsFormWithin w (not a) = IsWithin w a

  pub AreWithin : ℕ → Trees → Type 0
  AreWithin w none = Unit {0}
  AreWithin w (with a rest) = IsWithin w a × AreWithin w rest

abbrev pub IsSumWithin : ℕ → Sum → Type 0
IsSumWithin w all_rows = Unit {0}
IsSumWithin w (sum_of f a) = IsWithin w a

abbrev pub IsShownWithin : ℕ → Shown → Type 0
IsShownWithin w s = IsWithin w s.tree

-- the keys and the aggregates of groups over a joined row of this length
abbrev pub AreGroupsWithin : ℕ → Option Groups → Type 0
AreGroupsWithin w None = Unit {0}
AreGroupsWithin w (Some g) = Each (λ (n : ℕ). n < w) g.keys × Each (IsSumWithin w) g.sums

-- the length of the row of which a query's columns are computed: the joined row, or a group's keys and aggregates
abbrev pub base_width : ℕ → Option Groups → ℕ
base_width w None = w
base_width w (Some g) = length g.keys + length g.sums

-- ALL PLACES of a query over a joined row of this length are there
pub record HasItsPlaces (w : ℕ) (q : Query) : Type 0 where
  pub conjuncts : Each (IsWithin w) q.conjuncts
  pub groups : AreGroupsWithin w q.groups
  pub shown : Each (IsShownWithin (base_width w q.groups)) q.shown
  pub order : Each (λ (k : OrderKey). k.place < length q.shown) q.order

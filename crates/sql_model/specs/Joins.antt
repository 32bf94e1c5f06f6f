-- The joined list: the tuples of the product that meet WHERE.
use Rattle.std.specs.Prelude.{◌≡◌, ℕ, List}
use Rattle.dby_types.specs.declared.state.SqlState.{SqlState}
use Rattle.sql_ast.specs.declared.bound.Expr.{Expr}
use Rattle.sql_model.specs.declared.judged.Judged.TheVariants.{Meets, Refuses}
use Rattle.sql_model.specs.Tuples.{Tuple, IsTuple, row_of, times}
use Rattle.sql_model.specs.Where.{judged}
use Rattle.table_model.specs.Tables.{Tables, Each}

-- a tuple of the product that meets WHERE
pub record MeetsWhere (tables : Tables) (from : List ℕ) (cs : List Expr) (t : Tuple) : Type 0 where
  pub there : IsTuple tables from t
  pub met : judged cs (row_of t) ≡ Meets

-- THE JOINED LIST has the tuples that meet WHERE, each once, and no others
pub record Joins (tables : Tables) (from : List ℕ) (cs : List Expr) (found : List Tuple) : Type 0 where
  pub each : Each (MeetsWhere tables from cs) found
  pub once : (t : Tuple) → MeetsWhere tables from cs t → times t found ≡ 1

-- a tuple for which WHERE refuses
pub record WhereRefuses (tables : Tables) (from : List ℕ) (cs : List Expr) (why : SqlState) : Type 0 where
  pub tuple : Tuple
  pub there : IsTuple tables from tuple
  pub refused : judged cs (row_of tuple) ≡ Refuses why

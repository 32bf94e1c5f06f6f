-- A query bound, and the fault that is told behind it.
use Rattle.std.specs.Prelude.{◌≡◌, ℕ, List, Option}
use Rattle.dby_types.specs.declared.definition.Dictionary.{Dictionary}
use Rattle.dby_types.specs.declared.state.SqlState.{SqlState}
use Rattle.expr_binder.specs.Walking.{kept}
use Rattle.sql_ast.specs.declared.bound.BoundSelect.{BoundSelect}
use Rattle.sql_ast.specs.declared.statement.SelectText.{SelectText}
use Rattle.sql_binding.specs.Bound.{query_of}
use Rattle.sql_binding.specs.From.{tables_of, numbers_of}
use Rattle.sql_binding.specs.Names.{Source}
use Rattle.sql_binding.specs.Queries.{query, query_faults, query_sources, later_faults}

-- a query over tables that were found
pub record AsksOver (ss : List Source) (numbers : List ℕ) (q : SelectText) (f g : Option SqlState) (b : BoundSelect) : Type 0 where
  pub query : (d : Dictionary) → ss ≡ query_sources d q → numbers ≡ numbers_of d (tables_of q.from) → query_of b ≡ query d q
  pub fault : (d : Dictionary) → ss ≡ query_sources d q → g ≡ kept f (later_faults d q)

-- A QUERY IS BOUND to a dictionary
pub record Asks (d : Dictionary) (q : SelectText) (f g : Option SqlState) (b : BoundSelect) : Type 0 where
  pub query : query_of b ≡ query d q
  pub fault : g ≡ kept f (query_faults d q)

-- The tables of FROM that were found so far.
use Rattle.std.specs.Prelude.{◌≡◌, ℕ, List, [], ◌∷◌, ◌++◌, Option}
use Rattle.dby_types.specs.declared.definition.ColumnDef.{ColumnDef}
use Rattle.dby_types.specs.declared.definition.Dictionary.{Dictionary}
use Rattle.dby_types.specs.declared.state.SqlState.{SqlState}
use Rattle.expr_binder.specs.Seen.{sources_in}
use Rattle.expr_binder.specs.Walking.{kept}
use Rattle.query_binder.specs.declared.found.Tables.{Tables}
use Rattle.sql_ast.specs.declared.statement.TableText.{TableText}
use Rattle.sql_binding.specs.From.{sources_of, numbers_of, missing_tables}

-- one table more, as it was found
pub record Puts (exposed : List ℕ) (columns : List ColumnDef) (number : ℕ) (a b : Tables) : Type 0 where
  pub sources : sources_in b.sources ≡ sources_in a.sources ++ record { exposed = exposed; columns = columns } ∷ []
  pub numbers : b.numbers ≡ a.numbers ++ number ∷ []
  pub fault : b.fault ≡ a.fault

-- THESE TABLES more, and the fault that is told of them
pub record Adds (d : Dictionary) (ts : List TableText) (a b : Tables) : Type 0 where
  pub sources : sources_in b.sources ≡ sources_in a.sources ++ sources_of d ts
  pub numbers : b.numbers ≡ a.numbers ++ numbers_of d ts
  pub fault : b.fault ≡ kept a.fault (missing_tables d ts)

-- THESE TABLES, and no others
pub record Begins (d : Dictionary) (ts : List TableText) (f : Option SqlState) (a : Tables) : Type 0 where
  pub sources : sources_in a.sources ≡ sources_of d ts
  pub numbers : a.numbers ≡ numbers_of d ts
  pub fault : a.fault ≡ kept f (missing_tables d ts)

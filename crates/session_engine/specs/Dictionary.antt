-- The dictionary that the engine keeps, and the catalog rows that it stands for.
use Rattle.std.specs.Prelude.{◌≡◌, ◌≤◌, ◌⊎◌, ℕ, List, [], ◌∷◌}
use Rattle.dby_types.specs.declared.definition.TableDef.{TableDef}
use Rattle.table_model.specs.Tables.{Tables, Each}
use Rattle.journal_model.specs.Catalog.{Defines}
use Rattle.session_engine.specs.declared.dictionary.Defined.{Defined}

-- the name of a table, with its number and columns
abbrev pub Named : Type 0
Named = List ℕ × Defined

-- an item of a list
abbrev pub Among : {X : Type 0} → X → List X → Type 0
Among x [] = ⊥
Among x (y ∷ ys) = (x ≡ y) ⊎ Among x ys

-- the table of this name
abbrev pub IsThere : List Named → List ℕ → Defined → Type 0
IsThere entries name def = Among (name, def) entries

-- no table has this name
abbrev pub IsAbsent : List Named → List ℕ → Type 0
IsAbsent entries name = Each (λ e. e.0 ≡ name → ⊥) entries

abbrev pub definition_of : Named → TableDef
definition_of e = record { number = e.1.number; name = e.0; columns = e.1.columns }

abbrev pub named_of : TableDef → Named
named_of d = (d.name, record { number = d.number; columns = d.columns })

-- the dictionary is what the catalog rows of these tables define, both ways
pub record IsDictionary (tables : Tables) (named : List Named) : Type 0 where
  pub there : (e : Named) → Among e named → Defines tables (definition_of e)
  pub only : (d : TableDef) → Defines tables d → Among (named_of d) named
  -- the catalog's own tables are none of them
  pub user : (e : Named) → Among e named → 16 ≤ e.1.number

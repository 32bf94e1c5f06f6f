-- INSERT, UPDATE and DELETE of their parts.
use Rattle.std.proofs.Common.{◌≡◌, ℕ, List, [], ◌∷◌, ◌++◌, Option, refl, sym, ap, ◌∙◌, subst}
use Rattle.std.specs.Prelude.{map}
use Rattle.change_binder.proofs.Chains.{behind}
use Rattle.change_binder.specs.Binding.{Sets, Targets, spots_in}
use Rattle.dby_types.specs.declared.definition.ColumnDef.{ColumnDef}
use Rattle.dby_types.specs.declared.definition.Dictionary.{Dictionary}
use Rattle.dby_types.specs.declared.state.SqlState.{SqlState}
use Rattle.expr_binder.specs.Seen.{sources_in}
use Rattle.expr_binder.specs.Walking.{kept}
use Rattle.expr_binder.specs.declared.names.Source.{Source as InCode}
use Rattle.expr_binder.specs.declared.names.Spot.{Spot as SpotInCode}
use Rattle.sql_ast.specs.declared.bound.BoundSet.{BoundSet}
use Rattle.sql_ast.specs.declared.bound.BoundStatement.TheVariants.{Insert, Update, Delete}
use Rattle.sql_ast.specs.declared.bound.Expr.{Expr}
use Rattle.sql_ast.specs.declared.expression.Expression.{Expression}
use Rattle.sql_ast.specs.declared.statement.Item.{Item}
use Rattle.sql_ast.specs.declared.statement.SetText.{SetText}
use Rattle.sql_binder.proofs.Rows.{left_none, right_none}
use Rattle.sql_binder.specs.Answering.{Forms}
use Rattle.sql_binder.specs.Making.{IsTarget, Fills, Filters}
use Rattle.sql_binder.specs.declared.target.Target.{Target}
use Rattle.sql_binding.specs.Binding.{inserted, insert_faults, updated, update_faults, deleted, delete_faults}
use Rattle.sql_binding.specs.Bound.{Put, insert, update, delete, puts_of}
use Rattle.sql_binding.specs.Changes.{missing_targets, names_in, only_source, puts, set_faults, set_names, targets, tuples_faults, tuples_trees}
use Rattle.sql_binding.specs.Expressions.{conjuncts_of}
use Rattle.sql_binding.specs.Faults.{condition_faults}
use Rattle.sql_binding.specs.From.{columns_of, number_of, found_in, table_faults, twice_faults}
use Rattle.sql_binding.specs.Names.{Source, Spot}
use Rattle.sql_binding.specs.Trees.{Tree, trees_of}

-- the one table of a change
alone : (d : Dictionary) (name : List ℕ) (f g : Option SqlState) (t : Target) (s : InCode) {ss : List InCode} → IsTarget d name f g t → ss ≡ s ∷ [] → s.exposed.now ≡ name → s.columns.now ≡ t.columns.now
    → sources_in ss ≡ only_source name (columns_of (found_in d name))
alone d name f g t s {ss} is at e k = ap sources_in at ∙ ap (λ (n : List ℕ). record { exposed = n; columns = s.columns.now } ∷ []) e
    ∙ ap (only_source name) (k ∙ is.columns)

pub deletes : (d : Dictionary) (name : List ℕ) (cs : List Expression) (f0 f1 f2 : Option SqlState) (t : Target) (s : InCode) {ss : List InCode} (xs : List Expr) → IsTarget d name f0 f1 t → ss ≡ s ∷ []
    → s.exposed.now ≡ name → s.columns.now ≡ t.columns.now → Filters (sources_in ss) cs f1 f2 xs
    → Forms (deleted (found_in d name) name cs) (delete_faults (found_in d name) name cs) f0 f2 (Delete t.number xs)
deletes d name cs f0 f1 f2 t s {ss} xs is at e k h =
    let own = alone d name f0 f1 t s is at e k in
    record {
      form = λ q. ap (λ (n : ℕ). delete n (trees_of xs)) is.number ∙ ap (delete (number_of (found_in d name))) (h.parts ∙ ap (λ (l : List Source). conjuncts_of l cs) own);
      fault = behind f0 f1 f2 (table_faults (found_in d name)) (condition_faults (only_source name (columns_of (found_in d name))) cs) is.fault (h.fault ∙ ap (λ (l : List Source). kept f1 (condition_faults l cs)) own);
    }

pub updates : (d : Dictionary) (name : List ℕ) (texts : List SetText) (cs : List Expression) (f0 f1 f2 f3 f4 : Option SqlState) (t : Target) (s : InCode) {ss tt : List InCode} (sets : List BoundSet) (xs : List Expr)
    → IsTarget d name f0 f1 t → ss ≡ s ∷ [] → tt ≡ s ∷ [] → s.exposed.now ≡ name → s.columns.now ≡ t.columns.now → Sets f1 f2 t.columns.now (sources_in ss) texts sets → Filters (sources_in tt) cs f2 f3 xs
    → f4 ≡ kept f3 (twice_faults (set_names texts)) → Forms (updated (found_in d name) name texts cs) (update_faults (found_in d name) name texts cs) f0 f4 (Update t.number sets xs)
updates d name texts cs f0 f1 f2 f3 f4 t s {ss} {tt} sets xs is at to e k put h twice =
    let one = alone d name f0 f1 t s is at e k in
    let two = alone d name f0 f1 t s is to e k in
    let table = found_in d name in
    let own = only_source name (columns_of (found_in d name)) in
    record {
      form = λ q. ap (λ (n : ℕ). update n (puts_of sets) (trees_of xs)) is.number
          ∙ ap (λ (ps : List Put). update (number_of table) ps (trees_of xs)) (put.puts ∙ ap (λ (cols : List ColumnDef). puts cols (sources_in ss) texts) is.columns ∙ ap (λ (l : List Source). puts (columns_of table) l texts) one)
          ∙ ap (update (number_of table) (puts (columns_of table) own texts)) (h.parts ∙ ap (λ (l : List Source). conjuncts_of l cs) two);
      fault = behind f0 f1 f4 (table_faults table) (set_faults (columns_of table) own texts ++ (condition_faults own cs ++ twice_faults (set_names texts))) is.fault
          (behind f1 f2 f4 (set_faults (columns_of table) own texts) (condition_faults own cs ++ twice_faults (set_names texts))
          (put.fault ∙ ap (λ (cols : List ColumnDef). kept f1 (set_faults cols (sources_in ss) texts)) is.columns ∙ ap (λ (l : List Source). kept f1 (set_faults (columns_of table) l texts)) one)
          (behind f2 f3 f4 (condition_faults own cs) (twice_faults (set_names texts)) (h.fault ∙ ap (λ (l : List Source). kept f2 (condition_faults l cs)) two) twice));
    }

pub inserts : (d : Dictionary) (name : List ℕ) (names : Option (List (List ℕ))) (tuples : List (List Item)) (f0 f1 f2 f3 f4 : Option SqlState) (t : Target) (spots : List SpotInCode) {slice : List SpotInCode} (rows : List (List Expr))
    → IsTarget d name f0 f1 t → Targets f1 f2 t.columns.now names spots → slice ≡ spots → Fills f2 f3 t.columns.now (spots_in slice) tuples rows → f4 ≡ kept f3 (twice_faults (names_in names))
    → Forms (inserted (found_in d name) names tuples) (insert_faults (found_in d name) names tuples) f0 f4 (Insert t.number rows)
inserts d name names tuples f0 f1 f2 f3 f4 t spots {slice} rows is aims at fills twice =
    let table = found_in d name in
    let cs = columns_of table in
    let own : spots_in slice ≡ targets (columns_of (found_in d name)) names = ap spots_in at ∙ aims.spots ∙ ap (λ (l : List ColumnDef). targets l names) is.columns in
    record {
      form = λ q.
          let quiet : tuples_faults (targets cs names) tuples ≡ [] = left_none (tuples_faults (targets cs names) tuples) (twice_faults (names_in names))
          (right_none (missing_targets cs (names_in names)) (tuples_faults (targets cs names) tuples ++ twice_faults (names_in names))
          (right_none (table_faults table) (missing_targets cs (names_in names) ++ (tuples_faults (targets cs names) tuples ++ twice_faults (names_in names))) q)) in
          ap (λ (n : ℕ). insert n (map trees_of rows)) is.number
          ∙ ap (insert (number_of table)) (fills.trees (ap (λ (ss : List Spot). tuples_faults ss tuples) own ∙ quiet)
          ∙ ap (λ (l : List ColumnDef). tuples_trees l (spots_in slice) tuples) is.columns ∙ ap (λ (ss : List Spot). tuples_trees cs ss tuples) own);
      fault = behind f0 f1 f4 (table_faults table) (missing_targets cs (names_in names) ++ (tuples_faults (targets cs names) tuples ++ twice_faults (names_in names))) is.fault
          (behind f1 f2 f4 (missing_targets cs (names_in names)) (tuples_faults (targets cs names) tuples ++ twice_faults (names_in names))
          (aims.fault ∙ ap (λ (l : List ColumnDef). kept f1 (missing_targets l (names_in names))) is.columns)
          (behind f2 f3 f4 (tuples_faults (targets cs names) tuples) (twice_faults (names_in names)) (fills.fault ∙ ap (λ (ss : List Spot). kept f2 (tuples_faults ss tuples)) own) twice));
    }

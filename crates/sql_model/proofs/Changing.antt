-- The changes of an UPDATE or a DELETE don't meet.
use Rattle.std.proofs.Common.{◌≡◌, ℕ, ◌+◌, true, cond, List, [], ◌∷◌, map, Some, refl, sym, ap, ◌∙◌}
use Rattle.std.specs.Prelude.{◌&&◌}
use Rattle.std.specs.List.{flat_map}
use Rattle.std.proofs.Math.Bool.{and-true}
use Rattle.dby_types.specs.declared.answer.Component.{Component}
use Rattle.dby_types.specs.declared.definition.ColumnDef.{ColumnDef}
use Rattle.dby_types.specs.declared.number.RowId.{RowId}
use Rattle.sql_ast.specs.declared.bound.BoundSet.{BoundSet}
use Rattle.sql_ast.specs.declared.bound.Expr.{Expr}
use Rattle.sql_model.specs.Apart.{IsOfRow, once_at, times_changed, AreApart}
use Rattle.sql_model.specs.Changes.{RowChange, update_change, update_changes, delete_change, delete_changes}
use Rattle.sql_model.specs.Joins.{Joins, MeetsWhere}
use Rattle.sql_model.specs.Tuples.{Tuple, times}
use Rattle.table_model.specs.Tables.{Tables, Each, is_same_rid}

-- a change of each component, at its place and with its row as what stood
pub record IsChange (n : ℕ) (make : Component → RowChange) : Type 0 where
  pub table : (c : Component) → (make c).table ≡ n
  pub rid : (c : Component) → (make c).rid ≡ Some c.rid
  pub old : (c : Component) → (make c).old ≡ Some c.row

module _ (tables : Tables) (n : ℕ) (cs : List Expr) (make : Component → RowChange) (is : IsChange n make) where
  abbrev Met : Tuple → Type 0
  Met = MeetsWhere tables (n ∷ []) cs

  abbrev made : List Tuple → List RowChange
  made found = flat_map (map make) found

  of_row : (c : Component) → tables n c.rid ≡ Some c.row → IsOfRow tables (make c)
  of_row c there = (c.rid, is.rid c, ap (λ m. tables m c.rid) (is.table c) ∙ there ∙ sym (is.old c))

  changes_before : (found : List Tuple) → Each Met found → Each (IsOfRow tables) (made found)
  changes_before [] h = tt
  changes_before ([] ∷ found) h = absurd h.0.there
  changes_before ((c ∷ []) ∷ found) h = (of_row c h.0.there.0, changes_before found h.1)
  changes_before ((c ∷ d ∷ ds) ∷ found) h = absurd h.0.there.1

  one_more : (c d : Component) (m : ℕ) → cond (is_same_rid c.rid d.rid && true) 1 0 + m ≡ once_at c.rid (make d).rid + m
  one_more c d m =
      ap (λ b. cond b 1 0 + m) (and-true (is_same_rid c.rid d.rid)) ∙ ap (λ r. once_at c.rid r + m) (sym (is.rid d))

  times_are : (c : Component) (found : List Tuple) → Each Met found → times (c ∷ []) found ≡ times_changed c.rid (made found)
  times_are c [] h = refl
  times_are c ([] ∷ found) h = absurd h.0.there
  times_are c ((d ∷ []) ∷ found) h =
      ap (λ m. cond (is_same_rid c.rid d.rid && true) 1 0 + m) (times_are c found h.1) ∙ one_more c d (times_changed c.rid (made found))
  times_are c ((d ∷ e ∷ es) ∷ found) h = absurd h.0.there.1

  abbrev IsOnce : List RowChange → RowChange → Type 0
  IsOnce all change = (rid : RowId) → change.rid ≡ Some rid → times_changed rid all ≡ 1

  is_once : (c : Component) (all : List RowChange) → times_changed c.rid all ≡ 1 → IsOnce all (make c)
  is_once c all h rid e = let same : c.rid ≡ rid = cc (is.rid c) in ap (λ r. times_changed r all) (sym same) ∙ h

  each_once : (all found : List Tuple) → Each Met all → ((t : Tuple) → Met t → times t all ≡ 1) → Each Met found → Each (IsOnce (made all)) (made found)
  each_once all [] a once h = tt
  each_once all ([] ∷ found) a once h = absurd h.0.there
  each_once all ((c ∷ []) ∷ found) a once h =
      (is_once c (made all) (sym (times_are c all a) ∙ once (c ∷ []) h.0), each_once all found a once h.1)
  each_once all ((c ∷ d ∷ ds) ∷ found) a once h = absurd h.0.there.1

  pub changes_apart : (found : List Tuple) → Joins tables (n ∷ []) cs found → AreApart tables (made found)
  changes_apart found j = record { before = changes_before found j.each; once = each_once found found j.each j.once j.each }

pub updates_apart : (tables : Tables) (n : ℕ) (columns : List ColumnDef) (sets : List BoundSet) (cs : List Expr) (found : List Tuple)
    → Joins tables (n ∷ []) cs found → AreApart tables (update_changes n columns sets found)
updates_apart tables n columns sets cs found j =
    changes_apart tables n cs (update_change n columns sets) (record { table = λ c. refl; rid = λ c. refl; old = λ c. refl }) found j

pub deletes_apart : (tables : Tables) (n : ℕ) (cs : List Expr) (found : List Tuple) → Joins tables (n ∷ []) cs found → AreApart tables (delete_changes n found)
deletes_apart tables n cs found j =
    changes_apart tables n cs (delete_change n) (record { table = λ c. refl; rid = λ c. refl; old = λ c. refl }) found j

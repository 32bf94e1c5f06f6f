-- Groups are a division of rows.
use Rattle.std.proofs.Common.{◌≡◌, ℕ, Bool, true, false, cond, List, [], ◌∷◌, ◌++◌, refl, sym, ◌∙◌, subst}
use Rattle.std.proofs.lemmas.List.{append-nil, append_assoc}
use Rattle.std.proofs.lemmas.List.Sorted.{IsPermutation-refl, IsPermutation-trans, IsPermutation-append_left, IsPermutation-append_right, IsPermutation-append_comm}
use Rattle.std.specs.List.Sorted.{IsPermutation}
use Rattle.sql_ast.specs.declared.bound.Grouping.{Grouping}
use Rattle.sql_model.proofs.SameRows.{same_row_itself, same_row_back, same_trimmed}
use Rattle.sql_model.specs.Groups.{Group, values_at, key_of, joined_by, with_key, first_groups, grouped, groups_of}
use Rattle.sql_model.specs.Rows.{same_row}
use Rattle.sql_model.specs.Tuples.{Row}
use Rattle.sql_model.specs.Unlike.{IsUnlike, AreUnlike, keys_in, rows_in, HasKey, IsTrimmed, Divides}
use Rattle.table_model.proofs.TablesLemmas.{each_append}
use Rattle.table_model.specs.Tables.{Each}

-- no two groups have one key
unlike_key : (k key r : Row) (gs : List Group) → same_row k key ≡ false → IsUnlike k (keys_in gs) → IsUnlike k (keys_in (with_key gs key r))
unlike_key k key r [] ne h = (ne, tt)
unlike_key k key r (g ∷ gs) ne h = step (same_row key g.key) (unlike_key k key r gs ne h.1)
  where
    step : (b : Bool) → IsUnlike k (keys_in (with_key gs key r)) → IsUnlike k (keys_in (cond b (joined_by g r ∷ gs) (g ∷ with_key gs key r)))
    step true more = h
    step false more = (h.0, more)

unlike_keys : (gs : List Group) (key r : Row) → AreUnlike (keys_in gs) → AreUnlike (keys_in (with_key gs key r))
unlike_keys [] key r h = (tt, tt)
unlike_keys (g ∷ gs) key r h = step (same_row key g.key) refl (unlike_keys gs key r h.1)
  where
    step : (b : Bool) → same_row key g.key ≡ b → AreUnlike (keys_in (with_key gs key r)) → AreUnlike (keys_in (cond b (joined_by g r ∷ gs) (g ∷ with_key gs key r)))
    step true e more = h
    step false e more = (unlike_key g.key key r gs (same_row_back g.key key ∙ e) h.0, more)

-- each row has its group's key
right_keys : (keys : List ℕ) (gs : List Group) (r : Row) → Each (HasKey keys) gs → Each (HasKey keys) (with_key gs (key_of keys r) r)
right_keys keys [] r h = ((same_row_itself (key_of keys r), tt), tt)
right_keys keys (g ∷ gs) r h = step (same_row (key_of keys r) g.key) refl (right_keys keys gs r h.1)
  where
    step : (b : Bool) → same_row (key_of keys r) g.key ≡ b → Each (HasKey keys) (with_key gs (key_of keys r) r) → Each (HasKey keys) (cond b (joined_by g r ∷ gs) (g ∷ with_key gs (key_of keys r) r))
    step true e more = (each_append (λ (s : Row). same_row (key_of keys s) g.key ≡ true) g.rows (r ∷ []) h.0 (e, tt), h.1)
    step false e more = (h.0, more)

-- no key has trailing blanks
trimmed_keys : (gs : List Group) (key r : Row) → IsTrimmed key → Each IsTrimmed (keys_in gs) → Each IsTrimmed (keys_in (with_key gs key r))
trimmed_keys [] key r is h = (is, tt)
trimmed_keys (g ∷ gs) key r is h = step (same_row key g.key) (trimmed_keys gs key r is h.1)
  where
    step : (b : Bool) → Each IsTrimmed (keys_in (with_key gs key r)) → Each IsTrimmed (keys_in (cond b (joined_by g r ∷ gs) (g ∷ with_key gs key r)))
    step true more = h
    step false more = (h.0, more)

grouped_trimmed : (keys : List ℕ) (gs : List Group) (rows : List Row) → Each IsTrimmed (keys_in gs) → Each IsTrimmed (keys_in (grouped keys gs rows))
grouped_trimmed keys gs [] h = h
grouped_trimmed keys gs (r ∷ rows) h = grouped_trimmed keys (with_key gs (key_of keys r) r) rows (trimmed_keys gs (key_of keys r) r (same_trimmed (values_at keys r)) h)

first_trimmed : (whole : Bool) → Each IsTrimmed (keys_in (first_groups whole))
first_trimmed true = (refl, tt)
first_trimmed false = tt

-- no row is lost
all_rows : (gs : List Group) (key r : Row) → IsPermutation (rows_in gs ++ r ∷ []) (rows_in (with_key gs key r))
all_rows [] key r = IsPermutation-refl (r ∷ [])
all_rows (g ∷ gs) key r = step (same_row key g.key) (all_rows gs key r)
  where
    inside : IsPermutation (g.rows ++ (rows_in gs ++ r ∷ [])) ((g.rows ++ r ∷ []) ++ rows_in gs)
    inside = subst (IsPermutation (g.rows ++ (rows_in gs ++ r ∷ []))) (sym (append_assoc g.rows (r ∷ []) (rows_in gs))) (IsPermutation-append_right g.rows (rows_in gs ++ r ∷ []) (r ∷ rows_in gs) (IsPermutation-append_comm (rows_in gs) (r ∷ [])))

    step : (b : Bool) → IsPermutation (rows_in gs ++ r ∷ []) (rows_in (with_key gs key r)) → IsPermutation ((g.rows ++ rows_in gs) ++ r ∷ []) (rows_in (cond b (joined_by g r ∷ gs) (g ∷ with_key gs key r)))
    step true more = subst (λ (l : List Row). IsPermutation l ((g.rows ++ r ∷ []) ++ rows_in gs)) (sym (append_assoc g.rows (rows_in gs) (r ∷ []))) inside
    step false more = subst (λ (l : List Row). IsPermutation l (g.rows ++ rows_in (with_key gs key r))) (sym (append_assoc g.rows (rows_in gs) (r ∷ []))) (IsPermutation-append_right g.rows (rows_in gs ++ r ∷ []) (rows_in (with_key gs key r)) more)

-- row by row
grouped_unlike : (keys : List ℕ) (gs : List Group) (rows : List Row) → AreUnlike (keys_in gs) → AreUnlike (keys_in (grouped keys gs rows))
grouped_unlike keys gs [] h = h
grouped_unlike keys gs (r ∷ rows) h = grouped_unlike keys (with_key gs (key_of keys r) r) rows (unlike_keys gs (key_of keys r) r h)

grouped_right : (keys : List ℕ) (gs : List Group) (rows : List Row) → Each (HasKey keys) gs → Each (HasKey keys) (grouped keys gs rows)
grouped_right keys gs [] h = h
grouped_right keys gs (r ∷ rows) h = grouped_right keys (with_key gs (key_of keys r) r) rows (right_keys keys gs r h)

grouped_all : (keys : List ℕ) (gs : List Group) (rows : List Row) → IsPermutation (rows_in gs ++ rows) (rows_in (grouped keys gs rows))
grouped_all keys gs [] = subst (λ (l : List Row). IsPermutation l (rows_in gs)) (sym (append-nil (rows_in gs))) (IsPermutation-refl (rows_in gs))
grouped_all keys gs (r ∷ rows) =
    let now : IsPermutation ((rows_in gs ++ r ∷ []) ++ rows) (rows_in (with_key gs (key_of keys r) r) ++ rows) =
    IsPermutation-append_left rows (rows_in gs ++ r ∷ []) (rows_in (with_key gs (key_of keys r) r)) (all_rows gs (key_of keys r) r) in
    IsPermutation-trans (rows_in gs ++ r ∷ rows) (rows_in (with_key gs (key_of keys r) r) ++ rows) (rows_in (grouped keys (with_key gs (key_of keys r) r) rows))
    (subst (λ (l : List Row). IsPermutation l (rows_in (with_key gs (key_of keys r) r) ++ rows)) (append_assoc (rows_in gs) (r ∷ []) rows) now)
    (grouped_all keys (with_key gs (key_of keys r) r) rows)

first_unlike : (whole : Bool) → AreUnlike (keys_in (first_groups whole))
first_unlike true = (tt, tt)
first_unlike false = tt

first_right : (keys : List ℕ) (whole : Bool) → Each (HasKey keys) (first_groups whole)
first_right keys true = (tt, tt)
first_right keys false = tt

first_none : (whole : Bool) → rows_in (first_groups whole) ≡ []
first_none true = refl
first_none false = refl

pub groups_divide : (g : Grouping) (rows : List Row) → Divides g.keys rows (groups_of g rows)
groups_divide g rows = record {
  unlike = grouped_unlike g.keys (first_groups g.whole) rows (first_unlike g.whole);
  trimmed = grouped_trimmed g.keys (first_groups g.whole) rows (first_trimmed g.whole);
  right = grouped_right g.keys (first_groups g.whole) rows (first_right g.keys g.whole);
  all = subst (λ (l : List Row). IsPermutation (l ++ rows) (rows_in (groups_of g rows))) (first_none g.whole) (grouped_all g.keys (first_groups g.whole) rows);
}

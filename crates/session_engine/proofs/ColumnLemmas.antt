-- A table has one list of columns, so a row that suits what a statement was bound to fits its table.
use Rattle.std.proofs.Common.{◌≡◌, ℕ, suc, List, [], ◌∷◌, ◌++◌, Bool, true, false, refl, sym, ◌∙◌, ap, subst, arith, inl, inr, Some, None}
use Rattle.std.specs.Prelude.{slice_get, ◌&&◌, ◌||◌, ◌==◌}
use Rattle.std.proofs.lemmas.Bool.{both_ways, cases_Bool, and_parts, eqb-true}
use Rattle.dby_types.specs.declared.definition.ColumnDef.{ColumnDef}
use Rattle.dby_types.specs.declared.definition.TableDef.{TableDef}
use Rattle.dby_types.specs.declared.number.RowId.{RowId}
use Rattle.dby_types.specs.declared.value.Ty.{Ty}
use Rattle.dby_types.specs.declared.value.Ty.TheVariants as ty
use Rattle.dby_types.specs.declared.value.Value.{Value}
use Rattle.table_model.specs.Fitting.{fits_columns}
use Rattle.table_model.specs.Tables.{Tables, Each, put, is_same_rid}
use Rattle.journal_model.specs.Catalog.{kind_of, size_of, column_row, HasColumns, Defines, FitsColumns, suits, has_null}
use Rattle.journal_model.specs.Legal.{CommitsFit}
use Rattle.journal_model.specs.Meaning.{all_suit, some_null}
use Rattle.session_model.specs.Places.{is_catalog}
use Rattle.session_model.proofs.FitLemmas.{SameCatalog, defines_same}
use Rattle.session_model.proofs.PlaceLemmas.{put_elsewhere, put_here, elsewhere}

pub column_row-place : (m n p q : ℕ) (c d : ColumnDef) → column_row m p c ≡ column_row n q d → p ≡ q
column_row-place m n p q c d h = cc

same_type : (a b : Ty) → kind_of a ≡ kind_of b → size_of a ≡ size_of b → a ≡ b
same_type ty.Small ty.Small h k = refl
same_type ty.Small ty.Int h k = absurd (omega arith)
same_type ty.Small ty.Big h k = absurd (omega arith)
same_type ty.Small ty.Bool h k = absurd (omega arith)
same_type ty.Small (ty.Text n) h k = absurd (omega arith)
same_type ty.Int ty.Small h k = absurd (omega arith)
same_type ty.Int ty.Int h k = refl
same_type ty.Int ty.Big h k = absurd (omega arith)
same_type ty.Int ty.Bool h k = absurd (omega arith)
same_type ty.Int (ty.Text n) h k = absurd (omega arith)
same_type ty.Big ty.Small h k = absurd (omega arith)
same_type ty.Big ty.Int h k = absurd (omega arith)
same_type ty.Big ty.Big h k = refl
same_type ty.Big ty.Bool h k = absurd (omega arith)
same_type ty.Big (ty.Text n) h k = absurd (omega arith)
same_type ty.Bool ty.Small h k = absurd (omega arith)
same_type ty.Bool ty.Int h k = absurd (omega arith)
same_type ty.Bool ty.Big h k = absurd (omega arith)
same_type ty.Bool ty.Bool h k = refl
same_type ty.Bool (ty.Text n) h k = absurd (omega arith)
same_type (ty.Text n) ty.Small h k = absurd (omega arith)
same_type (ty.Text n) ty.Int h k = absurd (omega arith)
same_type (ty.Text n) ty.Big h k = absurd (omega arith)
same_type (ty.Text n) ty.Bool h k = absurd (omega arith)
same_type (ty.Text n) (ty.Text m) h k = ap ty.Text k

pub column_row-column : (m n p q : ℕ) (c d : ColumnDef) → column_row m p c ≡ column_row n q d → c ≡ d
column_row-column m n p q c d h =
    let name : c.name ≡ d.name = cc in
    let kind : kind_of c.ty ≡ kind_of d.ty = cc in
    let size : size_of c.ty ≡ size_of d.ty = cc in
    let flag : c.not_null ≡ d.not_null = cc in
    let made : List ℕ → Ty → Bool → ColumnDef = λ a b e. record { name = a; ty = b; not_null = e } in
    ap (λ a. made a c.ty c.not_null) name ∙ ap (λ b. made d.name b c.not_null) (same_type c.ty d.ty kind size) ∙ ap (made d.name d.ty) flag

-- lists that have the same items at the same places
same_items : (cs ds : List ColumnDef) → ((k : ℕ) (c : ColumnDef) → slice_get cs k ≡ Some c → slice_get ds k ≡ Some c) → ((k : ℕ) (c : ColumnDef) → slice_get ds k ≡ Some c → slice_get cs k ≡ Some c) → cs ≡ ds
same_items [] [] f g = refl
same_items [] (d ∷ ds) f g = let h : None ≡ Some d = g 0 d refl in cc
same_items (c ∷ cs) [] f g = let h : None ≡ Some c = f 0 c refl in cc
same_items (c ∷ cs) (d ∷ ds) f g =
    let head : Some d ≡ Some c = f 0 c refl in
    let same : d ≡ c = cc in
    ap (λ x. x ∷ cs) (sym same) ∙ ap (λ xs. d ∷ xs) (same_items cs ds (λ k x h. f (suc k) x h) (λ k x h. g (suc k) x h))

-- a table has one list of columns
one_way : (tables : Tables) (n : ℕ) (cs ds : List ColumnDef) → HasColumns tables n cs → HasColumns tables n ds → (k : ℕ) (c : ColumnDef) → slice_get cs k ≡ Some c → slice_get ds k ≡ Some c
one_way tables n cs ds h g k c at =
    let stands = h.each k c at in
    let found = g.only stands.0 (column_row n k c) stands.1 refl in
    let place : k ≡ found.0 = column_row-place n n k found.0 c found.1 found.3 in
    let column : c ≡ found.1 = column_row-column n n k found.0 c found.1 found.3 in
    subst (λ q. slice_get ds q ≡ Some c) (sym place) (found.2 ∙ ap Some (sym column))

pub one-list : (tables : Tables) (n : ℕ) (cs ds : List ColumnDef) → HasColumns tables n cs → HasColumns tables n ds → cs ≡ ds
one-list tables n cs ds h g = same_items cs ds (one_way tables n cs ds h g) (one_way tables n ds cs g h)

-- A ROW of a statement's tuples suits its columns, and is stored as it is
pub suits_one : (cs : List ColumnDef) (before : List (List Value)) (row : List Value) (after : List (List Value)) → all_suit cs (before ++ row ∷ after) ≡ true → suits cs row ≡ true
suits_one cs [] row after h = (and_parts _ _ h).0
suits_one cs (b ∷ before) row after h = suits_one cs before row after (and_parts _ _ h).1

or_first : (a b : Bool) → (a || b) ≡ false → a ≡ false
or_first true b h = absurd (both_ways true h refl)
or_first false b h = refl

or_second : (a b : Bool) → (a || b) ≡ false → b ≡ false
or_second true b h = absurd (both_ways true h refl)
or_second false b h = h

no_null_one : (cs : List ColumnDef) (before : List (List Value)) (row : List Value) (after : List (List Value)) → some_null cs (before ++ row ∷ after) ≡ false → has_null cs row ≡ false
no_null_one cs [] row after h = or_first (has_null cs row) (some_null cs after) h
no_null_one cs (b ∷ before) row after h = no_null_one cs before row after (or_second (has_null cs b) (some_null cs (before ++ row ∷ after)) h)

pub stored_one : (cs : List ColumnDef) (before : List (List Value)) (row : List Value) (after : List (List Value)) → Each (λ t. fits_columns cs t ≡ true) (before ++ row ∷ after) → fits_columns cs row ≡ true
stored_one cs [] row after h = h.0
stored_one cs (b ∷ before) row after h = stored_one cs before row after h.1

pub row_fits : (cs : List ColumnDef) (before : List (List Value)) (row : List Value) (after : List (List Value)) → all_suit cs (before ++ row ∷ after) ≡ true → some_null cs (before ++ row ∷ after) ≡ false → FitsColumns cs row
row_fits cs before row after suited whole = record { suited = suits_one cs before row after suited; nulls = no_null_one cs before row after whole }

-- a table of users with one row more that fits it
pub fits_more : (f : Tables) (def : TableDef) (rid : RowId) (row : List Value) → is_catalog def.number ≡ false → Defines f def → FitsColumns def.columns row → CommitsFit f → CommitsFit (put f def.number rid (Some row))
fits_more f def rid row user defined fit h = λ d q found defines at.
    let g = put f def.number rid (Some row) in
    let same : SameCatalog g f = λ table r c. put_elsewhere f def.number rid (Some row) table r (elsewhere def.number rid table r (λ t e. both_ways _ user (subst (λ y. is_catalog y ≡ true) t c))) in
    let in_f : Defines f d = defines_same g f same d defines in
    elim (cases_Bool ((d.number == def.number) && is_same_rid q rid)) [
      | inl here ↦
          let number : d.number ≡ def.number = eqb-true d.number def.number (and_parts _ _ here).0 in
          let there : Some row ≡ Some found = sym (put_here f def.number rid (Some row) d.number q here) ∙ at in
          let one : row ≡ found = cc in
          let columns : def.columns ≡ d.columns = one-list f def.number def.columns d.columns defined.columns (subst (λ n. HasColumns f n d.columns) number in_f.columns) in
          subst (FitsColumns d.columns) one (subst (λ cs. FitsColumns cs row) columns fit)
      | inr off ↦ h d q found in_f (sym (put_elsewhere f def.number rid (Some row) d.number q off) ∙ at)
    ]

-- The worked row fits its columns.
use Rattle.std.proofs.Common.{◌≡◌, zero, suc, pos, List, [], ◌∷◌, arith, sym, subst}
use Rattle.std.specs.Str.{IsAscii}
use Rattle.std.proofs.lemmas.Str.{IsUtf8-from_ascii}
use Rattle.std.proofs.lemmas.Str.Ascii.{IsAscii-nil}
use Rattle.std.specs.Int.{w32}
use Rattle.std.proofs.lemmas.Int.{fits_signed_from_abs}
use Rattle.dby_types.specs.declared.value.Value.{Value}
use Rattle.dby_types.specs.declared.definition.ColumnDef.{ColumnDef}
use Rattle.row_codec.specs.StoredRow.{FitsColumns, IsTextWithin}
use Rattle.row_codec.specs.Worked.{worked_columns, worked_row}

ascii_ab : IsAscii (97 ∷ 98 ∷ [])
ascii_ab zero = omega arith
ascii_ab (suc zero) = omega arith
ascii_ab (suc (suc k)) = IsAscii-nil k

text_ab : IsTextWithin 4 (97 ∷ 98 ∷ [])
text_ab = record { within = omega arith; counted = omega arith; utf8 = IsUtf8-from_ascii (97 ∷ 98 ∷ []) ascii_ab }

worked_fits : FitsColumns worked_row worked_columns
worked_fits = (fits_signed_from_abs w32 (pos 7) (omega arith), (text_ab, tt))

pub fits_worked : (row : List Value) (columns : List ColumnDef) → row ≡ worked_row → columns ≡ worked_columns → FitsColumns row columns
fits_worked row columns r c = subst (λ (x : List Value). FitsColumns x columns) (sym r) (subst (λ (y : List ColumnDef). FitsColumns worked_row y) (sym c) worked_fits)

-- The stored form of a row: for each column a flag byte, 0 for NULL and 1 for a value, and a field of the column's width.
use Rattle.std.specs.Prelude.{⊤, ◌≡◌, ◌≤◌, ◌<◌, ℕ, ◌+◌, ◌-◌, ◌^◌, ℤ, List, [], ◌∷◌, ◌++◌, length, replicate, if◌then◌else◌}
use Rattle.std.specs.Int.{cast_unsigned, w16, w32, w64}
use Rattle.std.specs.Int.RustNames.{FitsSigned}
use Rattle.std.specs.Str.{IsUtf8}
use Rattle.dby_bytes.specs.Numbers.{bytes_of}
use Rattle.dby_types.specs.declared.value.Ty.{Ty}
use Rattle.dby_types.specs.declared.value.Ty.TheVariants.{Small, Int, Big, Bool as Truth, Text as Chars}
use Rattle.dby_types.specs.declared.value.Value.{Value}
use Rattle.dby_types.specs.declared.value.Value.TheVariants.{Null, Num, Bool, Text}
use Rattle.dby_types.specs.declared.definition.ColumnDef.{ColumnDef}

-- the width of a column's field
abbrev pub field_len : Ty → ℕ
field_len Small = 2
field_len Int = 4
field_len Big = 8
field_len Truth = 1
field_len (Chars n) = 2 + n

-- the width of a column, with its flag byte
abbrev pub column_len : Ty → ℕ
column_len ty = 1 + field_len ty

-- the width of a row
abbrev pub row_len : List ColumnDef → ℕ
row_len [] = 0
row_len (c ∷ cs) = column_len c.ty + row_len cs

-- a number is in the range of the column's type
abbrev pub FitsNumber : Ty → ℤ → Type 0
FitsNumber Small z = FitsSigned w16 z
FitsNumber Int z = FitsSigned w32 z
FitsNumber Big z = FitsSigned w64 z
FitsNumber Truth z = ⊥
FitsNumber (Chars n) z = ⊥

-- a text is UTF-8, no longer than its column, and its length is a number of two bytes
pub record IsTextWithin (n : ℕ) (t : List ℕ) : Type 0 where
  pub within : length t ≤ n
  pub counted : length t < 256 ^ 2
  pub utf8 : IsUtf8 t

-- a text can stand in the column
abbrev pub FitsText : Ty → List ℕ → Type 0
FitsText Small t = ⊥
FitsText Int t = ⊥
FitsText Big t = ⊥
FitsText Truth t = ⊥
FitsText (Chars n) t = IsTextWithin n t

-- a value is NULL or one that the column's type has
abbrev pub FitsColumn : Value → Ty → Type 0
FitsColumn Null ty = ⊤
FitsColumn (Num z) ty = FitsNumber ty z
FitsColumn (Bool b) ty = ty ≡ Truth
FitsColumn (Text t) ty = FitsText ty t

-- a row has a fitting value for each column
abbrev pub FitsColumns : List Value → List ColumnDef → Type 0
FitsColumns [] [] = ⊤
FitsColumns [] (c ∷ cs) = ⊥
FitsColumns (v ∷ vs) [] = ⊥
FitsColumns (v ∷ vs) (c ∷ cs) = FitsColumn v c.ty × FitsColumns vs cs

-- bytes 0, as many as are asked for
unfoldable pub zeros : ℕ → List ℕ
zeros n = replicate n 0

-- a number's field: two's complement
abbrev pub stored_number : Ty → ℤ → List ℕ
stored_number Small z = bytes_of 2 (cast_unsigned w16 z)
stored_number Int z = bytes_of 4 (cast_unsigned w32 z)
stored_number Big z = bytes_of 8 (cast_unsigned w64 z)
stored_number Truth z = []
stored_number (Chars n) z = []

-- a text's field: its length, its bytes, and 0 up to the column's width
abbrev pub stored_text : Ty → List ℕ → List ℕ
stored_text ty t = bytes_of 2 (length t) ++ (t ++ zeros (field_len ty - 2 - length t))

-- a value as it is stored in a column; NULL is all 0
abbrev pub stored_value : Value → Ty → List ℕ
stored_value Null ty = zeros (column_len ty)
stored_value (Num z) ty = 1 ∷ stored_number ty z
stored_value (Bool b) ty = 1 ∷ (if b then 1 else 0) ∷ []
stored_value (Text t) ty = 1 ∷ stored_text ty t

-- a row as it is stored
abbrev pub stored_row : List Value → List ColumnDef → List ℕ
stored_row [] cs = []
stored_row (v ∷ vs) [] = []
stored_row (v ∷ vs) (c ∷ cs) = stored_value v c.ty ++ stored_row vs cs

-- the bytes are those of a value of the column
pub record IsValue (ty : Ty) (b : List ℕ) (v : Value) : Type 0 where
  pub fits : FitsColumn v ty
  pub stored : b ≡ stored_value v ty

-- the bytes are those of a row of the columns
pub record IsRow (cs : List ColumnDef) (b : List ℕ) (r : List Value) : Type 0 where
  pub fits : FitsColumns r cs
  pub stored : b ≡ stored_row r cs

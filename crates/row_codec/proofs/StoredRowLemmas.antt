-- A stored value has its column's width, and is read in one way.
use Rattle.std.proofs.Common.{◌≡◌, ◌+◌, ◌-◌, ◌^◌, ◌≤◌, ◌<◌, ℕ, zero, suc, ℤ, Bool, true, false, eqb, cond, List, [], ◌∷◌, ◌++◌, length, take, drop, replicate, get_or, slice_index, refl, sym, ap, subst, ◌∙◌, arith, append-nil, append_assoc, length-append}
use Rattle.std.proofs.Math.Facts.{Fits-of_z, Fits-lt-pow}
use Rattle.std.proofs.lemmas.Int.{to_z-of_z}
use Rattle.std.proofs.lemmas.List.{length-replicate, get_or-replicate, same_lists, take_at, drop_at, take-append-drop, get_or_default}
use Rattle.std.specs.Int.{cast_unsigned, cast_signed, w16, w32, w64, Width}
use mir.Val.{bits}
use Rattle.std.specs.Int.RustNames.{FitsSigned}
use Rattle.dby_bytes.specs.Numbers.{bytes_of, number_of}
use Rattle.dby_bytes.proofs.NumbersLemmas.{length-bytes_of, number_of-bytes_of}
use Rattle.dby_types.specs.declared.value.Ty.{Ty}
use Rattle.dby_types.specs.declared.value.Ty.TheVariants.{Small, Int, Big, Bool as Truth, Text as Chars}
use Rattle.dby_types.specs.declared.value.Value.{Value}
use Rattle.dby_types.specs.declared.value.Value.TheVariants.{Null, Num, Bool as Logical, Text}
use Rattle.dby_types.specs.declared.definition.ColumnDef.{ColumnDef}
use Rattle.row_codec.specs.StoredRow.{field_len, column_len, row_len, FitsNumber, FitsText, FitsColumn, FitsColumns, zeros, stored_number, stored_text, stored_value, stored_row, IsValue, IsRow}

pub length-zeros : (n : ℕ) → length (zeros n) ≡ n
unfolding zeros
length-zeros n = length-replicate n 0

-- bytes that are all 0 are zeros
pub zeros_from_each : (b : List ℕ) → ((k : ℕ) → k < length b → slice_index b k ≡ 0) → b ≡ zeros (length b)
unfolding zeros
zeros_from_each b each =
    same_lists b (replicate (length b) 0) (sym (length-replicate (length b) 0))
    (λ k d h. get_or_at_zero k d h)
  where
    get_or_at_zero : (k d : ℕ) → k < length b → get_or b k d ≡ get_or (replicate (length b) 0) k d
    get_or_at_zero k d h = get_or_default b k d 0 h ∙ each k h ∙ sym (get_or-replicate (length b) k 0 d h)

-- each byte of zeros is 0
pub each_of_zeros : (n k : ℕ) → k < n → slice_index (zeros n) k ≡ 0
unfolding zeros
each_of_zeros n k h = get_or-replicate n k 0 0 h

pub zeros-first : (n : ℕ) → zeros (1 + n) ≡ 0 ∷ zeros n
unfolding zeros
zeros-first n = let e : 1 + n ≡ suc n = omega arith in ap (λ (m : ℕ). replicate m 0) e

-- two lists that begin alike in equally many items
pub split_alike : {X : Type 0} → (a b x y : List X) → length a ≡ length b → a ++ x ≡ b ++ y → (a ≡ b) × (x ≡ y)
split_alike a b x y same e = (
  sym (take_at a x (length b) same) ∙ ap (take (length b)) e ∙ take_at b y (length b) refl,
  sym (drop_at a x (length b) same) ∙ ap (drop (length b)) e ∙ drop_at b y (length b) refl,
)

-- the bits of a number that fits
small_bits : (w : Width) (z : ℤ) → FitsSigned w z → (m : ℕ) → 2 ^ bits w ≡ m → cast_unsigned w z < m
small_bits w z fits m e = let h : cast_unsigned w z < 2 ^ bits w = Fits-lt-pow (Fits-of_z fits) in subst (λ (v : ℕ). cast_unsigned w z < v) e h

-- a number is read from its bytes alone
pub number_of-own : (n v : ℕ) → v < 256 ^ n → number_of n (bytes_of n v) ≡ v
number_of-own n v h = ap (number_of n) (sym (append-nil (bytes_of n v))) ∙ number_of-bytes_of n v [] h

-- what a field that isn't NULL reads as
abbrev pub field_value : Ty → List ℕ → Value
field_value Small f = Num (cast_signed w16 (number_of 2 f))
field_value Int f = Num (cast_signed w32 (number_of 4 f))
field_value Big f = Num (cast_signed w64 (number_of 8 f))
field_value Truth f = Logical (eqb (slice_index f 0) 1)
field_value (Chars n) f = Text (take (number_of 2 f) (drop 2 f))

-- what a column's bytes read as
abbrev pub value_of : Ty → List ℕ → Value
value_of ty [] = Null
value_of ty (zero ∷ f) = Null
value_of ty (suc k ∷ f) = field_value ty f

field_value-number : (ty : Ty) (z : ℤ) → FitsNumber ty z → field_value ty (stored_number ty z) ≡ Num z
field_value-number Small z h =
    ap (λ (v : ℕ). Num (cast_signed w16 v)) (number_of-own 2 (cast_unsigned w16 z) (small_bits w16 z h (256 ^ 2) refl)) ∙ ap Num (to_z-of_z w16 z h)
field_value-number Int z h =
    ap (λ (v : ℕ). Num (cast_signed w32 v)) (number_of-own 4 (cast_unsigned w32 z) (small_bits w32 z h (256 ^ 4) refl)) ∙ ap Num (to_z-of_z w32 z h)
field_value-number Big z h =
    ap (λ (v : ℕ). Num (cast_signed w64 v)) (number_of-own 8 (cast_unsigned w64 z) (small_bits w64 z h (256 ^ 8) refl)) ∙ ap Num (to_z-of_z w64 z h)
field_value-number Truth z h = absurd h
field_value-number (Chars n) z h = absurd h

field_value-text : (ty : Ty) (t : List ℕ) → FitsText ty t → field_value ty (stored_text ty t) ≡ Text t
field_value-text Small t h = absurd h
field_value-text Int t h = absurd h
field_value-text Big t h = absurd h
field_value-text Truth t h = absurd h
field_value-text (Chars n) t h =
    let rest : List ℕ = t ++ zeros (2 + n - 2 - length t) in
    let count : number_of 2 (bytes_of 2 (length t) ++ rest) ≡ length t = number_of-bytes_of 2 (length t) rest h.counted in
    let behind : drop 2 (bytes_of 2 (length t) ++ rest) ≡ rest = drop_at (bytes_of 2 (length t)) rest 2 (length-bytes_of 2 (length t)) in
    ap (λ (k : ℕ). Text (take k (drop 2 (bytes_of 2 (length t) ++ rest)))) count
    ∙ ap (λ (m : List ℕ). Text (take (length t) m)) behind
    ∙ ap Text (take_at t (zeros (2 + n - 2 - length t)) (length t) refl)

field_value-truth : (b : Bool) (ty : Ty) → ty ≡ Truth → field_value ty (cond b 1 0 ∷ []) ≡ Logical b
field_value-truth true ty e = ap (λ (u : Ty). field_value u (1 ∷ [])) e
field_value-truth false ty e = ap (λ (u : Ty). field_value u (0 ∷ [])) e

-- what is stored is read
pub value_of-stored : (v : Value) (ty : Ty) → FitsColumn v ty → value_of ty (stored_value v ty) ≡ v
value_of-stored Null ty h = ap (value_of ty) (zeros-first (field_len ty))
value_of-stored (Num z) ty h = field_value-number ty z h
value_of-stored (Logical b) ty h = field_value-truth b ty h
value_of-stored (Text t) ty h = field_value-text ty t h

-- a column's bytes are those of one value
pub same_value : (ty : Ty) (b : List ℕ) (u v : Value) → IsValue ty b u → IsValue ty b v → u ≡ v
same_value ty b u v h k =
    sym (value_of-stored u ty h.fits) ∙ ap (value_of ty) (sym h.stored ∙ k.stored) ∙ value_of-stored v ty k.fits

length-stored_number : (ty : Ty) (z : ℤ) → FitsNumber ty z → length (stored_number ty z) ≡ field_len ty
length-stored_number Small z h = length-bytes_of 2 (cast_unsigned w16 z)
length-stored_number Int z h = length-bytes_of 4 (cast_unsigned w32 z)
length-stored_number Big z h = length-bytes_of 8 (cast_unsigned w64 z)
length-stored_number Truth z h = absurd h
length-stored_number (Chars n) z h = absurd h

length-stored_text : (ty : Ty) (t : List ℕ) → FitsText ty t → length (stored_text ty t) ≡ field_len ty
length-stored_text Small t h = absurd h
length-stored_text Int t h = absurd h
length-stored_text Big t h = absurd h
length-stored_text Truth t h = absurd h
length-stored_text (Chars n) t h =
    let within = h.within in
    omega (arith, within, length-append (bytes_of 2 (length t)) (t ++ zeros (2 + n - 2 - length t)), length-append t (zeros (2 + n - 2 - length t)), length-bytes_of 2 (length t), length-zeros (2 + n - 2 - length t))

-- a stored value has its column's width
pub length-stored_value : (v : Value) (ty : Ty) → FitsColumn v ty → length (stored_value v ty) ≡ column_len ty
length-stored_value Null ty h = length-zeros (1 + field_len ty)
length-stored_value (Num z) ty h = let e = length-stored_number ty z h in omega (arith, e)
length-stored_value (Logical b) ty h = let P : Ty → Type 0 = λ u. 2 ≡ 1 + field_len u in subst P (sym h) refl
length-stored_value (Text t) ty h = let e = length-stored_text ty t h in omega (arith, e)

-- a stored row has the width of its columns
pub length-stored_row : (r : List Value) (cs : List ColumnDef) → FitsColumns r cs → length (stored_row r cs) ≡ row_len cs
length-stored_row [] [] h = refl
length-stored_row [] (c ∷ cs) h = absurd h
length-stored_row (v ∷ r) [] h = absurd h
length-stored_row (v ∷ r) (c ∷ cs) h =
    omega (arith, length-append (stored_value v c.ty) (stored_row r cs), length-stored_value v c.ty h.0, length-stored_row r cs h.1)

-- no stored row begins another one
pub same_row : (r s : List Value) (cs : List ColumnDef) (x y : List ℕ) → FitsColumns r cs → FitsColumns s cs → stored_row r cs ++ x ≡ stored_row s cs ++ y → r ≡ s
same_row [] [] cs x y h k e = refl
same_row [] (u ∷ s) [] x y h k e = absurd k
same_row [] (u ∷ s) (c ∷ cs) x y h k e = absurd h
same_row (v ∷ r) [] [] x y h k e = absurd h
same_row (v ∷ r) [] (c ∷ cs) x y h k e = absurd k
same_row (v ∷ r) (u ∷ s) [] x y h k e = absurd h
same_row (v ∷ r) (u ∷ s) (c ∷ cs) x y h k e =
    let a : List ℕ = stored_value v c.ty in
    let b : List ℕ = stored_value u c.ty in
    let moved : a ++ (stored_row r cs ++ x) ≡ b ++ (stored_row s cs ++ y) =
    sym (append_assoc a (stored_row r cs) x) ∙ e ∙ append_assoc b (stored_row s cs) y in
    let parts = split_alike a b (stored_row r cs ++ x) (stored_row s cs ++ y) (length-stored_value v c.ty h.0 ∙ sym (length-stored_value u c.ty k.0)) moved in
    let first : v ≡ u = same_value c.ty a v u (record { fits = h.0; stored = refl }) (record { fits = k.0; stored = parts.0 }) in
    let others : r ≡ s = same_row r s cs x y h.1 k.1 parts.1 in
    ap (λ (w : Value). w ∷ r) first ∙ ap (λ (t : List Value). u ∷ t) others

-- bytes of a row, without its first column
pub record IsFirst (c : ColumnDef) (cs : List ColumnDef) (b : List ℕ) (r : List Value) : Type 0 where
  pub value : Value
  pub rest : List Value
  pub is : r ≡ value ∷ rest
  pub first : IsValue c.ty (take (column_len c.ty) b) value
  pub others : IsRow cs (drop (column_len c.ty) b) rest
  pub room : column_len c.ty ≤ length b

pub IsFirst-from_row : (c : ColumnDef) (cs : List ColumnDef) (b : List ℕ) (r : List Value) → IsRow (c ∷ cs) b r → IsFirst c cs b r
IsFirst-from_row c cs b [] h = absurd h.fits
IsFirst-from_row c cs b (v ∷ r) h =
    let a : List ℕ = stored_value v c.ty in
    let n : length a ≡ column_len c.ty = length-stored_value v c.ty h.fits.0 in
    let whole : length b ≡ length (a ++ stored_row r cs) = ap length h.stored in
    record {
      value = v;
      rest = r;
      is = refl;
      first = record { fits = h.fits.0; stored = ap (take (column_len c.ty)) h.stored ∙ take_at a (stored_row r cs) (column_len c.ty) n };
      others = record { fits = h.fits.1; stored = ap (drop (column_len c.ty)) h.stored ∙ drop_at a (stored_row r cs) (column_len c.ty) n };
      room = omega (arith, whole, n, length-append a (stored_row r cs));
    }

pub IsRow-more : (c : ColumnDef) (cs : List ColumnDef) (b : List ℕ) (v : Value) (r : List Value) → IsValue c.ty (take (column_len c.ty) b) v → IsRow cs (drop (column_len c.ty) b) r → IsRow (c ∷ cs) b (v ∷ r)
IsRow-more c cs b v r first others =
    record {
      fits = (first.fits, others.fits);
      stored =
          sym (take-append-drop (column_len c.ty) b)
          ∙ ap (λ (m : List ℕ). m ++ drop (column_len c.ty) b) first.stored
          ∙ ap (λ (m : List ℕ). stored_value v c.ty ++ m) others.stored;
    }

-- a row of no columns is no bytes
pub IsRow-none : (b : List ℕ) (r : List Value) → IsRow [] b r → (r ≡ []) × (b ≡ [])
IsRow-none b [] h = (refl, h.stored)
IsRow-none b (v ∷ r) h = absurd h.fits

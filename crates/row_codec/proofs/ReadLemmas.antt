-- What the bytes of a column read as.
use Rattle.std.proofs.Common.{◌≡◌, ◌≢◌, ◌+◌, ◌-◌, ◌^◌, ◌≤◌, ◌<◌, ℕ, zero, suc, ℤ, true, false, eqb, List, [], ◌∷◌, ◌++◌, length, take, drop, slice_index, refl, sym, ap, subst, ◌∙◌, arith, length-drop}
use Rattle.std.proofs.lemmas.Int.{to_z-of_z, of_z-to_z}
use Rattle.std.proofs.lemmas.List.{take_at, drop_at, drop-drop, take-append-drop, length-take-le}
use Rattle.std.specs.Int.{cast_unsigned, cast_signed, w16, w32, w64, Width}
use Rattle.std.specs.Int.RustNames.{FitsSigned}
use Rattle.std.specs.Str.{IsUtf8}
use mir.Val.{bits}
use Rattle.dby_bytes.specs.Numbers.{IsBytes, bytes_of, number_of, number_at}
use Rattle.dby_bytes.proofs.NumbersLemmas.{length-bytes_of, first_and_number, number_at-append, number_of-bytes_of, bytes_of-number_of}
use Rattle.dby_types.specs.declared.value.Ty.{Ty}
use Rattle.dby_types.specs.declared.value.Ty.TheVariants.{Small, Int, Big, Bool as Truth, Text as Chars}
use Rattle.dby_types.specs.declared.value.Value.{Value}
use Rattle.dby_types.specs.declared.value.Value.TheVariants.{Null, Num, Bool as Logical, Text}
use Rattle.row_codec.specs.StoredRow.{column_len, IsTextWithin, zeros, stored_number, IsValue}
use Rattle.row_codec.proofs.StoredRowLemmas.{length-zeros, zeros_from_each, each_of_zeros}

-- the bytes of a number whose bits stand behind the flag
number_read : (w : Width) (n : ℕ) (b : List ℕ) (v : ℕ) (s : ℤ) → IsBytes b → length b ≡ 1 + n → slice_index b 0 ≡ 1 → v ≡ number_at n b 1 → v < 2 ^ bits w → s ≡ cast_signed w v → b ≡ 1 ∷ bytes_of n (cast_unsigned w s)
number_read w n b v s h room flag got small is =
    first_and_number n 1 b h room flag
    ∙ ap (λ (m : ℕ). 1 ∷ bytes_of n m) (sym got ∙ sym (of_z-to_z w v small) ∙ ap (cast_unsigned w) (sym is))

pub small_read : (ty : Ty) (b : List ℕ) (v : ℕ) (s f : ℤ) → ty ≡ Small → IsBytes b → length b ≡ column_len ty → slice_index b 0 ≡ 1 → v ≡ number_at 2 b 1 → v < 65536 → s ≡ cast_signed w16 v → FitsSigned w16 s → FitsSigned w64 f → f ≡ cast_signed w16 (cast_unsigned w16 s) → IsValue ty b (Num (cast_signed w64 (cast_unsigned w64 f)))
small_read ty b v s f is h room flag got small signed fits wide sent =
    let same : cast_signed w64 (cast_unsigned w64 f) ≡ s = to_z-of_z w64 f wide ∙ sent ∙ to_z-of_z w16 s fits in
    let bytes : b ≡ 1 ∷ stored_number Small s = number_read w16 2 b v s h (room ∙ ap column_len is) flag got small signed in
    subst (λ (x : ℤ). IsValue ty b (Num x)) (sym same) (subst (λ (t : Ty). IsValue t b (Num s)) (sym is) (record { fits = fits; stored = bytes }))

pub int_read : (ty : Ty) (b : List ℕ) (v : ℕ) (s f : ℤ) → ty ≡ Int → IsBytes b → length b ≡ column_len ty → slice_index b 0 ≡ 1 → v ≡ number_at 4 b 1 → v < 4294967296 → s ≡ cast_signed w32 v → FitsSigned w32 s → FitsSigned w64 f → f ≡ cast_signed w32 (cast_unsigned w32 s) → IsValue ty b (Num (cast_signed w64 (cast_unsigned w64 f)))
int_read ty b v s f is h room flag got small signed fits wide sent =
    let same : cast_signed w64 (cast_unsigned w64 f) ≡ s = to_z-of_z w64 f wide ∙ sent ∙ to_z-of_z w32 s fits in
    let bytes : b ≡ 1 ∷ stored_number Int s = number_read w32 4 b v s h (room ∙ ap column_len is) flag got small signed in
    subst (λ (x : ℤ). IsValue ty b (Num x)) (sym same) (subst (λ (t : Ty). IsValue t b (Num s)) (sym is) (record { fits = fits; stored = bytes }))

pub big_read : (ty : Ty) (b : List ℕ) (v : ℕ) (s : ℤ) → ty ≡ Big → IsBytes b → length b ≡ column_len ty → slice_index b 0 ≡ 1 → v ≡ number_at 8 b 1 → v < 18446744073709551616 → s ≡ cast_signed w64 v → FitsSigned w64 s → IsValue ty b (Num (cast_signed w64 (cast_unsigned w64 s)))
big_read ty b v s is h room flag got small signed fits =
    let bytes : b ≡ 1 ∷ stored_number Big s = number_read w64 8 b v s h (room ∙ ap column_len is) flag got small signed in
    subst (λ (x : ℤ). IsValue ty b (Num x)) (sym (to_z-of_z w64 s fits)) (subst (λ (t : Ty). IsValue t b (Num s)) (sym is) (record { fits = fits; stored = bytes }))

-- bytes that begin with 1 or are all 0 are the only ones of a value
pub no_value : (ty : Ty) (b : List ℕ) (v : Value) → slice_index b 0 ≢ 1 → (((k : ℕ) → k < length b → slice_index b k ≡ 0) → ⊥) → IsValue ty b v → ⊥
no_value ty b Null flag mixed h =
    let n : length b ≡ column_len ty = ap length h.stored ∙ length-zeros (column_len ty) in
    mixed (λ k l. ap (λ (m : List ℕ). slice_index m k) h.stored ∙ each_of_zeros (column_len ty) k (omega (arith, n)))
no_value ty b (Num z) flag mixed h = flag (ap (λ (m : List ℕ). slice_index m 0) h.stored)
no_value ty b (Logical t) flag mixed h = flag (ap (λ (m : List ℕ). slice_index m 0) h.stored)
no_value ty b (Text t) flag mixed h = flag (ap (λ (m : List ℕ). slice_index m 0) h.stored)

pub null_read : (ty : Ty) (b : List ℕ) → length b ≡ column_len ty → ((k : ℕ) → k < length b → slice_index b k ≡ 0) → IsValue ty b Null
null_read ty b room each = record { fits = tt; stored = zeros_from_each b each ∙ ap zeros room }

-- a value that isn't NULL begins with 1
not_null : (ty : Ty) (b : List ℕ) → slice_index b 0 ≡ 1 → b ≡ zeros (column_len ty) → ⊥
not_null ty b flag e =
    let z : slice_index b 0 ≡ 0 = ap (λ (m : List ℕ). slice_index m 0) e ∙ each_of_zeros (column_len ty) 0 (omega arith) in
    omega (arith, z, flag)

pub truth_read : (b : List ℕ) → length b ≡ 2 → slice_index b 0 ≡ 1 → slice_index b 1 ≤ 1 → IsValue Truth b (Logical (eqb (slice_index b 1) 1))
truth_read [] room flag small = absurd (omega arith)
truth_read (x ∷ []) room flag small = absurd (omega arith)
truth_read (x ∷ y ∷ z ∷ b) room flag small = absurd (omega arith)
truth_read (x ∷ zero ∷ []) room flag small = record { fits = refl; stored = ap (λ (m : ℕ). m ∷ 0 ∷ []) flag }
truth_read (x ∷ suc zero ∷ []) room flag small = record { fits = refl; stored = ap (λ (m : ℕ). m ∷ 1 ∷ []) flag }
truth_read (x ∷ suc (suc y) ∷ []) room flag small = absurd (omega arith)

pub no_truth : (b : List ℕ) (v : Value) → slice_index b 0 ≡ 1 → 1 < slice_index b 1 → IsValue Truth b v → ⊥
no_truth b Null flag large h = not_null Truth b flag h.stored
no_truth b (Num z) flag large h = h.fits
no_truth b (Logical true) flag large h = let e : slice_index b 1 ≡ 1 = ap (λ (m : List ℕ). slice_index m 1) h.stored in omega (arith, e, large)
no_truth b (Logical false) flag large h = let e : slice_index b 1 ≡ 0 = ap (λ (m : List ℕ). slice_index m 1) h.stored in omega (arith, e, large)
no_truth b (Text t) flag large h = h.fits

-- what the bytes of a text's column say
pub record IsTextRead (n : ℕ) (b : List ℕ) (v : Value) : Type 0 where
  pub text : List ℕ
  pub is : v ≡ Text text
  pub fits : IsTextWithin n text
  pub count : number_at 2 b 1 ≡ length text
  pub own : take (length text) (drop 3 b) ≡ text
  pub behind : drop (3 + length text) b ≡ zeros (n - length text)

pub text_of : (n : ℕ) (b : List ℕ) (v : Value) → slice_index b 0 ≡ 1 → IsValue (Chars n) b v → IsTextRead n b v
text_of n b Null flag h = absurd (not_null (Chars n) b flag h.stored)
text_of n b (Num z) flag h = absurd h.fits
text_of n b (Logical t) flag h = absurd (chars_truth n h.fits)
  where
    chars_truth : (m : ℕ) → Chars m ≡ Truth → ⊥
    chars_truth m e = cc
text_of n b (Text t) flag h =
    let pad : List ℕ = zeros (2 + n - 2 - length t) in
    let front : List ℕ = 1 ∷ bytes_of 2 (length t) in
    let n3 : length front ≡ 3 = ap suc (length-bytes_of 2 (length t)) in
    let whole : b ≡ front ++ (t ++ pad) = h.stored in
    let body : drop 3 b ≡ t ++ pad = ap (drop 3) whole ∙ drop_at front (t ++ pad) 3 n3 in
    record {
      text = t;
      is = refl;
      fits = h.fits;
      count =
          ap (λ (m : List ℕ). number_at 2 m 1) whole
          ∙ number_at-append 2 (1 ∷ []) (bytes_of 2 (length t) ++ (t ++ pad)) 1 refl ∙ number_of-bytes_of 2 (length t) (t ++ pad) h.fits.counted;
      own = ap (take (length t)) body ∙ take_at t pad (length t) refl;
      behind =
          sym (drop-drop (length t) 3 b) ∙ ap (drop (length t)) body ∙ drop_at t pad (length t) refl
          ∙ ap zeros (let e : 2 + n - 2 - length t ≡ n - length t = omega arith in e);
    }

pub text_read : (n len : ℕ) (b t : List ℕ) → IsBytes b → length b ≡ column_len (Chars n) → slice_index b 0 ≡ 1 → len ≡ number_at 2 b 1 → len < 65536 → len ≤ n → IsUtf8 t → t ≡ take len (drop 3 b) → ((k : ℕ) → k < length (drop (3 + len) b) → slice_index (drop (3 + len) b) k ≡ 0) → IsValue (Chars n) b (Text t)
text_read n len [] t h room flag got small within utf8 is each = absurd (omega arith)
text_read n len (x ∷ xs) t h room flag got small within utf8 is each =
    let b : List ℕ = x ∷ xs in
    let rest : length (drop 3 b) ≡ n = omega (arith, length-drop 3 b) in
    let own : length t ≡ len = ap length is ∙ length-take-le len (drop 3 b) (omega (arith, rest)) in
    let pad : drop (3 + len) b ≡ zeros (2 + n - 2 - length t) =
    zeros_from_each (drop (3 + len) b) each ∙ ap zeros (let e : length (drop (3 + len) b) ≡ 2 + n - 2 - length t = omega (arith, own, length-drop (3 + len) b) in e) in
    let number : number_at 2 b 1 ≡ number_of 2 xs = number_at-append 2 (x ∷ []) xs 1 refl in
    let count : bytes_of 2 (length t) ≡ take 2 xs =
    ap (bytes_of 2) (own ∙ got ∙ number) ∙ bytes_of-number_of 2 xs (λ k. h (suc k)) (omega arith) in
    let body : drop 2 xs ≡ t ++ zeros (2 + n - 2 - length t) =
    sym (take-append-drop len (drop 2 xs))
    ∙ ap (λ (m : List ℕ). m ++ drop len (drop 2 xs)) (sym is)
    ∙ ap (λ (m : List ℕ). t ++ m) (drop-drop len 3 b ∙ pad) in
    record {
      fits = record { within = omega (arith, own); counted = omega (arith, own); utf8 = utf8 };
      stored =
          ap (λ (m : ℕ). m ∷ xs) flag
          ∙ ap (λ (m : List ℕ). 1 ∷ m) (sym (take-append-drop 2 xs) ∙ ap (λ (m : List ℕ). m ++ drop 2 xs) (sym count) ∙ ap (λ (m : List ℕ). bytes_of 2 (length t) ++ m) body);
    }

-- a text whose length is above its column's is none
pub no_text_long : (n len : ℕ) (b : List ℕ) (v : Value) → slice_index b 0 ≡ 1 → len ≡ number_at 2 b 1 → n < len → IsValue (Chars n) b v → ⊥
no_text_long n len b v flag got long h =
    let t = text_of n b v flag h in
    omega (arith, t.count, t.fits.within, got, long)

-- nor one with a byte behind its length
pub no_text_padded : (n len : ℕ) (b : List ℕ) (v : Value) → slice_index b 0 ≡ 1 → len ≡ number_at 2 b 1 → (((k : ℕ) → k < length (drop (3 + len) b) → slice_index (drop (3 + len) b) k ≡ 0) → ⊥) → IsValue (Chars n) b v → ⊥
no_text_padded n len b v flag got mixed h =
    let t = text_of n b v flag h in
    let same : len ≡ length t.text = got ∙ t.count in
    let pad : drop (3 + len) b ≡ zeros (n - length t.text) = ap (λ (k : ℕ). drop (3 + k) b) same ∙ t.behind in
    mixed (λ k l. ap (λ (m : List ℕ). slice_index m k) pad ∙ each_of_zeros (n - length t.text) k (omega (arith, l, ap length pad, length-zeros (n - length t.text))))

-- nor one that isn't UTF-8
pub no_text_broken : (n len : ℕ) (b : List ℕ) (v : Value) → slice_index b 0 ≡ 1 → len ≡ number_at 2 b 1 → (IsUtf8 (take (3 + len - 3) (drop 3 b)) → ⊥) → IsValue (Chars n) b v → ⊥
no_text_broken n len b v flag got broken h =
    let t = text_of n b v flag h in
    let same : len ≡ length t.text = got ∙ t.count in
    let part : take (3 + len - 3) (drop 3 b) ≡ t.text = ap (λ (k : ℕ). take k (drop 3 b)) (let e : 3 + len - 3 ≡ length t.text = omega (arith, same) in e) ∙ t.own in
    broken (subst IsUtf8 (sym part) t.fits.utf8)

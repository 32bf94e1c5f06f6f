-- What writing the bytes of a column leaves.
use Rattle.std.proofs.Common.{◌≡◌, ◌+◌, ◌-◌, ℕ, suc, ℤ, Bool, true, false, cond, List, [], ◌∷◌, ◌++◌, length, take, drop, set, replicate, refl, sym, ap, subst, ◌∙◌, arith}
use Rattle.std.proofs.lemmas.Int.{to_z-of_z}
use Rattle.std.proofs.lemmas.List.{replicate-append-replicate, drop-replicate, take_at, drop_at}
use Rattle.std.specs.Int.{cast_unsigned, cast_signed, w16, w32, w64, Width}
use Rattle.std.specs.Int.RustNames.{FitsSigned}
use Rattle.dby_bytes.specs.Numbers.{bytes_of, with_number}
use Rattle.dby_bytes.proofs.NumbersLemmas.{length-bytes_of, first_and_written, with_number-append}
use mir.Val.{bool_byte}
use Rattle.dby_types.specs.declared.value.Ty.{Ty}
use Rattle.dby_types.specs.declared.value.Ty.TheVariants.{Small, Int, Big, Bool as Truth, Text as Chars}
use Rattle.dby_types.specs.declared.value.Value.{Value}
use Rattle.dby_types.specs.declared.value.Value.TheVariants.{Null, Bool as Logical}
use Rattle.row_codec.specs.StoredRow.{column_len, FitsNumber, FitsText, FitsColumn, zeros, stored_number, stored_text, stored_value}

-- a number of 64 bits that is sent through a narrower type which it fits
narrowed : (w : Width) (z : ℤ) (v : ℕ) → FitsSigned w64 z → FitsSigned w z → v ≡ cast_unsigned w (cast_signed w (cast_unsigned w (cast_signed w64 (cast_unsigned w64 z)))) → v ≡ cast_unsigned w z
narrowed w z v big fits sent =
    sent ∙ ap (λ (x : ℤ). cast_unsigned w (cast_signed w (cast_unsigned w x))) (to_z-of_z w64 z big) ∙ ap (cast_unsigned w) (to_z-of_z w z fits)

pub small_written : (ty : Ty) (z : ℤ) (into new : List ℕ) (v : ℕ) → ty ≡ Small → FitsNumber ty z → length into ≡ column_len ty → FitsSigned w64 z → v ≡ cast_unsigned w16 (cast_signed w16 (cast_unsigned w16 (cast_signed w64 (cast_unsigned w64 z)))) → new ≡ with_number 2 (set into 0 1) 1 v → new ≡ 1 ∷ stored_number ty z
small_written ty z into new v is fits room big sent wrote =
    let f : FitsSigned w16 z = subst (λ (t : Ty). FitsNumber t z) is fits in
    wrote ∙ ap (with_number 2 (set into 0 1) 1) (narrowed w16 z v big f sent)
    ∙ first_and_written 2 1 (cast_unsigned w16 z) into (room ∙ ap column_len is) ∙ ap (λ (t : Ty). 1 ∷ stored_number t z) (sym is)

pub int_written : (ty : Ty) (z : ℤ) (into new : List ℕ) (v : ℕ) → ty ≡ Int → FitsNumber ty z → length into ≡ column_len ty → FitsSigned w64 z → v ≡ cast_unsigned w32 (cast_signed w32 (cast_unsigned w32 (cast_signed w64 (cast_unsigned w64 z)))) → new ≡ with_number 4 (set into 0 1) 1 v → new ≡ 1 ∷ stored_number ty z
int_written ty z into new v is fits room big sent wrote =
    let f : FitsSigned w32 z = subst (λ (t : Ty). FitsNumber t z) is fits in
    wrote ∙ ap (with_number 4 (set into 0 1) 1) (narrowed w32 z v big f sent)
    ∙ first_and_written 4 1 (cast_unsigned w32 z) into (room ∙ ap column_len is) ∙ ap (λ (t : Ty). 1 ∷ stored_number t z) (sym is)

pub big_written : (ty : Ty) (z : ℤ) (into new : List ℕ) (v : ℕ) → ty ≡ Big → length into ≡ column_len ty → FitsSigned w64 z → v ≡ cast_unsigned w64 (cast_signed w64 (cast_unsigned w64 z)) → new ≡ with_number 8 (set into 0 1) 1 v → new ≡ 1 ∷ stored_number ty z
big_written ty z into new v is room big sent wrote =
    wrote ∙ ap (with_number 8 (set into 0 1) 1) (sent ∙ ap (cast_unsigned w64) (to_z-of_z w64 z big))
    ∙ first_and_written 8 1 (cast_unsigned w64 z) into (room ∙ ap column_len is) ∙ ap (λ (t : Ty). 1 ∷ stored_number t z) (sym is)

pub null_written : (ty : Ty) (v : Value) (into new : List ℕ) → v ≡ Null → length into ≡ column_len ty → new ≡ replicate (length into) 0 → new ≡ stored_value v ty
unfolding zeros
null_written ty v into new is room filled =
    filled ∙ ap (λ (n : ℕ). replicate n 0) room ∙ ap (λ (u : Value). stored_value u ty) (sym is)

byte_is : (b : Bool) → bool_byte b ≡ cond b 1 0
byte_is true = refl
byte_is false = refl

pub truth_written : (ty : Ty) (v : Value) (b : Bool) (into : List ℕ) (byte : ℕ) → v ≡ Logical b → FitsColumn v ty → length into ≡ column_len ty → byte ≡ bool_byte b → set (set into 0 1) 1 byte ≡ stored_value v ty
truth_written ty v b into byte is fits room e =
    let t : ty ≡ Truth = subst (λ (u : Value). FitsColumn u ty) is fits in
    two into (room ∙ ap column_len t) ∙ ap (λ (m : ℕ). 1 ∷ m ∷ []) (e ∙ byte_is b) ∙ ap (λ (u : Value). stored_value u ty) (sym is)
  where
    two : (xs : List ℕ) → length xs ≡ 2 → set (set xs 0 1) 1 byte ≡ 1 ∷ byte ∷ []
    two [] h = absurd (omega arith)
    two (x ∷ []) h = absurd (omega arith)
    two (x ∷ y ∷ []) h = refl
    two (x ∷ y ∷ z ∷ xs) h = absurd (omega arith)

-- a text that is written over bytes 0
text_over : (n : ℕ) (t into filled counted : List ℕ) → length into ≡ 1 + (2 + n) → filled ≡ replicate (length into) 0 → counted ≡ with_number 2 (set filled 0 1) 1 (length t) → take 3 counted ++ (t ++ drop (3 + length t - 3) (drop 3 counted)) ≡ 1 ∷ stored_text (Chars n) t
unfolding zeros
text_over n t into filled counted room f e =
    let front : List ℕ = 1 ∷ bytes_of 2 (length t) in
    let n3 : length front ≡ 3 = ap suc (length-bytes_of 2 (length t)) in
    let all : 1 + (2 + n) ≡ suc (2 + n) = omega arith in
    let first : filled ≡ 0 ∷ (replicate 2 0 ++ replicate n 0) =
    f ∙ ap (λ (m : ℕ). replicate m 0) (room ∙ all) ∙ ap (λ (m : List ℕ). 0 ∷ m) (sym (replicate-append-replicate 2 n 0)) in
    let got : counted ≡ front ++ replicate n 0 =
    e ∙ ap (λ (m : List ℕ). with_number 2 (set m 0 1) 1 (length t)) first
    ∙ with_number-append 2 (1 ∷ []) (replicate 2 0) (replicate n 0) 1 (length t) refl refl in
    let start : take 3 counted ≡ front = ap (take 3) got ∙ take_at front (replicate n 0) 3 n3 in
    let behind : drop 3 counted ≡ replicate n 0 = ap (drop 3) got ∙ drop_at front (replicate n 0) 3 n3 in
    let skip : 3 + length t - 3 ≡ length t = omega arith in
    let left : n - length t ≡ 2 + n - 2 - length t = omega arith in
    let end : drop (3 + length t - 3) (drop 3 counted) ≡ replicate (2 + n - 2 - length t) 0 =
    ap (λ (k : ℕ). drop k (drop 3 counted)) skip ∙ ap (drop (length t)) behind ∙ drop-replicate (length t) n 0 ∙ ap (λ (k : ℕ). replicate k 0) left in
    ap (λ (m : List ℕ). m ++ (t ++ drop (3 + length t - 3) (drop 3 counted))) start ∙ ap (λ (m : List ℕ). front ++ (t ++ m)) end

pub text_written : (ty : Ty) (t into filled counted : List ℕ) → FitsText ty t → length into ≡ column_len ty → filled ≡ replicate (length into) 0 → counted ≡ with_number 2 (set filled 0 1) 1 (length t) → take 3 counted ++ (t ++ drop (3 + length t - 3) (drop 3 counted)) ≡ 1 ∷ stored_text ty t
text_written Small t into filled counted h room f e = absurd h
text_written Int t into filled counted h room f e = absurd h
text_written Big t into filled counted h room f e = absurd h
text_written Truth t into filled counted h room f e = absurd h
text_written (Chars n) t into filled counted h room f e = text_over n t into filled counted room f e

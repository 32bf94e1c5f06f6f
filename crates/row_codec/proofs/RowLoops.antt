-- One column more, in writing a row and in reading one.
use Rattle.std.proofs.Common.{◌≡◌, ◌+◌, ◌-◌, ◌≤◌, ◌<◌, ℕ, suc, List, [], ◌∷◌, ◌++◌, length, take, drop, get_or, refl, sym, ap, subst, ◌∙◌, arith, append-nil, append_assoc, length-append, length-drop}
use Rattle.std.proofs.lemmas.List.{drop_more, drop-drop, drop_all, take-append-drop, length-take-le}
use Rattle.std.proofs.lemmas.Slice.{take-put_mid, drop-put_mid}
use borrow.Rule.Slice.PartMut.{put_mid}
use Rattle.dby_types.specs.declared.value.Value.{Value}
use Rattle.dby_types.specs.declared.definition.ColumnDef.{ColumnDef}
use Rattle.row_codec.specs.StoredRow.{column_len, row_len, FitsColumn, FitsColumns, stored_value, stored_row, IsValue, IsRow}
use Rattle.row_codec.proofs.StoredRowLemmas.{length-stored_value, same_value, IsFirst, IsFirst-from_row, IsRow-more, IsRow-none}

-- a row that fits has a value for each column
pub length-fits : (vs : List Value) (cs : List ColumnDef) → FitsColumns vs cs → length vs ≡ length cs
length-fits [] [] h = refl
length-fits [] (c ∷ cs) h = absurd h
length-fits (v ∷ vs) [] h = absurd h
length-fits (v ∷ vs) (c ∷ cs) h = ap (λ (n : ℕ). suc n) (length-fits vs cs h.1)

-- the next value and column
pub record IsNext (vs : List Value) (cs : List ColumnDef) (i : ℕ) (v : Value) (c : ColumnDef) : Type 0 where
  pub values : drop i vs ≡ v ∷ drop (i + 1) vs
  pub columns : drop i cs ≡ c ∷ drop (i + 1) cs
  pub fits : FitsColumn v c.ty
  pub others : FitsColumns (drop (i + 1) vs) (drop (i + 1) cs)

pub next_column : (cs : List ColumnDef) (i : ℕ) (c : ColumnDef) → i < length cs → c ≡ get_or cs i c → drop i cs ≡ c ∷ drop (i + 1) cs
next_column cs i c h is = drop_more cs i c h ∙ ap (λ (d : ColumnDef). d ∷ drop (i + 1) cs) (sym is)

pub in_values : (vs : List Value) (cs : List ColumnDef) (i : ℕ) → i < length cs → FitsColumns (drop i vs) (drop i cs) → i < length vs
in_values vs cs i h fits =
    let e : length (drop i vs) ≡ length (drop i cs) = length-fits (drop i vs) (drop i cs) fits in
    omega (arith, e, length-drop i vs, length-drop i cs)

pub IsNext-from : (vs : List Value) (cs : List ColumnDef) (i : ℕ) (v : Value) (c : ColumnDef) → i < length cs → v ≡ get_or vs i v → c ≡ get_or cs i c → FitsColumns (drop i vs) (drop i cs) → IsNext vs cs i v c
IsNext-from vs cs i v c h vis cis fits =
    let p : drop i vs ≡ v ∷ drop (i + 1) vs = drop_more vs i v (in_values vs cs i h fits) ∙ ap (λ (d : Value). d ∷ drop (i + 1) vs) (sym vis) in
    let q : drop i cs ≡ c ∷ drop (i + 1) cs = next_column cs i c h cis in
    let f : FitsColumns (v ∷ drop (i + 1) vs) (drop i cs) = subst (λ (s : List Value). FitsColumns s (drop i cs)) p fits in
    let g : FitsColumns (v ∷ drop (i + 1) vs) (c ∷ drop (i + 1) cs) = subst (λ (s : List ColumnDef). FitsColumns (v ∷ drop (i + 1) vs) s) q f in
    record { values = p; columns = q; fits = g.0; others = g.1 }

pub place_more : (vs : List Value) (cs : List ColumnDef) (i at : ℕ) (v : Value) (c : ColumnDef) → IsNext vs cs i v c → at + row_len (drop i cs) ≡ row_len cs → at + column_len c.ty + row_len (drop (i + 1) cs) ≡ row_len cs
place_more vs cs i at v c next place =
    let e : row_len (drop i cs) ≡ column_len c.ty + row_len (drop (i + 1) cs) = ap row_len next.columns in
    omega (arith, e, place)

-- the bytes after one value more
pub record HasWritten (vs : List Value) (cs : List ColumnDef) (i at : ℕ) (first into : List ℕ) : Type 0 where
  pub done : take at into ++ stored_row (drop i vs) (drop i cs) ≡ stored_row vs cs
  pub behind : drop at into ≡ drop at first
  pub room : length into ≡ length first

pub HasWritten-more : (vs : List Value) (cs : List ColumnDef) (i at : ℕ) (first into wrote : List ℕ) (v : Value) (c : ColumnDef) → IsNext vs cs i v c → at + row_len (drop i cs) ≡ row_len cs → row_len cs ≤ length first → HasWritten vs cs i at first into → wrote ≡ stored_value v c.ty → HasWritten vs cs (i + 1) (at + column_len c.ty) first (put_mid at (at + column_len c.ty - at) into wrote)
HasWritten-more vs cs i at first into wrote v c next place fit had is =
    let w : ℕ = column_len c.ty in
    let n : length wrote ≡ column_len c.ty = ap length is ∙ length-stored_value v c.ty next.fits in
    let k : at + column_len c.ty - at ≡ column_len c.ty = omega arith in
    let more = place_more vs cs i at v c next place in
    let inside : at + column_len c.ty ≤ length into = omega (arith, more, fit, had.room) in
    let front : take (at + column_len c.ty) (put_mid at (at + column_len c.ty - at) into wrote) ≡ take at into ++ wrote =
    take-put_mid at (at + column_len c.ty - at) into wrote (at + column_len c.ty) (omega (arith, n)) (omega (arith, inside)) in
    let left : drop (at + column_len c.ty) (put_mid at (at + column_len c.ty - at) into wrote) ≡ drop (at + column_len c.ty) into =
    drop-put_mid at (at + column_len c.ty - at) into wrote (at + column_len c.ty) (omega (arith, k)) (omega (arith, inside)) (n ∙ sym k) in
    let rest : List ℕ = stored_row (drop (i + 1) vs) (drop (i + 1) cs) in
    let here : stored_row (drop i vs) (drop i cs) ≡ stored_value v c.ty ++ stored_row (drop (i + 1) vs) (drop (i + 1) cs) =
    ap (λ (s : List Value). stored_row s (drop i cs)) next.values ∙ ap (λ (s : List ColumnDef). stored_row (v ∷ drop (i + 1) vs) s) next.columns in
    let total : length (put_mid at (at + column_len c.ty - at) into wrote) ≡ length into =
    ap length (sym (take-append-drop (at + column_len c.ty) (put_mid at (at + column_len c.ty - at) into wrote)))
    ∙ length-append (take (at + column_len c.ty) (put_mid at (at + column_len c.ty - at) into wrote)) (drop (at + column_len c.ty) (put_mid at (at + column_len c.ty - at) into wrote))
    ∙ omega (arith, ap length front, ap length left, length-append (take at into) wrote, length-take-le at into (omega (arith, inside)), length-drop (at + column_len c.ty) into, n, inside) in
    record {
      done =
          ap (λ (m : List ℕ). m ++ rest) front ∙ append_assoc (take at into) wrote rest
          ∙ ap (λ (m : List ℕ). take at into ++ (m ++ rest)) is ∙ ap (λ (m : List ℕ). take at into ++ m) (sym here) ∙ had.done;
      behind =
          left ∙ sym (drop-drop (column_len c.ty) at into) ∙ ap (drop (column_len c.ty)) had.behind ∙ drop-drop (column_len c.ty) at first;
      room = total ∙ had.room;
    }

-- the bytes after the last value
pub HasWritten-all : (vs : List Value) (cs : List ColumnDef) (i at : ℕ) (first into : List ℕ) → length cs ≤ i → FitsColumns (drop i vs) (drop i cs) → at + row_len (drop i cs) ≡ row_len cs → HasWritten vs cs i at first into → into ≡ stored_row vs cs ++ drop (row_len cs) first
HasWritten-all vs cs i at first into end fits place had =
    let none : drop i cs ≡ [] = drop_all i cs end in
    let novalue : drop i vs ≡ [] = empty (drop i vs) (subst (λ (s : List ColumnDef). FitsColumns (drop i vs) s) none fits) in
    let nothing : stored_row (drop i vs) (drop i cs) ≡ [] = ap (λ (s : List Value). stored_row s (drop i cs)) novalue in
    let whole : take at into ≡ stored_row vs cs = sym (append-nil (take at into)) ∙ ap (λ (m : List ℕ). take at into ++ m) (sym nothing) ∙ had.done in
    let there : at ≡ row_len cs = omega (arith, place, ap row_len none) in
    sym (take-append-drop at into) ∙ ap (λ (m : List ℕ). m ++ drop at into) whole ∙ ap (λ (m : List ℕ). stored_row vs cs ++ m) (had.behind ∙ ap (λ (n : ℕ). drop n first) there)
  where
    empty : (s : List Value) → FitsColumns s [] → s ≡ []
    empty [] h = refl
    empty (v ∷ s) h = absurd h

-- what is left of the bytes is what is left of the row
pub record HasRead (cs : List ColumnDef) (b : List ℕ) (i at : ℕ) (read : List Value) : Type 0 where
  pub whole : (s : List Value) → IsRow (drop i cs) (drop at b) s → IsRow cs b (read ++ s)
  pub only : (r : List Value) → IsRow cs b r → (s : List Value) × ((r ≡ read ++ s) × IsRow (drop i cs) (drop at b) s)

-- the rest of a row, without its next column
pub rest_first : (cs : List ColumnDef) (b : List ℕ) (i at : ℕ) (c : ColumnDef) (s : List Value) → drop i cs ≡ c ∷ drop (i + 1) cs → IsRow (drop i cs) (drop at b) s → IsFirst c (drop (i + 1) cs) (drop at b) s
rest_first cs b i at c s is h = IsFirst-from_row c (drop (i + 1) cs) (drop at b) s (subst (λ (m : List ColumnDef). IsRow m (drop at b) s) is h)

pub HasRead-more : (cs : List ColumnDef) (b : List ℕ) (i at : ℕ) (read now : List Value) (v : Value) (c : ColumnDef) → drop i cs ≡ c ∷ drop (i + 1) cs → now ≡ read ++ v ∷ [] → IsValue c.ty (take (column_len c.ty) (drop at b)) v → HasRead cs b i at read → HasRead cs b (i + 1) (at + column_len c.ty) now
HasRead-more cs b i at read now v c is grown value had =
    let w : ℕ = column_len c.ty in
    let further : drop (column_len c.ty) (drop at b) ≡ drop (at + column_len c.ty) b = drop-drop (column_len c.ty) at b in
    record {
      whole = λ s h.
          subst (λ (m : List Value). IsRow cs b m)
          (sym (append_assoc read (v ∷ []) s) ∙ ap (λ (m : List Value). m ++ s) (sym grown))
          (had.whole (v ∷ s)
          (subst (λ (m : List ColumnDef). IsRow m (drop at b) (v ∷ s)) (sym is)
          (IsRow-more c (drop (i + 1) cs) (drop at b) v s value (subst (λ (m : List ℕ). IsRow (drop (i + 1) cs) m s) (sym further) h))));
      only = λ r h.
          let old = had.only r h in
          let first = rest_first cs b i at c old.0 is old.1.1 in
          let same : first.value ≡ v = same_value c.ty (take (column_len c.ty) (drop at b)) first.value v first.first value in (
            first.rest,
            (
              old.1.0 ∙ ap (λ (m : List Value). read ++ m) (first.is ∙ ap (λ (u : Value). u ∷ first.rest) same)
                  ∙ sym (append_assoc read (v ∷ []) first.rest) ∙ ap (λ (m : List Value). m ++ first.rest) (sym grown),
              subst (λ (m : List ℕ). IsRow (drop (i + 1) cs) m first.rest) further first.others,
            ),
          );
    }

-- bytes that are too few, or have no value of the next column, are no row
pub no_row_short : (cs : List ColumnDef) (b : List ℕ) (i at : ℕ) (read : List Value) (c : ColumnDef) → drop i cs ≡ c ∷ drop (i + 1) cs → length b - at < column_len c.ty → HasRead cs b i at read → (r : List Value) → IsRow cs b r → ⊥
no_row_short cs b i at read c is short had r h =
    let old = had.only r h in
    let first = rest_first cs b i at c old.0 is old.1.1 in
    omega (arith, first.room, short, length-drop at b)

pub no_row_value : (cs : List ColumnDef) (b : List ℕ) (i at : ℕ) (read : List Value) (c : ColumnDef) → drop i cs ≡ c ∷ drop (i + 1) cs → ((v : Value) → IsValue c.ty (take (column_len c.ty) (drop at b)) v → ⊥) → HasRead cs b i at read → (r : List Value) → IsRow cs b r → ⊥
no_row_value cs b i at read c is none had r h =
    let old = had.only r h in
    let first = rest_first cs b i at c old.0 is old.1.1 in
    none first.value first.first

pub no_row_long : (cs : List ColumnDef) (b : List ℕ) (i at : ℕ) (read : List Value) → length cs ≤ i → at < length b → HasRead cs b i at read → (r : List Value) → IsRow cs b r → ⊥
no_row_long cs b i at read end long had r h =
    let old = had.only r h in
    let last = IsRow-none (drop at b) old.0 (subst (λ (m : List ColumnDef). IsRow m (drop at b) old.0) (drop_all i cs end) old.1.1) in
    omega (arith, ap length last.1, length-drop at b, long)

pub row_read : (cs : List ColumnDef) (b : List ℕ) (i at : ℕ) (read : List Value) → length cs ≤ i → length b ≤ at → HasRead cs b i at read → IsRow cs b read
row_read cs b i at read end all had =
    subst (λ (m : List Value). IsRow cs b m) (append-nil read)
    (had.whole []
    (subst (λ (m : List ColumnDef). IsRow m (drop at b) []) (sym (drop_all i cs end)) (record { fits = tt; stored = drop_all at b all })))

-- the same steps, at a width that the code computed
pub written_more : (vs : List Value) (cs : List ColumnDef) (i at w : ℕ) (first into wrote : List ℕ) (v : Value) (c : ColumnDef) → IsNext vs cs i v c → w ≡ column_len c.ty → at + row_len (drop i cs) ≡ row_len cs → row_len cs ≤ length first → HasWritten vs cs i at first into → wrote ≡ stored_value v c.ty → HasWritten vs cs (i + 1) (at + w) first (put_mid at (at + w - at) into wrote)
written_more vs cs i at w first into wrote v c next e place fit had is =
    subst (λ (n : ℕ). HasWritten vs cs (i + 1) (at + n) first (put_mid at (at + n - at) into wrote)) (sym e)
    (HasWritten-more vs cs i at first into wrote v c next place fit had is)

pub read_more : (cs : List ColumnDef) (b : List ℕ) (i at w : ℕ) (read now : List Value) (v : Value) (c : ColumnDef) → drop i cs ≡ c ∷ drop (i + 1) cs → w ≡ column_len c.ty → now ≡ read ++ v ∷ [] → IsValue c.ty (take (at + w - at) (drop at b)) v → HasRead cs b i at read → HasRead cs b (i + 1) (at + w) now
read_more cs b i at w read now v c is e grown value had =
    let part : at + w - at ≡ column_len c.ty = omega (arith, e) in
    subst (λ (n : ℕ). HasRead cs b (i + 1) (at + n) now) (sym e)
    (HasRead-more cs b i at read now v c is grown (subst (λ (n : ℕ). IsValue c.ty (take n (drop at b)) v) part value) had)

pub no_row_at : (cs : List ColumnDef) (b : List ℕ) (i at w : ℕ) (read : List Value) (c : ColumnDef) → drop i cs ≡ c ∷ drop (i + 1) cs → w ≡ column_len c.ty → ((v : Value) → IsValue c.ty (take (at + w - at) (drop at b)) v → ⊥) → HasRead cs b i at read → (r : List Value) → IsRow cs b r → ⊥
no_row_at cs b i at w read c is e none had =
    let part : at + w - at ≡ column_len c.ty = omega (arith, e) in
    no_row_value cs b i at read c is (subst (λ (n : ℕ). (v : Value) → IsValue c.ty (take n (drop at b)) v → ⊥) part none) had

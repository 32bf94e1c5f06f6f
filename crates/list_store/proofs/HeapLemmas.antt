-- The heaps as functions from table numbers.
use Rattle.std.proofs.Common.{◌≡◌, ◌≢◌, ℕ, List, [], ◌∷◌, cond, Option, Some, None, Bool, true, false, ◌==◌, refl, sym, ◌∙◌, ap, subst, arith, inl, inr}
use Rattle.std.specs.Option.{is_some}
use Rattle.std.specs.Prelude.{Result, Ok, Err, OnOk, OnErr}
use Rattle.std.specs.Map.{lookup}
use Rattle.std.proofs.lemmas.Bool.Decides.{nat_tests}
use Rattle.std.proofs.lemmas.Bool.{both_ways, cases_eq}
use Rattle.dby_types.specs.declared.definition.ColumnDef.{ColumnDef}
use Rattle.store_api.specs.declared.slot.Slot.{Slot}
use Rattle.store_api.specs.declared.slot.Item.{Item}
use Rattle.store_api.specs.declared.slot.Item.TheVariants.{Changed, Created, Discarded}
use Rattle.store_api.specs.View.{at_number}
use Rattle.list_store.specs.declared.heap.Heap.{Heap}
use Rattle.list_store.specs.Heaps.{heap_in, rows_of, rows_in, described_in, given_in, without_discarded, RowsBecome, GivenBecomes, Drops, AreSame}
use Rattle.list_store.proofs.BegunLemmas.{turned}

pub at_here : {X : Type 0} (f : ℕ → X) (n : ℕ) (x : X) → at_number f n x n ≡ x
at_here f n x = grind (arith, nat_tests)

pub at_away : {X : Type 0} (f : ℕ → X) (n : ℕ) (x : X) (m : ℕ) → m ≢ n → at_number f n x m ≡ f m
at_away f n x m ne = grind (arith, nat_tests)

-- the value that stood there changes nothing
pub at_kept : {X : Type 0} (f : ℕ → X) (n : ℕ) (x : X) → x ≡ f n → (m : ℕ) → at_number f n x m ≡ f m
at_kept f n x e m = elim (cases_eq m n) [
  | inl same ↦ subst (λ k. at_number f n x k ≡ f k) (sym same) (at_here f n x ∙ e)
  | inr ne ↦ at_away f n x m ne
]

-- another heap under a number
abbrev pub Puts : List (ℕ × Heap) → List (ℕ × Heap) → ℕ → Option Heap → Type 0
Puts old new t w = (q : ℕ) → lookup (λ v. q == v) new ≡ cond (t == q) w (lookup (λ v. q == v) old)

-- what is read of each heap then
pub read_put : {X : Type 0} (f : Option Heap → X) (old new : List (ℕ × Heap)) (t : ℕ) (w : Option Heap) → Puts old new t w
    → (n : ℕ) → f (heap_in new n) ≡ at_number (λ m. f (heap_in old m)) t (f w) n
read_put f old new t w put n =
    ap f (put n ∙ turned t n w (heap_in old n)) ∙ through (n == t)
  where
    through : (b : Bool) → f (cond b w (heap_in old n)) ≡ cond b (f w) (f (heap_in old n))
    through true = refl
    through false = refl

-- other rows, and the same columns
pub rows_put : (old new : List (ℕ × Heap)) (t : ℕ) (was is : Heap) (rows : List Slot) → Puts old new t (Some is) → heap_in old t ≡ Some was
    → is.columns ≡ was.columns → is.rows.items ≡ rows → RowsBecome old new t rows
rows_put old new t was is rows put there columns-same rows-are = record {
  rows_are = λ n. read_put rows_of old new t (Some is) put n ∙ ap (λ xs. at_number (rows_in old) t xs n) rows-are;
  given_same = λ n. read_put described_in old new t (Some is) put n ∙ at_kept (given_in old) t (described_in (Some is)) (columns-same ∙ sym (ap described_in there)) n;
}

-- other columns, and the same rows
pub given_put : (old new : List (ℕ × Heap)) (t : ℕ) (was is : Heap) (columns : List ColumnDef) → Puts old new t (Some is) → heap_in old t ≡ Some was
    → is.columns ≡ Some columns → is.rows.items ≡ was.rows.items → GivenBecomes old new t columns
given_put old new t was is columns put there columns-are rows-same = record {
  rows_same = λ n. read_put rows_of old new t (Some is) put n ∙ at_kept (rows_in old) t (rows_of (Some is)) (rows-same ∙ sym (ap rows_of there)) n;
  given_are = λ n. read_put described_in old new t (Some is) put n ∙ ap (λ x. at_number (given_in old) t x n) columns-are;
}

-- an empty heap where none was
pub empty_put : (old new : List (ℕ × Heap)) (t : ℕ) (is : Heap) → Puts old new t (Some is) → heap_in old t ≡ None → is.columns ≡ None → is.rows.items ≡ [] → AreSame old new
empty_put old new t is put none columns-none rows-none = record {
  rows_same = λ n. read_put rows_of old new t (Some is) put n ∙ at_kept (rows_in old) t (rows_of (Some is)) (rows-none ∙ sym (ap rows_of none)) n;
  given_same = λ n. read_put described_in old new t (Some is) put n ∙ at_kept (given_in old) t (described_in (Some is)) (columns-none ∙ sym (ap described_in none)) n;
}

-- no heap any more
pub none_put : (old new : List (ℕ × Heap)) (t : ℕ) → Puts old new t None → Drops old new t
none_put old new t put = record { rows_are = read_put rows_of old new t None put; given_are = read_put described_in old new t None put }

pub same_entries : (old new : List (ℕ × Heap)) → new ≡ old → AreSame old new
same_entries old new e = record { rows_same = λ n. ap (λ hs. rows_in hs n) e; given_same = λ n. ap (λ hs. given_in hs n) e }

-- after the same heaps, what another step does is what it does to the first ones
pub rows_after_same : (a b c : List (ℕ × Heap)) (t : ℕ) (rows : List Slot) → AreSame a b → RowsBecome b c t rows → RowsBecome a c t rows
rows_after_same a b c t rows same step = record {
  rows_are = λ n. step.rows_are n ∙ ap (λ (f : ℕ → List Slot). at_number f t rows n) (λ i m. same.rows_same m i);
  given_same = λ n. step.given_same n ∙ same.given_same n;
}

pub given_after_same : (a b c : List (ℕ × Heap)) (t : ℕ) (columns : List ColumnDef) → AreSame a b → GivenBecomes b c t columns → GivenBecomes a c t columns
given_after_same a b c t columns same step = record {
  rows_same = λ n. step.rows_same n ∙ same.rows_same n;
  given_are = λ n. step.given_are n ∙ ap (λ (f : ℕ → Option (List ColumnDef)). at_number f t (Some columns) n) (λ i m. same.given_same m i);
}

pub same_after_same : (a b c : List (ℕ × Heap)) → AreSame a b → AreSame b c → AreSame a c
same_after_same a b c first second = record {
  rows_same = λ n. second.rows_same n ∙ first.rows_same n;
  given_same = λ n. second.given_same n ∙ first.given_same n;
}

-- the same heap under its number
pub same_put : (old new : List (ℕ × Heap)) (t : ℕ) (was is : Heap) → Puts old new t (Some is) → heap_in old t ≡ Some was → is.columns ≡ was.columns → is.rows.items ≡ was.rows.items → AreSame old new
same_put old new t was is put there columns-same rows-same = record {
  rows_same = λ n. read_put rows_of old new t (Some is) put n ∙ at_kept (rows_in old) t (rows_of (Some is)) (rows-same ∙ sym (ap rows_of there)) n;
  given_same = λ n. read_put described_in old new t (Some is) put n ∙ at_kept (given_in old) t (described_in (Some is)) (columns-same ∙ sym (ap described_in there)) n;
}

pub nothing : {X : Type 0} (x : Option X) → is_some x ≡ false → x ≡ None
nothing None e = refl
nothing (Some x) e = absurd (both_ways _ e refl)

pub on_ok_map : {T E P Q : Type 0} (r : Result T E) → (P → Q) → OnOk r P → OnOk r Q
on_ok_map (Ok x) f p = f p
on_ok_map (Err e) f p = tt

pub on_err_map : {T E P Q : Type 0} (r : Result T E) → (P → Q) → OnErr r P → OnErr r Q
on_err_map (Ok x) f p = tt
on_err_map (Err e) f p = f p

-- one item more
pub discarded_step : {X : Type 0} (none : X) (items : List Item) (item : Item) (f g : ℕ → X) → ((n : ℕ) → g n ≡ without_discarded none (item ∷ []) f n)
    → (n : ℕ) → without_discarded none items g n ≡ without_discarded none (item ∷ items) f n
discarded_step none items (Changed table rid before) f g e n = ap (λ h. without_discarded none items h n) (λ i m. e m i)
discarded_step none items (Created c) f g e n = ap (λ h. without_discarded none items h n) (λ i m. e m i)
discarded_step none items (Discarded c) f g e n = ap (λ h. without_discarded none items h n) (λ i m. e m i)

pub on_ok_both : {T E P Q R : Type 0} (r : Result T E) → (P → Q → R) → OnOk r P → OnOk r Q → OnOk r R
on_ok_both (Ok x) f p q = f p q
on_ok_both (Err e) f p q = tt

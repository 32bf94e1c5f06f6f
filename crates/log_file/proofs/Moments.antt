-- Each moment of a call, from the moments of its device calls.
use Rattle.std.proofs.Common.{◌≤◌, ℕ, arith, inl, inr}
use Rattle.std.specs.Prelude.{◌⊎◌}
use Rattle.device.specs.Disk.{Image, Elapses, LeavesOnly}

module _ {D : Type 0} (moment : D → ℕ) (left_since : D → ℕ → Image → Type 0) where
  -- one device call
  pub one_call : (old new : D) (before now P : Image → Type 0) → Elapses (moment old) (moment new) (left_since old) (left_since new) now → ((i : Image) → left_since old (moment old) i → before i) → ((i : Image) → before i → P i) → ((i : Image) → now i → P i)
      → LeavesOnly moment left_since old new P
  one_call old new before now P time only first last = record {
    later = time.later;
    each = λ i h. at_first i (time.nothing_else (moment old) i (omega arith) h);
    before = λ t i le h. at_once i t (time.nothing_else t i le h);
  }
    where
      at_first : (i : Image) → left_since old (moment old) i ⊎ now i → P i
      at_first i (inl x) = first i (only i x)
      at_first i (inr x) = last i x

      at_once : (i : Image) (t : ℕ) → left_since old t i ⊎ now i → left_since old t i ⊎ P i
      at_once i t (inl x) = inl x
      at_once i t (inr x) = inr (last i x)

  -- no device call
  pub no_call : (old : D) (before P : Image → Type 0) → ((i : Image) → left_since old (moment old) i → before i) → ((i : Image) → before i → P i) → LeavesOnly moment left_since old old P
  no_call old before P only first = record { later = omega arith; each = λ i h. first i (only i h); before = λ t i le h. inl h }

  -- one after the other
  pub and_then : (old mid new : D) (P : Image → Type 0) → LeavesOnly moment left_since old mid P → LeavesOnly moment left_since mid new P → LeavesOnly moment left_since old new P
  and_then old mid new P a b = record {
    later = omega (arith, a.later, b.later);
    each = λ i h. then_each i (b.before (moment old) i a.later h);
    before = λ t i le h. then_before i t le (b.before t i (omega (arith, le, a.later)) h);
  }
    where
      then_each : (i : Image) → left_since mid (moment old) i ⊎ P i → P i
      then_each i (inl x) = a.each i x
      then_each i (inr x) = x

      then_before : (i : Image) (t : ℕ) → t ≤ moment old → left_since mid t i ⊎ P i → left_since old t i ⊎ P i
      then_before i t le (inl x) = a.before t i le x
      then_before i t le (inr x) = inr x

  -- what is weaker
  pub weaker : (old new : D) (P Q : Image → Type 0) → ((i : Image) → P i → Q i) → LeavesOnly moment left_since old new P → LeavesOnly moment left_since old new Q
  weaker old new P Q f a = record { later = a.later; each = λ i h. f i (a.each i h); before = λ t i le h. or_weaker i t (a.before t i le h) }
    where
      or_weaker : (i : Image) (t : ℕ) → left_since old t i ⊎ P i → left_since old t i ⊎ Q i
      or_weaker i t (inl x) = inl x
      or_weaker i t (inr x) = inr (f i x)

-- Counting the names that pass a test.
use Rattle.std.proofs.Common.{◌≡◌, ℕ, ◌+◌, ◌<◌, ◌≤◌, Bool, true, false, refl, sym, ◌∙◌, ap, cond, List, [], ◌∷◌, length, subst, arith, Option, Some, None, Result, Ok, Err, ◌⊎◌, inl, inr}
use Rattle.std.specs.Result.{IfOk, IsOk}
use Rattle.std.specs.Prelude.{◌&&◌, ◌||◌, not, nat_eq, ◌^◌}
use Rattle.std.specs.List.{filter, list_any, sum_by, IsDistinct, AllByRecursion}
use Rattle.std.specs.Option.{unwrap_or}
use Rattle.std.specs.Map.{lookup, set_value, remove_entry, keys_of}
use Rattle.std.specs.HashMap.{HashMap, keys, get, get_by, WritesThrough, IsUnique, PutsEntry, spare}
use Rattle.std.specs.List.Sorted.{IsPermutation}
use Rattle.std.proofs.lemmas.List.Recursion.{is_sum_by}
use Rattle.std.proofs.lemmas.List.Sorted.{sum_by-IsPermutation}
use Rattle.std.proofs.lemmas.Bool.{both_ways, eqb-true}
use Rattle.lock_modes.specs.declared.modes.Modes.{Modes}
use Rattle.lock_modes.specs.declared.name.LockName.{LockName}
use Rattle.lock_modes.specs.declared.name.LockName.TheVariants.{Dictionary, Table, Row, First}
use Rattle.lock_modes.specs.contracts.name.LockNamePartialEq.TheImpl.{eq-value}
use Rattle.lock_modes.specs.Modes.{no_modes, is_held, writes, is_ranged}
use Rattle.lock_modes.specs.Names.{same_name, is_row_name}
use Rattle.lock_modes.specs.Waits.{IsNumber}
use Rattle.lock_modes.proofs.ModesLemmas.{held_none}
use Rattle.lock_modes.proofs.NamesLemmas.{name_eq}
use Rattle.lock_manager.specs.declared.tallies.Rows.{Rows}
use Rattle.lock_manager.specs.declared.tallies.Tallies.{Tallies}
use Rattle.lock_manager.specs.ByName.{modes_at}
use Rattle.lock_manager.specs.Tallies.{one, count_of, is_name, is_ranged_name, is_row_of, is_written_of, is_ranged_of, IsDropped, IsQuiet, no_rows, rows_at, Counts, Moves, CanTally, IsTallied}
use Rattle.lock_manager.proofs.NameLemmas.{map_eq, get_same}

abbrev Entries : Type 0
Entries = List (LockName × Modes)

and_no : (a : Bool) → (a && false) ≡ false
and_no true = refl
and_no false = refl

count_sum : (p : LockName → Modes → Bool) (es : Entries) → count_of p es ≡ sum_by (λ (e : LockName × Modes). one (p e.0 e.1)) es
count_sum p es = is_sum_by (count_of p) (λ (e : LockName × Modes). one (p e.0 e.1)) refl (λ x xs. refl) es

count_permutation : (p : LockName → Modes → Bool) (xs ys : Entries) → IsPermutation xs ys → count_of p xs ≡ count_of p ys
count_permutation p xs ys k = count_sum p xs ∙ sym (sum_by-IsPermutation (λ (e : LockName × Modes). one (p e.0 e.1)) xs ys k) ∙ sym (count_sum p ys)

-- the count after a name's modes changed
count_set : (p : LockName → Modes → Bool) (n : LockName) (es : Entries) (o w : Modes) → lookup (same_name n) es ≡ Some o → count_of p (set_value (same_name n) es w) + one (p n o) ≡ count_of p es + one (p n w)
count_set p n [] o w h = absurd (cc h)
count_set p n (e ∷ es) o w h =
    let cases = λ (b : Bool) (q : same_name n e.0 ≡ b).
    (elim b as (λ x. same_name n e.0 ≡ x → cond x (Some e.1) (lookup (same_name n) es) ≡ Some o → count_of p (cond x ((e.0, w) ∷ es) (e ∷ set_value (same_name n) es w)) + one (p n o) ≡ (one (p e.0 e.1) + count_of p es) + one (p n w)) [
      | true ↦ λ t s.
          let k : e.1 ≡ o = cc s in
          let same = name_eq n e.0 t in
          let new : one (p e.0 w) ≡ one (p n w) = ap (λ z. one (p z w)) (sym same) in
          let old : one (p e.0 e.1) ≡ one (p n o) = ap (λ z. one (p z e.1)) (sym same) ∙ ap (λ v. one (p n v)) k in
          let g : (one (p e.0 w) + count_of p es) + one (p n o) ≡ (one (p e.0 e.1) + count_of p es) + one (p n w) = omega (arith, new, old) in g
      | false ↦ λ t s.
          let k = count_set p n es o w s in
          let g : (one (p e.0 e.1) + count_of p (set_value (same_name n) es w)) + one (p n o) ≡ (one (p e.0 e.1) + count_of p es) + one (p n w) = omega (arith, k) in g
    ]) q in
    cases (same_name n e.0) refl h

-- whether a name's modes pass, nothing where there are none
abbrev at_name : (p : LockName → Modes → Bool) → LockName → Option Modes → ℕ
at_name p n None = 0
at_name p n (Some v) = one (p n v)

at_is : (p : LockName → Modes → Bool) → IsQuiet p → (n : LockName) (o : Option Modes) → at_name p n o ≡ one (p n (unwrap_or o no_modes))
at_is p quiet n None = sym (ap one (quiet n))
at_is p quiet n (Some v) = refl

count_remove : (p : LockName → Modes → Bool) (n : LockName) (es : Entries) → count_of p (remove_entry (same_name n) es) + at_name p n (lookup (same_name n) es) ≡ count_of p es
count_remove p n [] = refl
count_remove p n (e ∷ es) =
    let rest = count_remove p n es in
    let cases = λ (b : Bool) (q : same_name n e.0 ≡ b).
    (elim b as (λ x. same_name n e.0 ≡ x → count_of p (cond x es (e ∷ remove_entry (same_name n) es)) + at_name p n (cond x (Some e.1) (lookup (same_name n) es)) ≡ one (p e.0 e.1) + count_of p es) [
      | true ↦ λ t.
          let same : one (p n e.1) ≡ one (p e.0 e.1) = ap (λ z. one (p z e.1)) (name_eq n e.0 t) in
          let g : count_of p es + one (p n e.1) ≡ one (p e.0 e.1) + count_of p es = omega (arith, same) in g
      | false ↦ λ t. let g : (one (p e.0 e.1) + count_of p (remove_entry (same_name n) es)) + at_name p n (lookup (same_name n) es) ≡ one (p e.0 e.1) + count_of p es = omega (arith, rest) in g
    ]) q in
    cases (same_name n e.0) refl

-- a name that passes is counted
count_least : (p : LockName → Modes → Bool) → IsQuiet p → (n : LockName) (es : Entries) → one (p n (unwrap_or (lookup (same_name n) es) no_modes)) ≤ count_of p es
count_least p quiet n es =
    let k = count_remove p n es in
    let a = at_is p quiet n (lookup (same_name n) es) in
    omega (arith, k, a)

one_small : (b : Bool) → one b ≤ 1
one_small true = omega arith
one_small false = omega arith

count_small : (p : LockName → Modes → Bool) (es : Entries) → count_of p es ≤ length es
count_small p [] = omega arith
count_small p (e ∷ es) = let k = count_small p es in let o = one_small (p e.0 e.1) in omega (arith, k, o)

eq_path : (n : LockName) → eq-value.it n ≡ same_name n
eq_path n = λ i k. map_eq n k i

-- what was written through the map's lookup
pub moves_set : {S : Type 0} (m n : HashMap LockName Modes S) (name : LockName) (old v : Modes)
    → Some old ≡ get_by (eq-value.it name) m → WritesThrough eq-value.it (eq-value.it name) m v n
    → Moves m.entries n.entries name (modes_at m name) v
moves_set m n name old v was through p quiet =
    let found : lookup (same_name name) m.entries ≡ Some old = sym (was ∙ get_same m name) in
    let entries : n.entries ≡ set_value (same_name name) m.entries v = through.0 ∙ ap (λ (f : LockName → Bool). set_value f m.entries v) (eq_path name) in
    let a : count_of p n.entries ≡ count_of p (set_value (same_name name) m.entries v) = ap (λ (es : Entries). count_of p es) entries in
    let b = count_set p name m.entries old v found in
    let c : one (p name (modes_at m name)) ≡ one (p name old) = ap (λ (o : Option Modes). one (p name (unwrap_or o no_modes))) found in
    omega (arith, a, b, c)

pub moves_put : {S : Type 0} (m n : HashMap LockName Modes S) (name : LockName) (v : Modes)
    → None ≡ get_by (eq-value.it name) m → IsPermutation ((name, v) ∷ m.entries) n.entries
    → Moves m.entries n.entries name (modes_at m name) v
moves_put m n name v was all p quiet =
    let none : lookup (same_name name) m.entries ≡ None = sym (was ∙ get_same m name) in
    let a : count_of p ((name, v) ∷ m.entries) ≡ count_of p n.entries = count_permutation p ((name, v) ∷ m.entries) n.entries all in
    let c : one (p name (modes_at m name)) ≡ 0 = ap (λ (o : Option Modes). one (p name (unwrap_or o no_modes))) none ∙ ap one (quiet name) in
    omega (arith, a, c)

-- a name that had nothing gets modes
pub moves_added : {S E : Type 0} (m n : HashMap LockName Modes S) (r : Result (Option Modes) E) (name : LockName) (v : Modes)
    → None ≡ get_by (eq-value.it name) m → IfOk r (λ old. old ≡ get eq-value.it m name) → IfOk r (λ old. PutsEntry eq-value.it m n name v old) → (0 < spare m → IsOk r)
    → (is_held (modes_at m name) ≡ true) ⊎ (0 < spare m) → Moves m.entries n.entries name (modes_at m name) v
moves_added m n (Ok old) name v was is puts succeeds room =
    let none : old ≡ None = is ∙ sym was in
    moves_put m n name v was (subst (λ (o : Option Modes). PutsEntry eq-value.it m n name v o) none puts)
moves_added m n (Err e) name v was is puts succeeds room =
    let nothing : modes_at m name ≡ no_modes = ap (λ (o : Option Modes). unwrap_or o no_modes) (sym (was ∙ get_same m name)) in
    let free : 0 < spare m = elim room [ inl held ↦ absurd (both_ways _ (ap is_held nothing ∙ held_none) held) | inr free ↦ free ] in
    absurd (both_ways _ refl (succeeds free))

pub moves_removed : {S : Type 0} (m n : HashMap LockName Modes S) (name : LockName)
    → IsPermutation (remove_entry (eq-value.it name) m.entries) n.entries
    → Moves m.entries n.entries name (modes_at m name) no_modes
moves_removed m n name all p quiet =
    let a : count_of p (remove_entry (same_name name) m.entries) ≡ count_of p n.entries =
    ap (λ (f : LockName → Bool). count_of p (remove_entry f m.entries)) (sym (eq_path name)) ∙ count_permutation p (remove_entry (eq-value.it name) m.entries) n.entries all in
    let b = count_remove p name m.entries in
    let c = at_is p quiet name (lookup (same_name name) m.entries) in
    let d : one (p name no_modes) ≡ 0 = ap one (quiet name) in
    omega (arith, a, b, c, d)

quiet_name : IsQuiet is_name
quiet_name = λ n. held_none

quiet_ranged : IsQuiet is_ranged_name
quiet_ranged = λ n. refl

quiet_row : (k : ℕ) → IsQuiet (is_row_of k)
quiet_row k = λ n. ap (λ b. is_row_name k n && b) held_none ∙ and_no (is_row_name k n)

quiet_ranged_row : (k : ℕ) → IsQuiet (is_ranged_of k)
quiet_ranged_row k = λ n. and_no (is_row_name k n)

quiet_written : (k : ℕ) → IsQuiet (is_written_of k)
quiet_written k = λ n. and_no (is_row_name k n)

-- the tallies allow that what stands under a name is taken away, and one name more
pub can_tally : (t : Tallies) (es : Entries) (n : LockName) (was : Modes) → Counts t es → length es < 2 ^ 63 → was ≡ unwrap_or (lookup (same_name n) es) no_modes → CanTally t n was
can_tally t es n was c small is = subst (λ (w : Modes). CanTally t n w) (sym is) record {
  names = (let a = c.names in let b = count_least is_name quiet_name n es in omega (arith, a, b));
  ranged = (let a = c.ranged in let b = count_least is_ranged_name quiet_ranged n es in omega (arith, a, b));
  names_small = (let a = c.names in let b = count_small is_name es in omega (arith, a, b, small));
  ranged_small = (let a = c.ranged in let b = count_small is_ranged_name es in omega (arith, a, b, small));
  tables = record {
    rows = λ k. (let a = c.rows k in let b = count_least (is_row_of k) (quiet_row k) n es in omega (arith, a, b));
    written = λ k. (let a = c.written k in let b = count_least (is_written_of k) (quiet_written k) n es in omega (arith, a, b));
    ranged = λ k. (let a = c.ranged_rows k in let b = count_least (is_ranged_of k) (quiet_ranged_row k) n es in omega (arith, a, b));
    rows_small = λ k. (let a = c.rows k in let b = count_small (is_row_of k) es in omega (arith, a, b, small));
    written_small = λ k. (let a = c.written k in let b = count_small (is_written_of k) es in omega (arith, a, b, small));
    ranged_small = λ k. (let a = c.ranged_rows k in let b = count_small (is_ranged_of k) es in omega (arith, a, b, small));
  };
}

-- the tallies follow a change
pub counts_after : (t t' : Tallies) (es es' : Entries) (n : LockName) (was now before after : Modes) → Counts t es → IsTallied t t' n was now → was ≡ before → now ≡ after → Moves es es' n before after → Counts t' es'
counts_after t t' es es' n was now before after c k is is' moves =
    let m : Moves es es' n was now = subst (λ (w : Modes). Moves es es' n w now) (sym is) (subst (λ (w : Modes). Moves es es' n before w) (sym is') moves) in
    record {
      names = (let a = c.names in let b = k.names in let d = m is_name quiet_name in omega (arith, a, b, d));
      ranged = (let a = c.ranged in let b = k.ranged in let d = m is_ranged_name quiet_ranged in omega (arith, a, b, d));
      rows = λ j. (let a = c.rows j in let b = k.tables.rows j in let d = m (is_row_of j) (quiet_row j) in omega (arith, a, b, d));
      written = λ j. (let a = c.written j in let b = k.tables.written j in let d = m (is_written_of j) (quiet_written j) in omega (arith, a, b, d));
      ranged_rows = λ j. (let a = c.ranged_rows j in let b = k.tables.ranged j in let d = m (is_ranged_of j) (quiet_ranged_row j) in omega (arith, a, b, d));
    }

-- the entries in another order
pub counts_reordered : (t t' : Tallies) (es es' : Entries) → Counts t es → IsPermutation es es' → t'.names ≡ t.names → t'.ranged ≡ t.ranged → ((k : ℕ) → rows_at t'.tables k ≡ rows_at t.tables k) → Counts t' es'
counts_reordered t t' es es' c order names ranged rows = record {
  names = names ∙ c.names ∙ count_permutation is_name es es' order;
  ranged = ranged ∙ c.ranged ∙ count_permutation is_ranged_name es es' order;
  rows = λ k. ap (λ (r : Rows). r.names) (rows k) ∙ c.rows k ∙ count_permutation (is_row_of k) es es' order;
  written = λ k. ap (λ (r : Rows). r.written) (rows k) ∙ c.written k ∙ count_permutation (is_written_of k) es es' order;
  ranged_rows = λ k. ap (λ (r : Rows). r.ranged) (rows k) ∙ c.ranged_rows k ∙ count_permutation (is_ranged_of k) es es' order;
}

-- the count without the names that pass another test
count_filter : (q : LockName → Bool) (p : LockName → Modes → Bool) (es : Entries) → count_of p (filter (λ e. not (q e.0)) es) + count_of (λ n ms. q n && p n ms) es ≡ count_of p es
count_filter q p [] = refl
count_filter q p (e ∷ es) =
    let rest = count_filter q p es in
    let left : Entries = filter (λ e. not (q e.0)) es in
    let cases = λ (b : Bool).
    (elim b as (λ x. count_of p (cond (not x) (e ∷ left) left) + (one (x && p e.0 e.1) + count_of (λ n ms. q n && p n ms) es) ≡ one (p e.0 e.1) + count_of p es) [
      | true ↦ (let g : count_of p left + (one (p e.0 e.1) + count_of (λ n ms. q n && p n ms) es) ≡ one (p e.0 e.1) + count_of p es = omega (arith, rest) in g)
      | false ↦ (let g : (one (p e.0 e.1) + count_of p left) + (0 + count_of (λ n ms. q n && p n ms) es) ≡ one (p e.0 e.1) + count_of p es = omega (arith, rest) in g)
    ]) in
    cases (q e.0)

-- names of two tables are not the same
other_table : (table k : ℕ) (n : LockName) → nat_eq table k ≡ false → is_row_name table n ≡ true → is_row_name k n ≡ false
other_table table k Dictionary f h = absurd (both_ways _ refl h)
other_table table k (Table a) f h = absurd (both_ways _ refl h)
other_table table k (Row a r) f h = ap (λ z. nat_eq z k) (eqb-true a table h) ∙ f
other_table table k (First a i) f h = ap (λ z. nat_eq z k) (eqb-true a table h) ∙ f

-- a table's tallies once its names are dropped, and another's
dropped_none : (f : Modes → Bool) (table : ℕ) (es : Entries) → count_of (λ n ms. is_row_name table n && f ms) (filter (λ e. not (is_row_name table e.0)) es) ≡ 0
dropped_none f table [] = refl
dropped_none f table (x ∷ xs) =
    let rest = dropped_none f table xs in
    let left : Entries = filter (λ e. not (is_row_name table e.0)) xs in
    let cases = λ (b : Bool) (q : is_row_name table x.0 ≡ b).
    (elim b as (λ y. is_row_name table x.0 ≡ y → count_of (λ n ms. is_row_name table n && f ms) (cond (not y) (x ∷ left) left) ≡ 0) [
      | true ↦ λ _. rest
      | false ↦ λ h. ap (λ c. one (c && f x.1) + count_of (λ n ms. is_row_name table n && f ms) left) h ∙ (let g : 0 + count_of (λ n ms. is_row_name table n && f ms) left ≡ 0 = omega (arith, rest) in g)
    ]) q in
    cases (is_row_name table x.0) refl

dropped_all : (f : Modes → Bool) (table k : ℕ) → nat_eq table k ≡ false → (es : Entries) → count_of (λ n ms. is_row_name k n && f ms) (filter (λ e. not (is_row_name table e.0)) es) ≡ count_of (λ n ms. is_row_name k n && f ms) es
dropped_all f table k e [] = refl
dropped_all f table k e (x ∷ xs) =
    let rest = dropped_all f table k e xs in
    let left : Entries = filter (λ e. not (is_row_name table e.0)) xs in
    let cases = λ (b : Bool) (q : is_row_name table x.0 ≡ b).
    (elim b as (λ y. is_row_name table x.0 ≡ y → count_of (λ n ms. is_row_name k n && f ms) (cond (not y) (x ∷ left) left) ≡ one (is_row_name k x.0 && f x.1) + count_of (λ n ms. is_row_name k n && f ms) xs) [
      | true ↦ λ h. rest ∙ sym (ap (λ c. one (c && f x.1) + count_of (λ n ms. is_row_name k n && f ms) xs) (other_table table k x.0 e h) ∙ (let g : 0 + count_of (λ n ms. is_row_name k n && f ms) xs ≡ count_of (λ n ms. is_row_name k n && f ms) xs = omega arith in g))
      | false ↦ λ h. ap (λ c. one (is_row_name k x.0 && f x.1) + c) rest
    ]) q in
    cases (is_row_name table x.0) refl

dropped_rows : (f : Modes → Bool) (table k : ℕ) (es : Entries)
    → count_of (λ n ms. is_row_name k n && f ms) (filter (λ e. not (is_row_name table e.0)) es) ≡ cond (nat_eq table k) 0 (count_of (λ n ms. is_row_name k n && f ms) es)
dropped_rows f table k es =
    let cases = λ (b : Bool) (q : nat_eq table k ≡ b).
    (elim b as (λ y. nat_eq table k ≡ y → count_of (λ n ms. is_row_name k n && f ms) (filter (λ e. not (is_row_name table e.0)) es) ≡ cond y 0 (count_of (λ n ms. is_row_name k n && f ms) es)) [
      | true ↦ λ h. subst (λ (j : ℕ). count_of (λ n ms. is_row_name j n && f ms) (filter (λ e. not (is_row_name table e.0)) es) ≡ 0) (eqb-true table k h) (dropped_none f table es)
      | false ↦ λ h. dropped_all f table k h es
    ]) q in
    cases (nat_eq table k) refl

-- the tallies allow that a table is dropped
pub can_drop : (t : Tallies) (es : Entries) (table : ℕ) → Counts t es → ((rows_at t.tables table).names ≤ t.names) × ((rows_at t.tables table).ranged ≤ t.ranged)
can_drop t es table c =
    let left : Entries = filter (λ e. not (is_row_name table e.0)) es in
    let a : count_of is_name left + count_of (is_row_of table) es ≡ count_of is_name es = count_filter (is_row_name table) is_name es in
    let b : count_of is_ranged_name left + count_of (is_ranged_of table) es ≡ count_of is_ranged_name es = count_filter (is_row_name table) is_ranged_name es in
    ((let x = c.names in let y = c.rows table in omega (arith, a, x, y)), (let x = c.ranged in let y = c.ranged_rows table in omega (arith, b, x, y)))

names_if : (b : Bool) (r : Rows) → (cond b no_rows r).names ≡ cond b 0 r.names
names_if true r = refl
names_if false r = refl

written_if : (b : Bool) (r : Rows) → (cond b no_rows r).written ≡ cond b 0 r.written
written_if true r = refl
written_if false r = refl

ranged_if : (b : Bool) (r : Rows) → (cond b no_rows r).ranged ≡ cond b 0 r.ranged
ranged_if true r = refl
ranged_if false r = refl

dropped_counts : (t t' : Tallies) (es : Entries) (table : ℕ) → Counts t es → IsDropped t t' table → Counts t' (filter (λ e. not (is_row_name table e.0)) es)
dropped_counts t t' es table c d =
    let left : Entries = filter (λ e. not (is_row_name table e.0)) es in
    let a : count_of is_name left + count_of (is_row_of table) es ≡ count_of is_name es = count_filter (is_row_name table) is_name es in
    let b : count_of is_ranged_name left + count_of (is_ranged_of table) es ≡ count_of is_ranged_name es = count_filter (is_row_name table) is_ranged_name es in
    record {
      names = (let x = c.names in let y = c.rows table in let z = d.names in omega (arith, a, x, y, z));
      ranged = (let x = c.ranged in let y = c.ranged_rows table in let z = d.ranged in omega (arith, b, x, y, z));
      rows = λ k. ap (λ (r : Rows). r.names) (d.tables k) ∙ names_if (nat_eq table k) (rows_at t.tables k) ∙ ap (λ x. cond (nat_eq table k) 0 x) (c.rows k) ∙ sym (dropped_rows is_held table k es);
      written = λ k. ap (λ (r : Rows). r.written) (d.tables k) ∙ written_if (nat_eq table k) (rows_at t.tables k) ∙ ap (λ x. cond (nat_eq table k) 0 x) (c.written k) ∙ sym (dropped_rows writes table k es);
      ranged_rows = λ k. ap (λ (r : Rows). r.ranged) (d.tables k) ∙ ranged_if (nat_eq table k) (rows_at t.tables k) ∙ ap (λ x. cond (nat_eq table k) 0 x) (c.ranged_rows k) ∙ sym (dropped_rows is_ranged table k es);
    }

pub counts_dropped : (t t' : Tallies) (es es' : Entries) (table : ℕ) → Counts t es → IsDropped t t' table → es' ≡ filter (λ e. not (is_row_name table e.0)) es → Counts t' es'
counts_dropped t t' es es' table c d is = subst (λ (x : Entries). Counts t' x) (sym is) (dropped_counts t t' es table c d)

-- the modes by name without the names of a table
abbrev none_if : Bool → Option Modes → Option Modes
none_if b o = cond b None o

found_dropped : (table : ℕ) (k : LockName) (es : Entries) → lookup (same_name k) (filter (λ e. not (is_row_name table e.0)) es) ≡ none_if (is_row_name table k) (lookup (same_name k) es)
found_dropped table k [] = nothing (is_row_name table k)
  where
    nothing : (b : Bool) → None ≡ none_if b None
    nothing true = refl
    nothing false = refl
found_dropped table k (e ∷ es) = which (same_name k e.0) refl (is_row_name table e.0) refl (found_dropped table k es)
  where
    which : (b : Bool) → same_name k e.0 ≡ b → (c : Bool) → is_row_name table e.0 ≡ c
        → lookup (same_name k) (filter (λ e. not (is_row_name table e.0)) es) ≡ none_if (is_row_name table k) (lookup (same_name k) es)
        → lookup (same_name k) (cond (not c) (e ∷ filter (λ e. not (is_row_name table e.0)) es) (filter (λ e. not (is_row_name table e.0)) es)) ≡ none_if (is_row_name table k) (cond b (Some e.1) (lookup (same_name k) es))
    which true t true row rest =
        let here : is_row_name table k ≡ true = ap (λ z. is_row_name table z) (name_eq k e.0 t) ∙ row in
        rest ∙ ap (λ b. none_if b (lookup (same_name k) es)) here ∙ sym (ap (λ b. none_if b (Some e.1)) here)
    which true t false row rest =
        let here : is_row_name table k ≡ false = ap (λ z. is_row_name table z) (name_eq k e.0 t) ∙ row in
        ap (λ (b : Bool). cond b (Some e.1) (lookup (same_name k) (filter (λ e. not (is_row_name table e.0)) es))) t ∙ sym (ap (λ b. none_if b (Some e.1)) here)
    which false f true row rest = rest
    which false f false row rest = ap (λ (b : Bool). cond b (Some e.1) (lookup (same_name k) (filter (λ e. not (is_row_name table e.0)) es))) f ∙ rest

either : (b : Bool) (o : Option Modes) → unwrap_or (cond b None o) no_modes ≡ cond b no_modes (unwrap_or o no_modes)
either true o = refl
either false o = refl

pub modes_dropped : {S : Type 0} (m n : HashMap LockName Modes S) (table : ℕ) → n.entries ≡ filter (λ e. not (is_row_name table e.0)) m.entries → (k : LockName) → modes_at n k ≡ cond (is_row_name table k) no_modes (modes_at m k)
modes_dropped m n table is k =
    ap (λ (es : Entries). unwrap_or (lookup (same_name k) es) no_modes) is ∙ ap (λ (o : Option Modes). unwrap_or o no_modes) (found_dropped table k m.entries) ∙ either (is_row_name table k) (lookup (same_name k) m.entries)

-- the names that pass a test
abbrev names_of : (LockName → Modes → Bool) → Entries → List LockName
names_of p [] = []
names_of p (e ∷ es) = cond (p e.0 e.1) (e.0 ∷ names_of p es) (names_of p es)

-- what holds of all keys holds of those that pass
all_of : (P : LockName → Type 0) (p : LockName → Modes → Bool) (es : Entries) → AllByRecursion P (keys_of es) → AllByRecursion P (names_of p es)
all_of P p [] a = a
all_of P p (e ∷ es) a =
    let rest = all_of P p es a.1 in
    let cases = λ (b : Bool). (elim b as (λ x. AllByRecursion P (cond x (e.0 ∷ names_of p es) (names_of p es))) [ true ↦ (a.0, rest) | false ↦ rest ]) in
    cases (p e.0 e.1)

none_of : (n : LockName) (ks : List LockName) → AllByRecursion (λ y. same_name n y ≡ false) ks → list_any (same_name n) ks ≡ false
none_of n [] a = refl
none_of n (k ∷ ks) a = ap (λ b. b || list_any (same_name n) ks) a.0 ∙ none_of n ks a.1

distinct_of : (p : LockName → Modes → Bool) (es : Entries) → IsDistinct same_name (keys_of es) → IsDistinct same_name (names_of p es)
unfolding IsDistinct
distinct_of p [] a = a
distinct_of p (e ∷ es) a =
    let rest = distinct_of p es a.1 in
    let here = all_of (λ y. same_name e.0 y ≡ false) p es a.0 in
    let cases = λ (b : Bool). (elim b as (λ x. IsDistinct same_name (cond x (e.0 ∷ names_of p es) (names_of p es))) [ true ↦ (here, rest) | false ↦ rest ]) in
    cases (p e.0 e.1)

exact_of : (p : LockName → Modes → Bool) → IsQuiet p → (es : Entries) → IsDistinct same_name (keys_of es) → (n : LockName) → list_any (same_name n) (names_of p es) ≡ p n (unwrap_or (lookup (same_name n) es) no_modes)
unfolding IsDistinct
exact_of p quiet [] a n = sym (quiet n)
exact_of p quiet (e ∷ es) a n =
    let rest = exact_of p quiet es a.1 n in
    let here = λ (t : same_name n e.0 ≡ true).
    (let none : list_any (same_name n) (names_of p es) ≡ false = ap (λ k. list_any (same_name k) (names_of p es)) (name_eq n e.0 t) ∙ none_of e.0 (names_of p es) (all_of (λ y. same_name e.0 y ≡ false) p es a.0) in
    let cases = λ (b : Bool) (q : p e.0 e.1 ≡ b).
    (elim b as (λ x. p e.0 e.1 ≡ x → list_any (same_name n) (cond x (e.0 ∷ names_of p es) (names_of p es)) ≡ p n e.1)
    [ true ↦ λ s. ap (λ z. z || list_any (same_name n) (names_of p es)) t ∙ sym (ap (λ z. p z e.1) (name_eq n e.0 t) ∙ s) | false ↦ λ s. none ∙ sym (ap (λ z. p z e.1) (name_eq n e.0 t) ∙ s) ]) q in
    cases (p e.0 e.1) refl) in
    let other = λ (t : same_name n e.0 ≡ false).
    (let cases = λ (b : Bool). (elim b as (λ x. list_any (same_name n) (cond x (e.0 ∷ names_of p es) (names_of p es)) ≡ p n (unwrap_or (lookup (same_name n) es) no_modes))
    [ true ↦ ap (λ z. z || list_any (same_name n) (names_of p es)) t ∙ rest | false ↦ rest ]) in
    cases (p e.0 e.1)) in
    let which = λ (b : Bool) (q : same_name n e.0 ≡ b).
    (elim b as (λ x. same_name n e.0 ≡ x → list_any (same_name n) (cond (p e.0 e.1) (e.0 ∷ names_of p es) (names_of p es)) ≡ p n (unwrap_or (cond x (Some e.1) (lookup (same_name n) es)) no_modes))
    [ true ↦ λ t. here t | false ↦ λ t. other t ]) q in
    which (same_name n e.0) refl

long_of : (p : LockName → Modes → Bool) (es : Entries) → length (names_of p es) ≡ count_of p es
long_of p [] = refl
long_of p (e ∷ es) =
    let rest = long_of p es in
    let cases = λ (b : Bool). (elim b as (λ x. length (cond x (e.0 ∷ names_of p es) (names_of p es)) ≡ one x + count_of p es) [ true ↦ (let g : length (e.0 ∷ names_of p es) ≡ 1 + count_of p es = omega (arith, rest) in g) | false ↦ (let g : length (names_of p es) ≡ 0 + count_of p es = omega (arith, rest) in g) ]) in
    cases (p e.0 e.1)

-- a count is the number of the names that pass
number_of : {S : Type 0} (p : LockName → Modes → Bool) → IsQuiet p → (m : HashMap LockName Modes S) (k : ℕ) → IsUnique eq-value.it m → k ≡ count_of p m.entries → IsNumber (λ n. p n (modes_at m n)) k
number_of p quiet m k unique is =
    let apart : IsDistinct same_name (keys m) = subst (λ (f : LockName → LockName → Bool). IsDistinct f (keys m)) (λ i a b. map_eq a b i) unique in
    record {
      names = names_of p m.entries;
      apart = distinct_of p m.entries apart;
      exact = exact_of p quiet m.entries apart;
      long = long_of p m.entries ∙ sym is;
    }

pub number_of_names : {S : Type 0} (m : HashMap LockName Modes S) (k : ℕ) → IsUnique eq-value.it m → k ≡ count_of is_name m.entries → IsNumber (λ n. is_held (modes_at m n)) k
number_of_names m k unique is = number_of is_name quiet_name m k unique is

pub number_of_ranged : {S : Type 0} (m : HashMap LockName Modes S) (k : ℕ) → IsUnique eq-value.it m → k ≡ count_of is_ranged_name m.entries → IsNumber (λ n. is_ranged (modes_at m n)) k
number_of_ranged m k unique is = number_of is_ranged_name quiet_ranged m k unique is

pub number_of_rows : {S : Type 0} (table : ℕ) (m : HashMap LockName Modes S) (k : ℕ) → IsUnique eq-value.it m → k ≡ count_of (is_row_of table) m.entries → IsNumber (λ n. is_row_name table n && is_held (modes_at m n)) k
number_of_rows table m k unique is = number_of (is_row_of table) (quiet_row table) m k unique is

pub number_of_written : {S : Type 0} (table : ℕ) (m : HashMap LockName Modes S) (k : ℕ) → IsUnique eq-value.it m → k ≡ count_of (is_written_of table) m.entries → IsNumber (λ n. is_row_name table n && writes (modes_at m n)) k
number_of_written table m k unique is = number_of (is_written_of table) (quiet_written table) m k unique is

-- A row filled by places is the tuple in the table's order.
use Rattle.std.proofs.Common.{◌≡◌, ℕ, zero, suc, ◌+◌, ◌<◌, ◌≤◌, Bool, false, cond, List, [], ◌∷◌, ◌++◌, length, get_or, drop, take, take-suc, length-append, length-take-le, drop_of_length-le, Option, Result, Ok, Err, refl, sym, ap, ◌∙◌, arith}
use Rattle.std.specs.Prelude.{◌==◌, slice_set, IfOk}
use Rattle.std.specs.declared.alloc.AllocError.{AllocError}
use Rattle.dby_types.specs.declared.state.SqlState.{SqlState}
use Rattle.dby_types.specs.declared.state.SqlState.TheVariants.{ValueCount}
use Rattle.dby_types.specs.declared.value.Ty.TheVariants.{Int}
use Rattle.expr_binder.proofs.Walks.{kept_then}
use Rattle.expr_binder.specs.Walking.{kept}
use Rattle.sql_binding.specs.Faults.{unless}
use Rattle.std.proofs.lemmas.Bool.{eq-eqb}
use Rattle.std.proofs.lemmas.Bool.Decides.{nat_tests}
use Rattle.expr_binder.specs.Seen.{spot_of}
use Rattle.expr_binder.specs.declared.names.Spot.{Spot as InCode}
use Rattle.change_binder.proofs.Chains.{behind, next_item, spots_both}
use Rattle.dby_types.specs.declared.definition.ColumnDef.{ColumnDef}
use Rattle.sql_ast.specs.declared.bound.Expr.{Expr}
use Rattle.sql_ast.specs.declared.statement.Item.{Item}
use Rattle.sql_binding.specs.Changes.{null_tree, item_tree, value_for, values_from, spots_of, storable_faults, own_faults, tuple_faults, count_faults}
use Rattle.sql_binding.specs.Names.{Spot}
use Rattle.sql_binding.specs.Trees.{Tree, tree_of, trees_of}
use Rattle.change_binder.specs.Binding.{Gives, TakesOne, Values, item_values, spots_in}
use Rattle.change_binder.specs.Filling.{Tupled, nulls, set_from, filled}

one_more : (n : ℕ) (columns : List ColumnDef) (s : Spot) (spots : List Spot) (i : Item) (items : List Item)
    → set_from n s.place (item_tree [] s.ty i) (values_from n columns spots items) ≡ values_from n columns (s ∷ spots) (i ∷ items)
one_more n [] s spots i items = refl
one_more n (c ∷ cs) s spots i items = ap (λ (l : List Tree). cond (s.place == n) (item_tree [] s.ty i) (value_for spots items n c.ty) ∷ l) (one_more (suc n) cs s spots i items)

none_yet : (n : ℕ) (columns : List ColumnDef) → nulls columns ≡ values_from n columns [] []
none_yet n [] = refl
none_yet n (c ∷ cs) = ap (λ (l : List Tree). null_tree c.ty ∷ l) (none_yet (suc n) cs)

-- THE TUPLE
pub filled_is : (columns : List ColumnDef) (spots : List Spot) (items : List Item) → length items ≡ length spots
    → filled spots (item_values spots items) (nulls columns) ≡ values_from 0 columns spots items
filled_is columns [] [] h = none_yet 0 columns
filled_is columns [] (i ∷ items) h = absurd (omega arith)
filled_is columns (s ∷ spots) [] h = absurd (omega arith)
filled_is columns (s ∷ spots) (i ∷ items) h =
    let less : length items ≡ length spots = omega arith in
    ap (set_from 0 s.place (item_tree [] s.ty i)) (filled_is columns spots items less) ∙ one_more 0 columns s spots i items

trees_both : (xs : List Expr) (x : Expr) (rest : List Tree) → trees_of (xs ++ x ∷ []) ++ rest ≡ trees_of xs ++ tree_of x ∷ rest
trees_both [] x rest = refl
trees_both (y ∷ ys) x rest = ap (λ (l : List Tree). tree_of y ∷ l) (trees_both ys x rest)

-- a column more of an empty row
pub null_more : (columns : List ColumnDef) (i : ℕ) (c : ColumnDef) (x : Expr) (xs ys : List Expr) (all : List Tree) → i < length columns → c ≡ get_or columns i c → tree_of x ≡ null_tree c.ty
    → ys ≡ xs ++ x ∷ [] → trees_of xs ++ nulls (drop i columns) ≡ all → trees_of ys ++ nulls (drop (i + 1) columns) ≡ all
null_more columns i c x xs ys all h is null more so =
    ap (λ (zs : List Expr). trees_of zs ++ nulls (drop (i + 1) columns)) more
    ∙ trees_both xs x (nulls (drop (i + 1) columns))
    ∙ ap (λ (t : Tree). trees_of xs ++ t ∷ nulls (drop (i + 1) columns)) null
    ∙ ap (λ (cs : List ColumnDef). trees_of xs ++ nulls cs) (sym (next_item columns i c h is)) ∙ so

-- a column more of all
pub column_more : (columns : List ColumnDef) (i : ℕ) (c : ColumnDef) (place next : ℕ) (xs ys : List InCode) (s : InCode) (all : List Spot) → i < length columns → c ≡ get_or columns i c
    → spot_of s ≡ record { place = place; ty = c.ty } → next ≡ place + 1 → ys ≡ xs ++ s ∷ [] → spots_in xs ++ spots_of place (drop i columns) ≡ all
    → spots_in ys ++ spots_of next (drop (i + 1) columns) ≡ all
column_more columns i c place next xs ys s all h is spot on more so =
    let at : next ≡ suc place = (let e : next ≡ place + 1 = on in omega arith) in
    ap (λ (zs : List InCode). spots_in zs ++ spots_of next (drop (i + 1) columns)) more
    ∙ spots_both xs s (spots_of next (drop (i + 1) columns))
    ∙ ap (λ (n : ℕ). spots_in xs ++ spot_of s ∷ spots_of n (drop (i + 1) columns)) at
    ∙ ap (λ (p : Spot). spots_in xs ++ p ∷ spots_of (suc place) (drop (i + 1) columns)) spot
    ∙ ap (λ (cs : List ColumnDef). spots_in xs ++ spots_of place cs) (sym (next_item columns i c h is)) ∙ so

-- one value put
unset : (n p : ℕ) (t : Tree) (ts : List Tree) → p < n → ts ≡ set_from n p t ts
unset n p t [] h = refl
unset n p t (u ∷ us) h =
    let other : (p == n) ≡ false = grind (arith, nat_tests) in
    ap (λ (l : List Tree). u ∷ l) (unset (suc n) p t us (omega arith)) ∙ ap (λ (b : Bool). cond b t u ∷ set_from (suc n) p t us) (sym other)

set_is : (n p : ℕ) (x : Expr) (xs : List Expr) → trees_of (slice_set xs p x) ≡ set_from n (p + n) (tree_of x) (trees_of xs)
set_is n p x [] = refl
set_is n zero x (y ∷ ys) = ap (λ (b : Bool). cond b (tree_of x) (tree_of y) ∷ trees_of ys) (sym (eq-eqb (0 + n) n (omega arith))) ∙ ap (λ (l : List Tree). cond (0 + n == n) (tree_of x) (tree_of y) ∷ l) (unset (suc n) (0 + n) (tree_of x) (trees_of ys) (omega arith))
set_is n (suc p) x (y ∷ ys) =
    let other : (suc p + n == n) ≡ false = grind (arith, nat_tests) in
    let on : p + suc n ≡ suc p + n = omega arith in
    ap (λ (l : List Tree). tree_of y ∷ l) (set_is (suc n) p x ys ∙ ap (λ (m : ℕ). set_from (suc n) m (tree_of x) (trees_of ys)) on)
    ∙ ap (λ (b : Bool). cond b (tree_of x) (tree_of y) ∷ set_from (suc n) (suc p + n) (tree_of x) (trees_of ys)) (sym other)

pub put_is : (p : ℕ) (x : Expr) (xs : List Expr) → trees_of (slice_set xs p x) ≡ set_from 0 p (tree_of x) (trees_of xs)
put_is p x xs = let at : p + 0 ≡ p = omega arith in set_is 0 p x xs ∙ ap (λ (m : ℕ). set_from 0 m (tree_of x) (trees_of xs)) at

past : (n p : ℕ) (t : Tree) (ts : List Tree) → length ts + n ≤ p → set_from n p t ts ≡ ts
past n p t [] h = refl
past n p t (u ∷ us) h =
    let other : (p == n) ≡ false = grind (arith, nat_tests) in
    ap (λ (b : Bool). cond b t u ∷ set_from (suc n) p t us) other ∙ ap (λ (l : List Tree). u ∷ l) (past (suc n) p t us (omega arith))

trees_long : (xs : List Expr) → length (trees_of xs) ≡ length xs
trees_long [] = refl
trees_long (x ∷ xs) = ap suc (trees_long xs)

pub not_put : (p : ℕ) (x : Expr) (xs : List Expr) → length xs ≤ p → trees_of xs ≡ set_from 0 p (tree_of x) (trees_of xs)
not_put p x xs h = let long : length (trees_of xs) ≡ length xs = trees_long xs in sym (past 0 p (tree_of x) (trees_of xs) (omega arith))

spots_long : (ss : List InCode) → length (spots_in ss) ≡ length ss
spots_long [] = refl
spots_long (s ∷ ss) = ap suc (spots_long ss)

trees_snoc : (xs : List Expr) (x : Expr) → trees_of (xs ++ x ∷ []) ≡ trees_of xs ++ tree_of x ∷ []
trees_snoc [] x = refl
trees_snoc (y ∷ ys) x = ap (λ (l : List Tree). tree_of y ∷ l) (trees_snoc ys x)

spots_snoc : (xs : List InCode) (s : InCode) → spots_in (xs ++ s ∷ []) ≡ spots_in xs ++ spot_of s ∷ []
spots_snoc [] s = refl
spots_snoc (y ∷ ys) s = ap (λ (l : List Spot). spot_of y ∷ l) (spots_snoc ys s)

-- the last value is put first
filled_snoc : (spots : List Spot) (s : Spot) (ts : List Tree) (t : Tree) (row : List Tree) → length ts ≡ length spots
    → filled (spots ++ s ∷ []) (ts ++ t ∷ []) row ≡ filled spots ts (set_from 0 s.place t row)
filled_snoc [] s [] t row h = refl
filled_snoc [] s (u ∷ ts) t row h = absurd (omega arith)
filled_snoc (r ∷ spots) s [] t row h = absurd (omega arith)
filled_snoc (r ∷ spots) s (u ∷ ts) t row h = let less : length ts ≡ length spots = omega arith in ap (set_from 0 r.place u) (filled_snoc spots s ts t row less)

pub fill_less : (n : ℕ) (xs ys : List Expr) (x : Expr) → xs ≡ ys ++ x ∷ [] → length xs ≤ n → length ys ≤ n
fill_less n xs ys x is h = let long : length xs ≡ length ys + 1 = ap length is ∙ length-append ys (x ∷ []) in omega arith

pub fill_step : (spots : List InCode) (d : InCode) (xs ys : List Expr) (x : Expr) (j : ℕ) (row next all : List Tree) → j ≡ length ys → xs ≡ ys ++ x ∷ [] → length xs ≤ length spots
    → next ≡ set_from 0 (get_or spots j d).place (tree_of x) row → filled (spots_in (take (length xs) spots)) (trees_of xs) row ≡ all
    → filled (spots_in (take (length ys) spots)) (trees_of ys) next ≡ all
fill_step spots d xs ys x j row next all at is h put so =
    let long : length xs ≡ length ys + 1 = ap length is ∙ length-append ys (x ∷ []) in
    let within : length ys < length spots = omega arith in
    let same : length (trees_of ys) ≡ length (spots_in (take (length ys) spots)) = trees_long ys ∙ sym (spots_long (take (length ys) spots) ∙ length-take-le (length ys) spots (omega arith)) in
    ap (filled (spots_in (take (length ys) spots)) (trees_of ys)) (put ∙ ap (λ (n : ℕ). set_from 0 (get_or spots n d).place (tree_of x) row) at)
    ∙ sym (filled_snoc (spots_in (take (length ys) spots)) (spot_of (get_or spots (length ys) d)) (trees_of ys) (tree_of x) row same)
    ∙ ap (λ (ss : List Spot). filled ss (trees_of ys ++ tree_of x ∷ []) row) (sym (spots_snoc (take (length ys) spots) (get_or spots (length ys) d)))
    ∙ ap (λ (ss : List InCode). filled (spots_in ss) (trees_of ys ++ tree_of x ∷ []) row) (sym (take-suc spots (length ys) d within))
    ∙ ap (λ (ts : List Tree). filled (spots_in (take (suc (length ys)) spots)) ts row) (sym (trees_snoc ys x))
    ∙ ap (λ (zs : List Expr). filled (spots_in (take (suc (length ys)) spots)) (trees_of zs) row) (sym is)
    ∙ ap (λ (n : ℕ). filled (spots_in (take n spots)) (trees_of xs) row) (let e : suc (length ys) ≡ length xs = omega arith in e) ∙ so

-- ONE VALUE more, for a column
pub some_takes : (spots : List InCode) (i : ℕ) (s : InCode) (item : Item) (f g : Option SqlState) (x : Expr) (xs ys : List Expr) → i < length spots → s ≡ get_or spots i s
    → Gives f g (item_tree [] s.ty item) (storable_faults [] s.ty item) x → ys ≡ xs ++ x ∷ [] → TakesOne f g (spots_in (drop i spots)) (spots_in (drop (i + 1) spots)) item xs ys
some_takes spots i s item f g x xs ys h is gives more = record {
  trees = λ items.
      ap (λ (zs : List Expr). trees_of zs ++ item_values (spots_in (drop (i + 1) spots)) items) more
      ∙ trees_both xs x (item_values (spots_in (drop (i + 1) spots)) items)
      ∙ ap (λ (t : Tree). trees_of xs ++ t ∷ item_values (spots_in (drop (i + 1) spots)) items) gives.tree
      ∙ ap (λ (ss : List InCode). trees_of xs ++ item_values (spots_in ss) (item ∷ items)) (sym (next_item spots i s h is));
  fault = λ items.
      ap (λ (o : Option SqlState). kept o (tuple_faults (spots_in (drop (i + 1) spots)) items)) gives.fault
      ∙ kept_then f (storable_faults [] s.ty item) (tuple_faults (spots_in (drop (i + 1) spots)) items)
      ∙ ap (λ (ss : List InCode). kept f (tuple_faults (spots_in ss) (item ∷ items))) (sym (next_item spots i s h is));
}

no_column : (items : List Item) → item_values [] items ≡ []
no_column [] = refl
no_column (i ∷ items) = refl

-- .. and behind the last column
pub none_takes : (spots : List InCode) (i : ℕ) (item : Item) (f g : Option SqlState) (x : Expr) (xs : List Expr) → length spots ≤ i
    → Gives f g (item_tree [] Int item) (own_faults [] item) x → TakesOne f g (spots_in (drop i spots)) (spots_in (drop (i + 1) spots)) item xs xs
none_takes spots i item f g x xs h gives =
    let next : length spots ≤ i + 1 = omega arith in
    let here : drop i spots ≡ [] = drop_of_length-le spots h in
    let then : drop (i + 1) spots ≡ [] = drop_of_length-le spots next in
    record {
      trees = λ items.
          ap (λ (ss : List InCode). trees_of xs ++ item_values (spots_in ss) items) then
          ∙ ap (λ (l : List Tree). trees_of xs ++ l) (no_column items)
          ∙ ap (λ (ss : List InCode). trees_of xs ++ item_values (spots_in ss) (item ∷ items)) (sym here);
      fault = λ items.
          ap (λ (ss : List InCode). kept g (tuple_faults (spots_in ss) items)) then
          ∙ ap (λ (o : Option SqlState). kept o (tuple_faults [] items)) gives.fault
          ∙ kept_then f (own_faults [] item) (tuple_faults [] items)
          ∙ ap (λ (ss : List InCode). kept f (tuple_faults (spots_in ss) (item ∷ items))) (sym here);
    }

values_long : (spots : List Spot) (items : List Item) → length items ≡ length spots → length (item_values spots items) ≡ length spots
values_long [] [] h = refl
values_long [] (i ∷ items) h = absurd (omega arith)
values_long (s ∷ spots) [] h = absurd (omega arith)
values_long (s ∷ spots) (i ∷ items) h = let less : length items ≡ length spots = omega arith in ap suc (values_long spots items less)

if_ok : {X E : Type 0} (P Q : X → Type 0) (r : Result X E) → IfOk r P → ((x : X) → P x → Q x) → IfOk r Q
if_ok P Q (Ok x) h f = f x h
if_ok P Q (Err e) h f = tt

-- THE TUPLE
pub tuple_is : (columns : List ColumnDef) (spots : List InCode) (items : List Item) (f g h : Option SqlState) (xs : List Expr) → Values f g (spots_in spots) items xs
    → h ≡ kept g (unless (length items == length spots) ValueCount) → (r : Result (List Expr) AllocError)
    → IfOk r (λ row. length xs ≡ length spots → trees_of row ≡ filled (spots_in spots) (trees_of xs) (nulls columns))
    → IfOk r (Tupled f h columns (spots_in spots) items)
tuple_is columns spots items f g h xs vs k r made = if_ok _ _ r made (λ row m. record {
  trees = λ e.
      let long : length xs ≡ length spots =
      sym (trees_long xs) ∙ ap length vs.trees ∙ values_long (spots_in spots) items e ∙ spots_long spots in
      m long ∙ ap (λ (ts : List Tree). filled (spots_in spots) ts (nulls columns)) vs.trees ∙ filled_is columns (spots_in spots) items e;
  fault = behind f g h (tuple_faults (spots_in spots) items) (count_faults (spots_in spots) items) vs.fault
      (k ∙ ap (λ (n : ℕ). kept g (unless (length items == n) ValueCount)) (sym (spots_long spots)));
})

-- Select items, and the columns that `*` shows, one behind the other.
use Rattle.std.proofs.Common.{◌≡◌, ℕ, suc, ◌+◌, ◌<◌, ◌≤◌, List, [], ◌∷◌, ◌++◌, length, drop, drop_of_length-le, get_or, Option, refl, sym, ap, ◌∙◌, subst, append_assoc, append-nil, arith}
use Rattle.change_binder.proofs.Chains.{next_item}
use Rattle.dby_types.specs.declared.definition.ColumnDef.{ColumnDef}
use Rattle.expr_binder.proofs.Arms.{goes_on}
use Rattle.expr_binder.proofs.Walks.{stays, walked_on}
use Rattle.expr_binder.specs.Seen.{sources_in, source_of}
use Rattle.expr_binder.specs.Walking.{Binds, Walked}
use Rattle.expr_binder.specs.declared.names.Source.{Source as InCode}
use Rattle.expr_binder.specs.declared.walk.Walk.{Walk}
use Rattle.query_binder.specs.Showing.{Lists, ListsOne, ListsColumns, ListsAll}
use Rattle.sql_ast.specs.declared.bound.Expr.{Expr}
use Rattle.sql_ast.specs.declared.bound.Out.{Out}
use Rattle.sql_ast.specs.declared.statement.OutText.{OutText}
use Rattle.sql_binding.specs.Bound.{Shown, shown_of}
use Rattle.sql_binding.specs.Expressions.{Scope, bound, calls}
use Rattle.sql_binding.specs.Faults.{faults, key_faults}
use Rattle.sql_binding.specs.Grouping.{sums_in, sums_of}
use Rattle.sql_binding.specs.Items.{calls_of, item_faults, out_name, shown_items, shown_columns, shown_tables, column_faults, all_faults}
use Rattle.sql_binding.specs.Names.{Source, width_of}
use Rattle.sql_binding.specs.Trees.{Tree, tree_of}

shown_snoc : (xs : List Out) (o : Out) (rest : List Shown) → shown_of (xs ++ o ∷ []) ++ rest ≡ shown_of xs ++ record { name = o.name; tree = tree_of o.expression } ∷ rest
shown_snoc [] o rest = refl
shown_snoc (x ∷ xs) o rest = ap (λ (l : List Shown). record { name = x.name; tree = tree_of x.expression } ∷ l) (shown_snoc xs o rest)

-- what is left of a walk over items
abbrev pub Goes : Scope → Walk → Walk → List OutText → Type 0
Goes s a v os = Walked a v (item_faults s a.next os) (calls_of os) (sums_of s.sources os)

-- SO FAR: with the rest it is all
pub record Listing (s : Scope) (texts : List OutText) (i position : ℕ) (start a : Walk) (outs : List Out) : Type 0 where
  pub at : position ≡ i
  pub shown : shown_of outs ++ shown_items s a.next (suc position) (drop i texts) ≡ shown_items s start.next 1 texts
  pub rest : (v : Walk) → Goes s a v (drop i texts) → Goes s start v texts

pub listing_begins : (s : Scope) (texts : List OutText) (a : Walk) → Listing s texts 0 0 a a []
listing_begins s texts a = record { at = refl; shown = refl; rest = λ v g. g }

pub item_more : (s : Scope) (texts : List OutText) (i p q : ℕ) (o : OutText) (start a b : Walk) (name : List ℕ) (x : Expr) (xs ys : List Out) → i < length texts → o ≡ get_or texts i o
    → Listing s texts i p start a xs → q ≡ p + 1 → name ≡ out_name q o → Binds s o.expression a b x → ys ≡ xs ++ record { name = name; expression = x } ∷ []
    → Listing s texts (i + 1) q start b ys
item_more s texts i p q o start a b name x xs ys k is l next n binds more =
    let here : q ≡ suc p = (let e : q ≡ p + 1 = next in omega arith) in
    record {
      at = next ∙ ap (λ (m : ℕ). m + 1) l.at;
      shown = ap (λ (zs : List Out). shown_of zs ++ shown_items s b.next (suc q) (drop (i + 1) texts)) more
          ∙ shown_snoc xs (record { name = name; expression = x }) (shown_items s b.next (suc q) (drop (i + 1) texts))
          ∙ ap (λ (t : Tree). shown_of xs ++ record { name = name; tree = t } ∷ shown_items s b.next (suc q) (drop (i + 1) texts)) binds.tree
          ∙ ap (λ (m : List ℕ). shown_of xs ++ record { name = m; tree = bound s a.next o.expression } ∷ shown_items s b.next (suc q) (drop (i + 1) texts)) n
          ∙ ap (λ (m : ℕ). shown_of xs ++ record { name = out_name q o; tree = bound s a.next o.expression } ∷ shown_items s m (suc q) (drop (i + 1) texts)) binds.walk.next
          ∙ ap (λ (m : ℕ). shown_of xs ++ shown_items s a.next m (o ∷ drop (i + 1) texts)) here
          ∙ ap (λ (os : List OutText). shown_of xs ++ shown_items s a.next (suc p) os) (sym (next_item texts i o k is)) ∙ l.shown;
      rest = λ v g. l.rest v (subst (Goes s a v) (sym (next_item texts i o k is))
          (goes_on (λ m. faults s m o.expression) (λ m. item_faults s m (drop (i + 1) texts)) (calls o.expression) (calls_of (drop (i + 1) texts)) (sums_in s.sources o.expression)
          (sums_of s.sources (drop (i + 1) texts)) a b v binds.walk g));
    }

pub items_end : (s : Scope) (texts : List OutText) (i p : ℕ) (start a : Walk) (xs : List Out) → length texts ≤ i → Listing s texts i p start a xs → Lists s texts start a xs
items_end s texts i p start a xs h l = record {
  shown = sym (append-nil (shown_of xs)) ∙ ap (λ (os : List OutText). shown_of xs ++ shown_items s a.next (suc p) os) (sym (drop_of_length-le texts h)) ∙ l.shown;
  walk = l.rest a (subst (Goes s a a) (sym (drop_of_length-le texts h)) (stays a));
}

-- ---- `*`

abbrev pub over : List Source → Option (List ℕ) → Scope
over ss keys = record { sources = ss; keys = keys }

abbrev pub Passes : Option (List ℕ) → ℕ → Walk → Walk → List ColumnDef → Type 0
Passes keys n a v cs = Walked a v (column_faults keys n cs) 0 []

pub record Columns (keys : Option (List ℕ)) (from : ℕ) (cs : List ColumnDef) (i place : ℕ) (start a : Walk) (begun outs : List Out) : Type 0 where
  pub at : place ≡ from + i
  pub shown : (ss : List Source) → shown_of outs ++ shown_columns (over ss keys) place (drop i cs) ≡ shown_of begun ++ shown_columns (over ss keys) from cs
  pub rest : (v : Walk) → Passes keys place a v (drop i cs) → Passes keys from start v cs

pub columns_begin : (keys : Option (List ℕ)) (from : ℕ) (cs : List ColumnDef) (a : Walk) (outs : List Out) → Columns keys from cs 0 from a a outs outs
columns_begin keys from cs a outs = record { at = (let h : from ≡ from + 0 = omega arith in h); shown = λ ss. refl; rest = λ v p. p }

pub column_more : (keys : Option (List ℕ)) (from : ℕ) (cs : List ColumnDef) (i p q : ℕ) (c : ColumnDef) (start a b : Walk) (o : Out) (begun xs ys : List Out) → i < length cs → c ≡ get_or cs i c
    → Columns keys from cs i p start a begun xs → ListsOne keys p c a b o → ys ≡ xs ++ o ∷ [] → q ≡ p + 1 → Columns keys from cs (i + 1) q start b begun ys
column_more keys from cs i p q c start a b o begun xs ys k is l one more next =
    let here : q ≡ suc p = (let e : q ≡ p + 1 = next in omega arith) in
    record {
      at = (let e : p ≡ from + i = l.at in let e2 : q ≡ p + 1 = next in omega arith);
      shown = λ ss. ap (λ (zs : List Out). shown_of zs ++ shown_columns (over ss keys) q (drop (i + 1) cs)) more
          ∙ shown_snoc xs o (shown_columns (over ss keys) q (drop (i + 1) cs))
          ∙ ap (λ (l : List Shown). shown_of xs ++ (l ++ shown_columns (over ss keys) q (drop (i + 1) cs))) (one.shown ss)
          ∙ ap (λ (n : ℕ). shown_of xs ++ (shown_columns (over ss keys) p (c ∷ []) ++ shown_columns (over ss keys) n (drop (i + 1) cs))) here
          ∙ ap (λ (ds : List ColumnDef). shown_of xs ++ shown_columns (over ss keys) p ds) (sym (next_item cs i c k is)) ∙ l.shown ss;
      rest = λ v g. l.rest v (subst (Passes keys p a v) (sym (next_item cs i c k is))
          (walked_on a b v (key_faults keys p) (column_faults keys (suc p) (drop (i + 1) cs)) 0 0 [] [] one.walk
          (subst (λ (n : ℕ). Passes keys n b v (drop (i + 1) cs)) here g)));
    }

pub columns_end : (keys : Option (List ℕ)) (from : ℕ) (cs : List ColumnDef) (i p : ℕ) (start a : Walk) (begun xs : List Out) → length cs ≤ i → Columns keys from cs i p start a begun xs
    → ListsColumns keys from cs start a begun xs
columns_end keys from cs i p start a begun xs h l = record {
  shown = λ ss. sym (append-nil (shown_of xs)) ∙ ap (λ (ds : List ColumnDef). shown_of xs ++ shown_columns (over ss keys) p ds) (sym (drop_of_length-le cs h)) ∙ l.shown ss;
  walk = l.rest a (subst (Passes keys p a a) (sym (drop_of_length-le cs h)) (stays a));
}

abbrev pub PassesAll : Option (List ℕ) → ℕ → Walk → Walk → List Source → Type 0
PassesAll keys n a v ss = Walked a v (all_faults keys n ss) 0 []

pub record Stars (keys : Option (List ℕ)) (sources : List InCode) (i at : ℕ) (start a : Walk) (outs : List Out) : Type 0 where
  pub shown : shown_of outs ++ shown_tables (over (sources_in sources) keys) at (sources_in (drop i sources)) ≡ shown_tables (over (sources_in sources) keys) 0 (sources_in sources)
  pub rest : (v : Walk) → PassesAll keys at a v (sources_in (drop i sources)) → PassesAll keys 0 start v (sources_in sources)

pub stars_begin : (keys : Option (List ℕ)) (sources : List InCode) (a : Walk) → Stars keys sources 0 0 a a []
stars_begin keys sources a = record { shown = refl; rest = λ v g. g }

pub table_more : (keys : Option (List ℕ)) (sources : List InCode) (i n m : ℕ) (t : InCode) (start a b : Walk) (xs ys : List Out) → i < length sources → t ≡ get_or sources i t
    → Stars keys sources i n start a xs → ListsColumns keys n t.columns.now a b xs ys → m ≡ n + length t.columns.now → Stars keys sources (i + 1) m start b ys
table_more keys sources i n m t start a b xs ys k is l one next =
    let rest = sources_in (drop (i + 1) sources) in
    let s = over (sources_in sources) keys in
    let there : sources_in (drop i sources) ≡ source_of t ∷ sources_in (drop (i + 1) sources) = ap sources_in (next_item sources i t k is) in
    record {
      shown = ap (λ (z : List Shown). z ++ shown_tables s m rest) (one.shown (sources_in sources))
          ∙ append_assoc (shown_of xs) (shown_columns s n t.columns.now) (shown_tables s m rest)
          ∙ ap (λ (p : ℕ). shown_of xs ++ (shown_columns s n t.columns.now ++ shown_tables s p rest)) next
          ∙ ap (λ (ts : List Source). shown_of xs ++ shown_tables s n ts) (sym there) ∙ l.shown;
      rest = λ v g. l.rest v (subst (PassesAll keys n a v) (sym there)
          (walked_on a b v (column_faults keys n t.columns.now) (all_faults keys (n + length t.columns.now) rest) 0 0 [] [] one.walk
          (subst (λ (p : ℕ). PassesAll keys p b v rest) next g)));
    }

pub stars_end : (keys : Option (List ℕ)) (sources : List InCode) (i n : ℕ) (start a : Walk) (xs : List Out) → length sources ≤ i → Stars keys sources i n start a xs
    → ListsAll (over (sources_in sources) keys) start a xs
stars_end keys sources i n start a xs h l = record {
  shown = sym (append-nil (shown_of xs)) ∙ ap (λ (ts : List InCode). shown_of xs ++ shown_tables (over (sources_in sources) keys) n (sources_in ts)) (sym (drop_of_length-le sources h)) ∙ l.shown;
  walk = l.rest a (subst (λ (ts : List InCode). PassesAll keys n a a (sources_in ts)) (sym (drop_of_length-le sources h)) (stays a));
}

pub stars_fit : (sources : List InCode) (i n all : ℕ) (t : InCode) → i < length sources → t ≡ get_or sources i t → n + width_of (sources_in (drop i sources)) ≡ all
    → n + length t.columns.now + width_of (sources_in (drop (i + 1) sources)) ≡ all
stars_fit sources i n all t k is h =
    let there : width_of (sources_in (drop i sources)) ≡ length t.columns.now + width_of (sources_in (drop (i + 1) sources)) = ap (λ (l : List InCode). width_of (sources_in l)) (next_item sources i t k is) in
    omega arith

pub shown_long : (xs : List Out) → length xs ≡ length (shown_of xs)
shown_long [] = refl
shown_long (x ∷ xs) = ap suc (shown_long xs)

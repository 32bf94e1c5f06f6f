-- Faults behind faults, and lists one longer.
use Rattle.std.proofs.Common.{◌≡◌, ℕ, suc, ◌+◌, ◌<◌, List, [], ◌∷◌, ◌++◌, length, get_or, drop, drop-cons, Option, refl, sym, ap, ◌∙◌, subst, arith}
use Rattle.dby_types.specs.declared.definition.ColumnDef.{ColumnDef}
use Rattle.dby_types.specs.declared.state.SqlState.{SqlState}
use Rattle.dby_types.specs.declared.value.Ty.{Ty}
use Rattle.expr_binder.proofs.Walks.{kept_then}
use Rattle.expr_binder.specs.Seen.{spot_of}
use Rattle.expr_binder.specs.Walking.{kept}
use Rattle.expr_binder.specs.declared.names.Spot.{Spot as InCode}
use Rattle.sql_ast.specs.declared.bound.BoundSet.{BoundSet}
use Rattle.sql_ast.specs.declared.bound.Expr.{Expr}
use Rattle.sql_ast.specs.declared.statement.Item.{Item}
use Rattle.sql_ast.specs.declared.statement.SetText.{SetText}
use Rattle.sql_binding.specs.Bound.{Put, puts_of}
use Rattle.sql_binding.specs.Changes.{target_of, target_or, target_faults, targets_named, missing_targets, puts, set_faults, storable_faults, item_tree, own_faults}
use Rattle.sql_binding.specs.Faults.{unless}
use Rattle.sql_binding.specs.Names.{Source, Spot}
use Rattle.sql_binding.specs.Trees.{Tree, tree_of, ty_of}
use Rattle.sql_binding.specs.Types.{same_kind}
use Rattle.dby_types.specs.declared.state.SqlState.TheVariants.{NotStorable}
use Rattle.change_binder.specs.Binding.{Gives, Aims, spots_in}

-- one fault list behind another
pub behind : (f g h : Option SqlState) (fs gs : List SqlState) → g ≡ kept f fs → h ≡ kept g gs → h ≡ kept f (fs ++ gs)
behind f g h fs gs e k = k ∙ ap (λ (o : Option SqlState). kept o gs) e ∙ kept_then f fs gs

-- what is left behind a step
pub less_left : (f g i : Option SqlState) (fs rest all : List SqlState) → g ≡ kept f fs → kept f (fs ++ rest) ≡ kept i all → kept g rest ≡ kept i all
less_left f g i fs rest all e so = ap (λ (o : Option SqlState). kept o rest) e ∙ kept_then f fs rest ∙ so

pub stored : (f g h : Option SqlState) (ss : List Source) (ty : Ty) (item : Item) (x : Expr) (t : Ty) → Gives f g (item_tree ss ty item) (own_faults ss item) x
    → t ≡ ty_of (tree_of x) → h ≡ kept g (unless (same_kind ty t) NotStorable) → Gives f h (item_tree ss ty item) (storable_faults ss ty item) x
stored f g h ss ty item x t gives is k = record {
  tree = gives.tree;
  fault = behind f g h (own_faults ss item) (unless (same_kind ty (ty_of (item_tree ss ty item))) NotStorable) gives.fault
      (k ∙ ap (λ (u : Ty). kept g (unless (same_kind ty u) NotStorable)) (is ∙ ap ty_of gives.tree));
}

pub spots_both : (xs : List InCode) (s : InCode) (rest : List Spot) → spots_in (xs ++ s ∷ []) ++ rest ≡ spots_in xs ++ spot_of s ∷ rest
spots_both [] s rest = refl
spots_both (x ∷ xs) s rest = ap (λ (l : List Spot). spot_of x ∷ l) (spots_both xs s rest)

pub next_item : {X : Type 0} (xs : List X) (j : ℕ) (x : X) → j < length xs → x ≡ get_or xs j x → drop j xs ≡ x ∷ drop (j + 1) xs
next_item xs j x k e = let at : suc j ≡ j + 1 = omega arith in drop-cons xs j x k ∙ ap (λ m. m ∷ drop (suc j) xs) (sym e) ∙ ap (λ (d : ℕ). x ∷ drop d xs) at

-- a name more of a column list
pub name_spots : (columns : List ColumnDef) (names : List (List ℕ)) (i : ℕ) (name : List ℕ) (f g : Option SqlState) (xs ys : List InCode) (s : InCode) (all : List Spot) → i < length names → name ≡ get_or names i name
    → Aims f g columns name s → ys ≡ xs ++ s ∷ [] → spots_in xs ++ targets_named columns (drop i names) ≡ all → spots_in ys ++ targets_named columns (drop (i + 1) names) ≡ all
name_spots columns names i name f g xs ys s all h is a more so =
    ap (λ (zs : List InCode). spots_in zs ++ targets_named columns (drop (i + 1) names)) more
    ∙ spots_both xs s (targets_named columns (drop (i + 1) names))
    ∙ ap (λ (p : Spot). spots_in xs ++ p ∷ targets_named columns (drop (i + 1) names)) a.spot
    ∙ ap (λ (ns : List (List ℕ)). spots_in xs ++ targets_named columns ns) (sym (next_item names i name h is)) ∙ so

pub name_faults : (columns : List ColumnDef) (names : List (List ℕ)) (i : ℕ) (name : List ℕ) (f g all : Option SqlState) (s : InCode) → i < length names → name ≡ get_or names i name
    → Aims f g columns name s → kept f (missing_targets columns (drop i names)) ≡ all → kept g (missing_targets columns (drop (i + 1) names)) ≡ all
name_faults columns names i name f g all s h is a so =
    ap (λ (u : Option SqlState). kept u (missing_targets columns (drop (i + 1) names))) a.fault
    ∙ kept_then f (target_faults (target_of columns name)) (missing_targets columns (drop (i + 1) names))
    ∙ ap (λ (ns : List (List ℕ)). kept f (missing_targets columns ns)) (sym (next_item names i name h is)) ∙ so

puts_both : (xs : List BoundSet) (s : BoundSet) (rest : List Put) → puts_of (xs ++ s ∷ []) ++ rest ≡ puts_of xs ++ record { column = s.column; tree = tree_of s.value } ∷ rest
puts_both [] s rest = refl
puts_both (x ∷ xs) s rest = ap (λ (l : List Put). record { column = x.column; tree = tree_of x.value } ∷ l) (puts_both xs s rest)

-- a column more of SET
pub set_puts : (columns : List ColumnDef) (ss : List Source) (texts : List SetText) (i : ℕ) (text : SetText) (f g h : Option SqlState) (s : InCode) (x : Expr) (xs ys : List BoundSet) (all : List Put)
    → i < length texts → text ≡ get_or texts i text → Aims f g columns text.column s → Gives g h (item_tree ss s.ty text.item) (storable_faults ss s.ty text.item) x
    → ys ≡ xs ++ record { column = s.place; value = x } ∷ []
    → puts_of xs ++ puts columns ss (drop i texts) ≡ all → puts_of ys ++ puts columns ss (drop (i + 1) texts) ≡ all
set_puts columns ss texts i text f g h s x xs ys all k is a gives more so =
    ap (λ (zs : List BoundSet). puts_of zs ++ puts columns ss (drop (i + 1) texts)) more
    ∙ puts_both xs (record { column = s.place; value = x }) (puts columns ss (drop (i + 1) texts))
    ∙ ap (λ (t : Tree). puts_of xs ++ record { column = s.place; tree = t } ∷ puts columns ss (drop (i + 1) texts)) gives.tree
    ∙ ap (λ (p : Spot). puts_of xs ++ record { column = p.place; tree = item_tree ss p.ty text.item } ∷ puts columns ss (drop (i + 1) texts)) a.spot
    ∙ ap (λ (ts : List SetText). puts_of xs ++ puts columns ss ts) (sym (next_item texts i text k is)) ∙ so

pub set_kept : (columns : List ColumnDef) (ss : List Source) (texts : List SetText) (i : ℕ) (text : SetText) (f g h all : Option SqlState) (s : InCode) (x : Expr)
    → i < length texts → text ≡ get_or texts i text → Aims f g columns text.column s → Gives g h (item_tree ss s.ty text.item) (storable_faults ss s.ty text.item) x
    → kept f (set_faults columns ss (drop i texts)) ≡ all → kept h (set_faults columns ss (drop (i + 1) texts)) ≡ all
set_kept columns ss texts i text f g h all s x k is a gives so =
    let rest = set_faults columns ss (drop (i + 1) texts) in
    ap (λ (u : Option SqlState). kept u rest) gives.fault
    ∙ kept_then g (storable_faults ss s.ty text.item) rest
    ∙ ap (λ (p : Spot). kept g (storable_faults ss p.ty text.item ++ rest)) a.spot
    ∙ ap (λ (u : Option SqlState). kept u (storable_faults ss (target_or (target_of columns text.column)).ty text.item ++ rest)) a.fault
    ∙ kept_then f (target_faults (target_of columns text.column)) (storable_faults ss (target_or (target_of columns text.column)).ty text.item ++ rest)
    ∙ ap (λ (ts : List SetText). kept f (set_faults columns ss ts)) (sym (next_item texts i text k is)) ∙ so

pub aims_at : {f g : Option SqlState} {columns : List ColumnDef} {a b : List ℕ} {s : InCode} → a ≡ b → Aims f g columns a s → Aims f g columns b s
aims_at {f} {g} {columns} {a} {b} {s} h k = subst (λ (n : List ℕ). Aims f g columns n s) h k

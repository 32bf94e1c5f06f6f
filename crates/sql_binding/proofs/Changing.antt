-- INSERT's tuples, and conjuncts.
use Rattle.std.proofs.Common.{◌≡◌, ℕ, suc, Bool, true, false, cond, List, [], ◌∷◌, ◌++◌, length, refl, sym, ap, ◌∙◌, arith}
use Rattle.std.specs.Prelude.{◌==◌}
use Rattle.std.proofs.lemmas.List.{append_assoc}
use Rattle.dby_types.specs.declared.definition.ColumnDef.{ColumnDef}
use Rattle.dby_types.specs.declared.value.Ty.{Ty}
use Rattle.sql_ast.specs.declared.bound.Expr.{Expr}
use Rattle.sql_ast.specs.declared.bound.Node.{Node, Column, Literal, Arithmetic', Negated', Compare', IsNull', Between', In', And', Or', Not'}
use Rattle.sql_ast.specs.declared.expression.Expression.{Expression}
use Rattle.sql_ast.specs.declared.statement.Item.{Item}
use Rattle.sql_binding.specs.Changes.{targets_named, item_tree, value_for, values_from, tuple_trees, tuples_trees, spots_of}
use Rattle.sql_binding.specs.Laws.{AreClassesFrom, classes, item_trees, places_of}
use Rattle.sql_model.specs.Inserting.{item_for, items_from, in_table_order}
use Rattle.sql_binding.specs.Expressions.{bound_over, conjuncts_of}
use Rattle.sql_binding.specs.Names.{Source, Spot}
use Rattle.sql_binding.specs.Trees.{Tree, conjuncts_in, node_tree, tree_of, trees_of}
use Rattle.sql_model.specs.Where.{node_conjuncts}
use Rattle.table_model.specs.Tables.{Each}

values_long : (n : ℕ) (columns : List ColumnDef) (spots : List Spot) (items : List Item) → length (values_from n columns spots items) ≡ length columns
values_long n [] spots items = refl
values_long n (c ∷ cs) spots items = let more : length (values_from (suc n) cs spots items) ≡ length cs = values_long (suc n) cs spots items in omega arith

pub tuples_long : (columns : List ColumnDef) (spots : List Spot) (ts : List (List Item)) → Each (λ (t : List Tree). length t ≡ length columns) (tuples_trees columns spots ts)
tuples_long columns spots [] = tt
tuples_long columns spots (t ∷ ts) = (values_long 0 columns spots t, tuples_long columns spots ts)

pub targets_long : (columns : List ColumnDef) (names : List (List ℕ)) → length (targets_named columns names) ≡ length names
targets_long columns [] = refl
targets_long columns (name ∷ names) = let more : length (targets_named columns names) ≡ length names = targets_long columns names in omega arith

pub all_targets_long : (n : ℕ) (columns : List ColumnDef) → length (spots_of n columns) ≡ length columns
all_targets_long n [] = refl
all_targets_long n (c ∷ cs) = let more : length (spots_of (suc n) cs) ≡ length cs = all_targets_long (suc n) cs in omega arith

-- ---- conjuncts
pub conjuncts_append : (ss : List Source) (cs ds : List Expression) → conjuncts_of ss (cs ++ ds) ≡ conjuncts_of ss cs ++ conjuncts_of ss ds
conjuncts_append ss [] ds = refl
conjuncts_append ss (c ∷ cs) ds =
    ap (λ (ts : List Tree). conjuncts_in (bound_over ss c) ++ ts) (conjuncts_append ss cs ds)
    ∙ sym (append_assoc (conjuncts_in (bound_over ss c)) (conjuncts_of ss cs) (conjuncts_of ss ds))

trees_append : (es fs : List Expr) → trees_of (es ++ fs) ≡ trees_of es ++ trees_of fs
trees_append [] fs = refl
trees_append (e ∷ es) fs = ap (λ (ts : List Tree). tree_of e ∷ ts) (trees_append es fs)

-- the meaning splits a condition where the binding does
pub split_alike : (n : Node) (ty : Ty) → trees_of (node_conjuncts n ty) ≡ conjuncts_in (node_tree n ty)
split_alike (And' p a s q b t) ty =
    trees_append (node_conjuncts a s) (node_conjuncts b t)
    ∙ ap (λ (ts : List Tree). ts ++ trees_of (node_conjuncts b t)) (split_alike a s)
    ∙ ap (λ (ts : List Tree). conjuncts_in (node_tree a s) ++ ts) (split_alike b t)
split_alike (Column n) ty = refl
split_alike (Literal v) ty = refl
split_alike (Arithmetic' op p a s q b t) ty = refl
split_alike (Negated' p a s) ty = refl
split_alike (Compare' op p a s q b t) ty = refl
split_alike (IsNull' deny p a s) ty = refl
split_alike (Between' deny p a s q b t r c u) ty = refl
split_alike (In' deny p a s shape members) ty = refl
split_alike (Or' p a s q b t) ty = refl
split_alike (Not' p a s) ty = refl

-- ---- the table's order, as the meaning has it
tail_is : (a b : Tree) (as_ bs : List Tree) → a ∷ as_ ≡ b ∷ bs → (a ≡ b) × (as_ ≡ bs)
tail_is a b as_ bs h = (cc, cc)

value_alike : (spots : List Spot) (items : List Item) (es : List Expr) (n : ℕ) (c : ColumnDef) → trees_of es ≡ item_trees spots items
    → tree_of (item_for (places_of spots) es n c) ≡ value_for spots items n c.ty
value_alike [] items es n c h = refl
value_alike (s ∷ ss) [] [] n c h = refl
value_alike (s ∷ ss) [] (e ∷ es) n c h = absurd (cc)
value_alike (s ∷ ss) (item ∷ items) [] n c h = absurd (cc)
value_alike (s ∷ ss) (item ∷ items) (e ∷ es) n c h =
    let both : (tree_of e ≡ item_tree [] s.ty item) × (trees_of es ≡ item_trees ss items) = tail_is (tree_of e) (item_tree [] s.ty item) (trees_of es) (item_trees ss items) h in
    step (s.place == n) both.0 (value_alike ss items es n c both.1)
  where
    step : (b : Bool) → tree_of e ≡ item_tree [] s.ty item → tree_of (item_for (places_of ss) es n c) ≡ value_for ss items n c.ty
        → tree_of (cond b e (item_for (places_of ss) es n c)) ≡ cond b (item_tree [] s.ty item) (value_for ss items n c.ty)
    step true here more = here
    step false here more = more

values_alike : (n : ℕ) (columns : List ColumnDef) (spots : List Spot) (items : List Item) (es : List Expr) → trees_of es ≡ item_trees spots items
    → trees_of (items_from n columns (places_of spots) es) ≡ values_from n columns spots items
values_alike n [] spots items es h = refl
values_alike n (c ∷ cs) spots items es h =
    ap (λ (t : Tree). t ∷ trees_of (items_from (suc n) cs (places_of spots) es)) (value_alike spots items es n c h)
    ∙ ap (λ (ts : List Tree). value_for spots items n c.ty ∷ ts) (values_alike (suc n) cs spots items es h)

pub tuple_alike : (columns : List ColumnDef) (spots : List Spot) (items : List Item) (es : List Expr) → trees_of es ≡ item_trees spots items
    → trees_of (in_table_order columns (places_of spots) es) ≡ tuple_trees columns spots items
tuple_alike columns spots items es h = values_alike 0 columns spots items es h

pub classes_in_order : AreClassesFrom 0 classes
classes_in_order =
    ((refl, (refl, (refl, tt))), ((refl, (refl, (refl, tt))), ((refl, tt), ((refl, (refl, (refl, tt))), ((refl, tt), ((refl, tt), ((refl, tt), ((refl, tt), tt))))))))

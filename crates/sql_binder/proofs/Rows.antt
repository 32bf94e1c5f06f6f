-- The tuples of INSERT, one behind the other.
use Rattle.std.proofs.Common.{◌≡◌, ℕ, ◌+◌, ◌<◌, ◌≤◌, Bool, true, false, List, [], ◌∷◌, ◌++◌, length, drop, drop_of_length-le, get_or, Option, Some, None, refl, sym, ap, ◌∙◌, subst, append_assoc, append-nil, arith}
use Rattle.std.specs.Prelude.{map, ◌==◌}
use Rattle.std.proofs.lemmas.Bool.Decides.{nat_tests}
use Rattle.change_binder.proofs.Chains.{behind, next_item}
use Rattle.change_binder.specs.Filling.{Tupled}
use Rattle.dby_types.specs.declared.definition.ColumnDef.{ColumnDef}
use Rattle.dby_types.specs.declared.state.SqlState.{SqlState}
use Rattle.dby_types.specs.declared.state.SqlState.TheVariants.{ValueCount}
use Rattle.expr_binder.proofs.Walks.{kept_then}
use Rattle.expr_binder.specs.Walking.{kept}
use Rattle.sql_ast.specs.declared.bound.Expr.{Expr}
use Rattle.sql_ast.specs.declared.statement.Item.{Item}
use Rattle.sql_binding.specs.Changes.{tuple_trees, tuples_trees, tuple_faults, count_faults, tuples_faults}
use Rattle.sql_binding.specs.Faults.{unless}
use Rattle.sql_binding.specs.Names.{Spot}
use Rattle.sql_binding.specs.Trees.{Tree, trees_of}
use Rattle.sql_binder.specs.Making.{Fills}

pub left_none : {X : Type 0} (xs ys : List X) → xs ++ ys ≡ [] → xs ≡ []
left_none [] ys h = refl
left_none (x ∷ xs) ys h = absurd (grind (arith, h))

pub right_none : {X : Type 0} (xs ys : List X) → xs ++ ys ≡ [] → ys ≡ []
right_none [] ys h = h
right_none (x ∷ xs) ys h = absurd (grind (arith, h))

as_many : (n m : ℕ) → unless (n == m) ValueCount ≡ [] → n ≡ m
as_many n m h = so (n == m) refl h
  where
    so : (b : Bool) → b ≡ (n == m) → unless b ValueCount ≡ [] → n ≡ m
    so true e k = grind (arith, nat_tests, e)
    so false e k = absurd (grind (arith, k))

-- SO FAR: with the rest it is all, where nothing is wrong
pub record Filling (spots : List Spot) (columns : List ColumnDef) (tuples : List (List Item)) (i : ℕ) (f g : Option SqlState) (rows : List (List Expr)) : Type 0 where
  pub quiet : tuples_faults spots tuples ≡ [] → tuples_faults spots (drop i tuples) ≡ []
  pub trees : tuples_faults spots tuples ≡ [] → map trees_of rows ++ tuples_trees columns spots (drop i tuples) ≡ tuples_trees columns spots tuples
  pub fault : kept g (tuples_faults spots (drop i tuples)) ≡ kept f (tuples_faults spots tuples)

map_both : (xs : List (List Expr)) (x : List Expr) (rest : List (List Tree)) → map trees_of (xs ++ x ∷ []) ++ rest ≡ map trees_of xs ++ trees_of x ∷ rest
map_both [] x rest = refl
map_both (y ∷ ys) x rest = ap (λ (l : List (List Tree)). trees_of y ∷ l) (map_both ys x rest)

pub row_more : (spots : List Spot) (columns : List ColumnDef) (tuples : List (List Item)) (i : ℕ) (t : List Item) (f g h : Option SqlState) (row : List Expr) (xs ys : List (List Expr)) {items : List Item} → i < length tuples → t ≡ get_or tuples i t
    → Filling spots columns tuples i f g xs → items ≡ t → Tupled g h columns spots items row → ys ≡ xs ++ row ∷ [] → Filling spots columns tuples (i + 1) f h ys
row_more spots columns tuples i t f g h row xs ys {items} k is l at made more =
    let tupled : Tupled g h columns spots t row = subst (λ (u : List Item). Tupled g h columns spots u row) at made in
    let rest = tuples_faults spots (drop (i + 1) tuples) in
    let here : drop i tuples ≡ t ∷ drop (i + 1) tuples = next_item tuples i t k is in
    let quiet_here = λ (q : tuples_faults spots tuples ≡ []). sym (ap (tuples_faults spots) here) ∙ l.quiet q in
    record {
      quiet = λ q. right_none (count_faults spots t) rest (right_none (tuple_faults spots t) (count_faults spots t ++ rest) (quiet_here q));
      trees = λ q.
          let long : length t ≡ length spots = as_many (length t) (length spots) (left_none (count_faults spots t) rest (right_none (tuple_faults spots t) (count_faults spots t ++ rest) (quiet_here q))) in
          ap (λ (zs : List (List Expr)). map trees_of zs ++ tuples_trees columns spots (drop (i + 1) tuples)) more
          ∙ map_both xs row (tuples_trees columns spots (drop (i + 1) tuples))
          ∙ ap (λ (ts : List Tree). map trees_of xs ++ ts ∷ tuples_trees columns spots (drop (i + 1) tuples)) (tupled.trees long)
          ∙ ap (λ (us : List (List Item)). map trees_of xs ++ tuples_trees columns spots us) (sym here) ∙ l.trees q;
      fault = ap (λ (o : Option SqlState). kept o rest) tupled.fault
          ∙ kept_then g (tuple_faults spots t ++ count_faults spots t) rest
          ∙ ap (kept g) (append_assoc (tuple_faults spots t) (count_faults spots t) rest)
          ∙ ap (λ (us : List (List Item)). kept g (tuples_faults spots us)) (sym here) ∙ l.fault;
    }

kept_none : (o : Option SqlState) → o ≡ kept o []
kept_none None = refl
kept_none (Some why) = refl

pub rows_end : (spots : List Spot) (columns : List ColumnDef) (tuples : List (List Item)) (i : ℕ) (f g : Option SqlState) (xs : List (List Expr)) → length tuples ≤ i → Filling spots columns tuples i f g xs
    → Fills f g columns spots tuples xs
rows_end spots columns tuples i f g xs h l = record {
  trees = λ q. sym (append-nil (map trees_of xs)) ∙ ap (λ (us : List (List Item)). map trees_of xs ++ tuples_trees columns spots us) (sym (drop_of_length-le tuples h)) ∙ l.trees q;
  fault = kept_none g ∙ ap (λ (us : List (List Item)). kept g (tuples_faults spots us)) (sym (drop_of_length-le tuples h)) ∙ l.fault;
}

-- GROUP BY and ORDER BY, one key behind the other.
use Rattle.std.proofs.Common.{◌≡◌, ℕ, ◌+◌, ◌<◌, ◌≤◌, List, [], ◌∷◌, ◌++◌, length, drop, drop_of_length-le, get_or, Option, Some, None, refl, sym, ap, ◌∙◌, append_assoc, append-nil}
use Rattle.change_binder.proofs.Chains.{next_item}
use Rattle.dby_types.specs.declared.state.SqlState.{SqlState}
use Rattle.expr_binder.proofs.Walks.{kept_then}
use Rattle.expr_binder.specs.Walking.{kept}
use Rattle.query_binder.specs.Showing.{Groups, Aims, Orders}
use Rattle.sql_ast.specs.declared.bound.OrderKey.{OrderKey}
use Rattle.sql_ast.specs.declared.statement.GroupText.{GroupText}
use Rattle.sql_ast.specs.declared.statement.OrderText.{OrderText}
use Rattle.sql_binding.specs.Bound.{Shown}
use Rattle.sql_binding.specs.Grouping.{key_places, group_faults}
use Rattle.sql_binding.specs.Names.{Source, column_named, spot_or, spot_faults}
use Rattle.sql_binding.specs.Ordering.{order_of, order_faults, order_faults_of, order_place, or_first}

-- what is left of a loop: with the rest it is all
pub record Grouping (ss : List Source) (texts : List GroupText) (i : ℕ) (f g : Option SqlState) (ps : List ℕ) : Type 0 where
  pub places : ps ++ key_places ss (drop i texts) ≡ key_places ss texts
  pub fault : kept g (group_faults ss (drop i texts)) ≡ kept f (group_faults ss texts)

pub key_more : (ss : List Source) (texts : List GroupText) (i : ℕ) (t : GroupText) (f g h : Option SqlState) (p : ℕ) (ps qs : List ℕ) → i < length texts → t ≡ get_or texts i t
    → Grouping ss texts i f g ps → (p ≡ (spot_or (column_named ss t.table t.column)).place) × (h ≡ kept g (spot_faults (column_named ss t.table t.column))) → qs ≡ ps ++ p ∷ []
    → Grouping ss texts (i + 1) f h qs
key_more ss texts i t f g h p ps qs k is l was more = record {
  places = ap (λ (xs : List ℕ). xs ++ key_places ss (drop (i + 1) texts)) more ∙ append_assoc ps (p ∷ []) (key_places ss (drop (i + 1) texts))
      ∙ ap (λ (n : ℕ). ps ++ n ∷ key_places ss (drop (i + 1) texts)) was.0
      ∙ ap (λ (ts : List GroupText). ps ++ key_places ss ts) (sym (next_item texts i t k is)) ∙ l.places;
  fault = ap (λ (o : Option SqlState). kept o (group_faults ss (drop (i + 1) texts))) was.1
      ∙ kept_then g (spot_faults (column_named ss t.table t.column)) (group_faults ss (drop (i + 1) texts))
      ∙ ap (λ (ts : List GroupText). kept g (group_faults ss ts)) (sym (next_item texts i t k is)) ∙ l.fault;
}

kept_none : (o : Option SqlState) → o ≡ kept o []
kept_none None = refl
kept_none (Some why) = refl

pub keys_end : (ss : List Source) (texts : List GroupText) (i : ℕ) (f g : Option SqlState) (ps : List ℕ) → length texts ≤ i → Grouping ss texts i f g ps → Groups ss texts f g ps
keys_end ss texts i f g ps h l = record {
  places = sym (append-nil ps) ∙ ap (λ (ts : List GroupText). ps ++ key_places ss ts) (sym (drop_of_length-le texts h)) ∙ l.places;
  fault = kept_none g ∙ ap (λ (ts : List GroupText). kept g (group_faults ss ts)) (sym (drop_of_length-le texts h)) ∙ l.fault;
}

pub record Ordering (shown : List Shown) (texts : List OrderText) (i : ℕ) (f g : Option SqlState) (ks : List OrderKey) : Type 0 where
  pub keys : ks ++ order_of shown (drop i texts) ≡ order_of shown texts
  pub fault : kept g (order_faults shown (drop i texts)) ≡ kept f (order_faults shown texts)

pub order_more : (shown : List Shown) (texts : List OrderText) (i : ℕ) (t : OrderText) (f g h : Option SqlState) (p : ℕ) (found : Option ℕ) (ks ls : List OrderKey) → i < length texts → t ≡ get_or texts i t
    → Ordering shown texts i f g ks → found ≡ order_place shown t.by → Aims found g h p → ls ≡ ks ++ record { place = p; descends = t.descends } ∷ [] → Ordering shown texts (i + 1) f h ls
order_more shown texts i t f g h p found ks ls k is l at aims more = record {
  keys = ap (λ (xs : List OrderKey). xs ++ order_of shown (drop (i + 1) texts)) more ∙ append_assoc ks (record { place = p; descends = t.descends } ∷ []) (order_of shown (drop (i + 1) texts))
      ∙ ap (λ (n : ℕ). ks ++ record { place = n; descends = t.descends } ∷ order_of shown (drop (i + 1) texts)) (aims.place ∙ ap or_first at)
      ∙ ap (λ (ts : List OrderText). ks ++ order_of shown ts) (sym (next_item texts i t k is)) ∙ l.keys;
  fault = ap (λ (o : Option SqlState). kept o (order_faults shown (drop (i + 1) texts))) (aims.fault ∙ ap (λ (o : Option ℕ). kept g (order_faults_of o)) at)
      ∙ kept_then g (order_faults_of (order_place shown t.by)) (order_faults shown (drop (i + 1) texts))
      ∙ ap (λ (ts : List OrderText). kept g (order_faults shown ts)) (sym (next_item texts i t k is)) ∙ l.fault;
}

pub order_ends : (shown : List Shown) (texts : List OrderText) (i : ℕ) (f g : Option SqlState) (ks : List OrderKey) → length texts ≤ i → Ordering shown texts i f g ks → Orders shown texts f g ks
order_ends shown texts i f g ks h l = record {
  keys = sym (append-nil ks) ∙ ap (λ (ts : List OrderText). ks ++ order_of shown ts) (sym (drop_of_length-le texts h)) ∙ l.keys;
  fault = kept_none g ∙ ap (λ (ts : List OrderText). kept g (order_faults shown ts)) (sym (drop_of_length-le texts h)) ∙ l.fault;
}

-- a place behind so many
abbrev pub behind_all : ℕ → Option ℕ → Option ℕ
behind_all n None = None
behind_all n (Some m) = Some (n + m)

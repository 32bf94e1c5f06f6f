-- ORDER BY is a total order, and where NULL stands in it.
use Rattle.std.proofs.Common.{◌≡◌, ◌≢◌, Bool, true, false, List, [], ◌∷◌, refl, ap, ◌∙◌}
use Rattle.std.specs.Ordering.{on, ordering_then}
use Rattle.std.specs.declared.cmp.Ordering.{Ordering}
use Rattle.std.specs.declared.cmp.Ordering.TheVariants.{Less, Greater}
use Rattle.std.specs.Cmp.{IsTotalOrder, on_total, then_total, back_total}
use Rattle.dby_types.specs.declared.value.Value.{Value}
use Rattle.dby_types.specs.declared.value.Value.TheVariants.{Null, Num, Text}
use Rattle.dby_types.specs.declared.value.Value.TheVariants.{Bool as Truth}
use Rattle.sql_ast.specs.declared.bound.OrderKey.{OrderKey}
use Rattle.sql_model.specs.Order.{directed, key_cmp, order_cmp}
use Rattle.sql_model.specs.Rows.{value_at}
use Rattle.sql_model.specs.Tuples.{Row}
use Rattle.value_compare.proofs.OrderLemmas.{value_cmp_total}
use Rattle.value_compare.specs.Order.{value_cmp}

directed_total : (b : Bool) (R : Row → Row → Ordering) → IsTotalOrder R → IsTotalOrder (directed b R)
directed_total true R o = back_total o
directed_total false R o = o

pub order_total : (ks : List OrderKey) → IsTotalOrder (order_cmp ks)
order_total [] = record { antisymm = λ x y. refl; trans = λ x y z h k. h; congr = λ x y z h. refl }
order_total (k ∷ ks) = then_total (directed_total k.descends (on (value_at k.place) value_cmp) (on_total (value_at k.place) value_cmp_total)) (order_total ks)

null_above : (v : Value) → v ≢ Null → value_cmp v Null ≡ Less
null_above Null h = absurd (h refl)
null_above (Num n) h = refl
null_above (Truth b) h = refl
null_above (Text t) h = refl

above_null : (v : Value) → v ≢ Null → value_cmp Null v ≡ Greater
above_null Null h = absurd (h refl)
above_null (Num n) h = refl
above_null (Truth b) h = refl
above_null (Text t) h = refl

-- one key, upward and downward
by_key_up : (k : OrderKey) (a b : Row) → k.descends ≡ false → value_at k.place a ≢ Null → value_at k.place b ≡ Null → key_cmp k a b ≡ Less
by_key_up k a b up known null =
    ap (λ d. directed d (on (value_at k.place) value_cmp) a b) up
    ∙ ap (value_cmp (value_at k.place a)) null ∙ null_above (value_at k.place a) known

by_key_down : (k : OrderKey) (a b : Row) → k.descends ≡ true → value_at k.place a ≢ Null → value_at k.place b ≡ Null → key_cmp k a b ≡ Greater
by_key_down k a b down known null =
    ap (λ d. directed d (on (value_at k.place) value_cmp) a b) down
    ∙ ap (λ v. value_cmp v (value_at k.place a)) null ∙ above_null (value_at k.place a) known

pub nulls_last : (k : OrderKey) (ks : List OrderKey) (a b : Row) → k.descends ≡ false → value_at k.place a ≢ Null → value_at k.place b ≡ Null → order_cmp (k ∷ ks) a b ≡ Less
nulls_last k ks a b up known null = ap (λ o. ordering_then o (order_cmp ks a b)) (by_key_up k a b up known null)

pub nulls_first : (k : OrderKey) (ks : List OrderKey) (a b : Row) → k.descends ≡ true → value_at k.place a ≢ Null → value_at k.place b ≡ Null → order_cmp (k ∷ ks) a b ≡ Greater
nulls_first k ks a b down known null = ap (λ o. ordering_then o (order_cmp ks a b)) (by_key_down k a b down known null)

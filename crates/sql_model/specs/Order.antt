-- ORDER BY.
use Rattle.std.specs.Prelude.{Bool, true, false, List, [], ◌∷◌}
use Rattle.std.specs.Ordering.{on, then_cmp}
use Rattle.std.specs.declared.cmp.Ordering.{Ordering}
use Rattle.std.specs.declared.cmp.Ordering.TheVariants.{Equal}
use Rattle.sql_ast.specs.declared.bound.OrderKey.{OrderKey}
use Rattle.sql_model.specs.Rows.{value_at}
use Rattle.sql_model.specs.Tuples.{Row}
use Rattle.value_compare.specs.Order.{value_cmp}

-- DESC turns an order round, so that NULL comes first
abbrev pub directed : Bool → (Row → Row → Ordering) → Row → Row → Ordering
directed true R a b = R b a
directed false R a b = R a b

-- the order of rows by one column of the answer
abbrev pub key_cmp : OrderKey → Row → Row → Ordering
key_cmp k = directed k.descends (on (value_at k.place) value_cmp)

-- the order of rows by all keys: a later one decides where the earlier ones don't
abbrev pub order_cmp : List OrderKey → Row → Row → Ordering
order_cmp [] a b = Equal
order_cmp (k ∷ ks) a b = then_cmp (key_cmp k) (order_cmp ks) a b

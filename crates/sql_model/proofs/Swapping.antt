-- Two changes at two places may be made in either order.
use Rattle.std.proofs.Common.{◌≡◌, ℕ, Bool, true, false, cond, List, ◌∷◌, Option, Some, refl, sym, ap, ◌∙◌}
use Rattle.std.specs.Prelude.{◌&&◌, ◌==◌}
use Rattle.std.proofs.lemmas.Bool.{and_parts, false≢true}
use Rattle.dby_types.specs.declared.number.RowId.{RowId}
use Rattle.sql_model.proofs.OneBag.{rid_is, rid_itself}
use Rattle.sql_model.specs.Apart.{made_at, laid}
use Rattle.sql_model.specs.Changes.{RowChange}
use Rattle.sql_model.specs.Tuples.{Row}
use Rattle.table_model.specs.Tables.{Tables, is_same_rid, put}

two_places : (x r s : RowId) → is_same_rid x r ≡ true → is_same_rid x s ≡ true → is_same_rid r s ≡ false → ⊥
two_places x r s a b ne =
    let same : r ≡ s = sym (rid_is x r a) ∙ rid_is x s b in
    false≢true (sym ne ∙ ap (is_same_rid r) (sym same) ∙ rid_itself r)

puts_swap : (base : Tables) (n m : ℕ) (r s : RowId) (v w : Option Row) → is_same_rid r s ≡ false → (t : ℕ) (x : RowId) → put (put base m s w) n r v t x ≡ put (put base n r v) m s w t x
puts_swap base n m r s v w ne t x = step ((t == n) && is_same_rid x r) refl ((t == m) && is_same_rid x s) refl
  where
    step : (b : Bool) → ((t == n) && is_same_rid x r) ≡ b → (c : Bool) → ((t == m) && is_same_rid x s) ≡ c → cond b v (cond c w (base t x)) ≡ cond c w (cond b v (base t x))
    step true e true f = absurd (two_places x r s (and_parts (t == n) (is_same_rid x r) e).1 (and_parts (t == m) (is_same_rid x s) f).1 ne)
    step true e false f = refl
    step false e true f = refl
    step false e false f = refl

pub changes_swap : (c d : RowChange) (more : List RowChange) (tables : Tables) (r s : RowId) → c.rid ≡ Some r → d.rid ≡ Some s → is_same_rid r s ≡ false
    → (t : ℕ) (x : RowId) → laid (c ∷ d ∷ more) tables t x ≡ laid (d ∷ c ∷ more) tables t x
changes_swap c d more tables r s a b ne t x =
    ap (λ o. made_at o c.table c.new (made_at d.rid d.table d.new (laid more tables)) t x) a
    ∙ ap (λ o. made_at (Some r) c.table c.new (made_at o d.table d.new (laid more tables)) t x) b
    ∙ puts_swap (laid more tables) c.table d.table r s c.new d.new ne t x
    ∙ ap (λ o. made_at (Some s) d.table d.new (made_at o c.table c.new (laid more tables)) t x) (sym a)
    ∙ ap (λ o. made_at o d.table d.new (made_at c.rid c.table c.new (laid more tables)) t x) (sym b)

-- Places, changes laid over them, and facts of each change.
use Rattle.std.proofs.Common.{◌≡◌, ℕ, List, [], ◌∷◌, Bool, true, false, refl, sym, ◌∙◌, ap, subst, inl, inr, Option}
use Rattle.std.specs.Prelude.{◌&&◌, ◌||◌, ◌==◌, if◌then◌else◌}
use Rattle.std.proofs.lemmas.Bool.{both_ways, or_cases, and_parts, and_from, eqb-true, eq-eqb, false_from_ne_true}
use Rattle.dby_types.specs.declared.number.RowId.{RowId}
use Rattle.dby_types.specs.declared.value.Value.{Value}
use Rattle.table_model.specs.Tables.{Tables, Made, Each, put, laid_over, rest_of, is_same_rid}
use Rattle.table_model.proofs.TablesLemmas.{each_map}
use Rattle.session_model.specs.Places.{Locks, Stacked, Written, touches}

pub rid_is : (a b : RowId) → is_same_rid a b ≡ true → a ≡ b
rid_is a b h =
    let p = and_parts _ _ h in
    let page = eqb-true a.page b.page p.0 in
    let slot = eqb-true a.slot b.slot p.1 in
    λ i. record { page = page i; slot = slot i }

pub rid_self : (a : RowId) → is_same_rid a a ≡ true
rid_self a = and_from _ _ (eq-eqb a.page a.page refl) (eq-eqb a.slot a.slot refl)

pub here : (table : ℕ) (rid : RowId) (t : ℕ) (r : RowId) → t ≡ table → r ≡ rid → ((t == table) && is_same_rid r rid) ≡ true
here table rid t r e k = and_from _ _ (eq-eqb t table e) (subst (λ x. is_same_rid r x ≡ true) k (rid_self r))

pub elsewhere : (table : ℕ) (rid : RowId) (t : ℕ) (r : RowId) → (t ≡ table → r ≡ rid → ⊥) → ((t == table) && is_same_rid r rid) ≡ false
elsewhere table rid t r ne = false_from_ne_true _ (λ h. let p = and_parts _ _ h in ne (eqb-true t table p.0) (rid_is r rid p.1))

pub put_here : (f : Tables) (table : ℕ) (rid : RowId) (row : Option (List Value)) (t : ℕ) (r : RowId) → ((t == table) && is_same_rid r rid) ≡ true → put f table rid row t r ≡ row
put_here f table rid row t r h = ap (λ b. if b then row else f t r) h

pub put_elsewhere : (f : Tables) (table : ℕ) (rid : RowId) (row : Option (List Value)) (t : ℕ) (r : RowId) → ((t == table) && is_same_rid r rid) ≡ false → put f table rid row t r ≡ f t r
put_elsewhere f table rid row t r h = ap (λ b. if b then row else f t r) h

if_same : {X : Type 0} → (b c : Bool) (x y z : X) → (b || c) ≡ true → (c ≡ true → y ≡ z) → (if b then x else y) ≡ (if b then x else z)
if_same true c x y z h k = refl
if_same false c x y z h k = k h

if_off : {X : Type 0} → (b c : Bool) (x y z : X) → (b || c) ≡ false → (c ≡ false → y ≡ z) → (if b then x else y) ≡ z
if_off true c x y z h k = absurd (both_ways true h refl)
if_off false c x y z h k = k h

-- a place that was changed shows the change, whatever lies below
pub touched : (ms : List Made) (f g : Tables) (table : ℕ) (rid : RowId) → touches ms table rid ≡ true → laid_over ms f table rid ≡ laid_over ms g table rid
touched [] f g table rid h = absurd (both_ways false refl h)
touched (m ∷ ms) f g table rid h =
    if_same ((table == m.change.table) && is_same_rid rid m.change.rid) (touches ms table rid) m.change.new (laid_over ms f table rid) (laid_over ms g table rid) h (touched ms f g table rid)

-- and any other place shows what lies below
pub untouched : (ms : List Made) (f : Tables) (table : ℕ) (rid : RowId) → touches ms table rid ≡ false → laid_over ms f table rid ≡ f table rid
untouched [] f table rid h = refl
untouched (m ∷ ms) f table rid h =
    if_off ((table == m.change.table) && is_same_rid rid m.change.rid) (touches ms table rid) m.change.new (laid_over ms f table rid) (f table rid) h (untouched ms f table rid)

-- an overlay reads its base at the same place alone
pub laid_over_same : (ms : List Made) (f g : Tables) (table : ℕ) (rid : RowId) → f table rid ≡ g table rid → laid_over ms f table rid ≡ laid_over ms g table rid
laid_over_same [] f g table rid e = e
laid_over_same (m ∷ ms) f g table rid e = ap (λ x. if (table == m.change.table) && is_same_rid rid m.change.rid then m.change.new else x) (laid_over_same ms f g table rid e)

-- what a transaction changed it may write
pub touched_written : (l : Locks) (t : ℕ) (ms : List Made) (table : ℕ) (rid : RowId) → Written l t ms → touches ms table rid ≡ true → l.writes t table rid ≡ true
touched_written l t [] table rid w h = absurd (both_ways false refl h)
touched_written l t (m ∷ ms) table rid w h = elim (or_cases _ _ h) [
  | inl this ↦
      let p = and_parts _ _ this in
      subst (λ n. l.writes t n rid ≡ true) (sym (eqb-true table m.change.table p.0)) (subst (λ r. l.writes t m.change.table r ≡ true) (sym (rid_is rid m.change.rid p.1)) w.0)
  | inr older ↦ touched_written l t ms table rid w.1 older
]

pub not_touched : (l : Locks) (t : ℕ) (ms : List Made) (table : ℕ) (rid : RowId) → Written l t ms → l.writes t table rid ≡ false → touches ms table rid ≡ false
not_touched l t ms table rid w free = false_from_ne_true _ (λ h. both_ways _ free (touched_written l t ms table rid w h))

-- of what a transaction may not write it has no change
pub off_place : (l : Locks) (t table : ℕ) (rid : RowId) → l.writes t table rid ≡ false → (ms : List Made) → Written l t ms → Each (λ m. m.change.table ≡ table → m.change.rid ≡ rid → ⊥) ms
off_place l t table rid free ms w = each_map (λ m. l.writes t m.change.table m.change.rid ≡ true) (λ m. m.change.table ≡ table → m.change.rid ≡ rid → ⊥)
    (λ m x e k. both_ways _ free (subst (λ r. l.writes t table r ≡ true) k (subst (λ n. l.writes t n m.change.rid ≡ true) e x))) ms w

pub each_rest : {X : Type 0} → (P : X → Type 0) → (xs : List X) → Each P xs → Each P (rest_of xs)
each_rest P [] h = tt
each_rest P (x ∷ xs) h = h.1

pub stacked_at : (ms : List Made) (f g : Tables) → Each (λ m. g m.change.table m.change.rid ≡ f m.change.table m.change.rid) ms → Stacked f ms → Stacked g ms
stacked_at [] f g e h = tt
stacked_at (m ∷ ms) f g e h = (h.0 ∙ laid_over_same ms f g m.change.table m.change.rid (sym e.0), stacked_at ms f g e.1 h.1)

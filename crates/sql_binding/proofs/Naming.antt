-- A name stands for one column of that name.
use Rattle.std.proofs.Common.{◌≡◌, ◌≤◌, ℕ, zero, suc, ◌+◌, Bool, true, false, cond, List, [], ◌∷◌, ◌++◌, length, Option, Some, None, Ok, Err, refl, sym, ap, ◌∙◌, subst, arith}
use Rattle.std.specs.Prelude.{◌≢◌, ◌||◌}
use Rattle.std.specs.List.{cons_option}
use Rattle.std.specs.Str.{bytes_eq}
use Rattle.std.proofs.lemmas.Slice.Eq.{bytes_eq-Decides}
use Rattle.dby_types.specs.declared.definition.ColumnDef.{ColumnDef}
use Rattle.dby_types.specs.declared.definition.Dictionary.{Dictionary}
use Rattle.dby_types.specs.declared.state.SqlState.TheVariants.{NoColumn, AmbiguousColumn}
use Rattle.sql_ast.specs.declared.statement.TableText.{TableText}
use Rattle.sql_binding.specs.Creating.{columns_at}
use Rattle.sql_binding.specs.From.{columns_of, found_in, exposed_by, sources_of}
use Rattle.sql_binding.specs.Laws.{Stands, has_column, joined_columns, tables_with}
use Rattle.sql_binding.specs.Names.{Source, Spot, spot_from, spots_from, spot_of, only_one, or_missing, column_named}

-- ---- how many tables have the column
abbrev count : Option Spot → ℕ
count None = 0
count (Some s) = 1

count_spot : (n : ℕ) (name : List ℕ) (cs : List ColumnDef) → count (spot_from n name cs) ≡ cond (has_column name cs) 1 0
count_spot n name [] = refl
count_spot n name (c ∷ cs) = step (bytes_eq name c.name) (count_spot (suc n) name cs)
  where
    step : (b : Bool) → count (spot_from (suc n) name cs) ≡ cond (has_column name cs) 1 0
        → count (cond b (Some (record { place = n; ty = c.ty })) (spot_from (suc n) name cs)) ≡ cond (b || has_column name cs) 1 0
    step true more = refl
    step false more = more

cons_long : (o : Option Spot) (spots : List Spot) → length (cons_option o spots) ≡ count o + length spots
cons_long None spots = omega arith
cons_long (Some s) spots = omega arith

spots_long : (n : ℕ) (name : List ℕ) (ss : List Source) → length (spots_from n name ss) ≡ tables_with name ss
spots_long n name [] = refl
spots_long n name (s ∷ ss) =
    let all : length (spots_from n name (s ∷ ss)) ≡ count (spot_from n name s.columns) + length (spots_from (n + length s.columns) name ss) =
    cons_long (spot_from n name s.columns) (spots_from (n + length s.columns) name ss) in
    let here : count (spot_from n name s.columns) ≡ cond (has_column name s.columns) 1 0 = count_spot n name s.columns in
    let more : length (spots_from (n + length s.columns) name ss) ≡ tables_with name ss = spots_long (n + length s.columns) name ss in
    all ∙ ap (λ (k : ℕ). k + length (spots_from (n + length s.columns) name ss)) here ∙ ap (λ (k : ℕ). cond (has_column name s.columns) 1 0 + k) more

only_none : (spots : List Spot) → length spots ≡ 0 → only_one spots ≡ Err NoColumn
only_none [] h = refl
only_none (s ∷ ss) h = absurd (omega arith)

only_several : (spots : List Spot) → 2 ≤ length spots → only_one spots ≡ Err AmbiguousColumn
only_several [] h = absurd (omega arith)
only_several (s ∷ []) h = absurd (omega arith)
only_several (s ∷ t ∷ ss) h = refl

only_this : (spots : List Spot) → length spots ≡ 1 → (s : Spot) × (only_one spots ≡ Ok s)
only_this [] h = absurd (omega arith)
only_this (s ∷ []) h = (s, refl)
only_this (s ∷ t ∷ ss) h = absurd (omega arith)

pub none_named : (ss : List Source) (name : List ℕ) → tables_with name ss ≡ 0 → column_named ss None name ≡ Err NoColumn
none_named ss name h = only_none (spots_from 0 name ss) (spots_long 0 name ss ∙ h)

pub several_named : (ss : List Source) (name : List ℕ) → 2 ≤ tables_with name ss → column_named ss None name ≡ Err AmbiguousColumn
several_named ss name h = only_several (spots_from 0 name ss) (subst (λ (k : ℕ). 2 ≤ k) (sym (spots_long 0 name ss)) h)

pub one_named : (ss : List Source) (name : List ℕ) → tables_with name ss ≡ 1 → (s : Spot) × (column_named ss None name ≡ Ok s)
one_named ss name h = only_this (spots_from 0 name ss) (spots_long 0 name ss ∙ h)

-- ---- an alias
unlike : (a b : List ℕ) → a ≢ b → bytes_eq a b ≡ false
unlike a b h = step (bytes_eq a b) refl
  where
    step : (r : Bool) → bytes_eq a b ≡ r → r ≡ false
    step true e = absurd (h ((bytes_eq-Decides a b).0 e))
    step false e = refl

alike : (a b : List ℕ) → bytes_eq a b ≡ true → a ≡ b
alike a b e = (bytes_eq-Decides a b).0 e

pub by_alias_alone : (d : Dictionary) (t : TableText) (alias name column : List ℕ) → t.alias ≡ Some alias → name ≢ alias
    → column_named (sources_of d (t ∷ [])) (Some name) column ≡ Err NoColumn
by_alias_alone d t alias name column h k =
    ap (λ (o : Option (List ℕ)). or_missing (cond (bytes_eq name (exposed_by t.name o)) (spot_from 0 column (columns_of (found_in d t.name))) None)) h
    ∙ ap (λ (b : Bool). or_missing (cond b (spot_from 0 column (columns_of (found_in d t.name))) None)) (unlike name alias k)

-- ---- what a name stands for
one_on : (n : ℕ) (c : ColumnDef) (cs : List ColumnDef) (name : List ℕ) (spot : Spot) → Stands (suc n) cs name spot → Stands n (c ∷ cs) name spot
one_on n c cs name spot h = let there : spot.place ≡ h.index + suc n = h.place_is in record { index = suc h.index; place_is = omega arith; column = h.column; there = h.there; named = h.named; ty_is = h.ty_is }

some_spot : (a b : Spot) → Some a ≡ Some b → a ≡ b
some_spot a b h = cc

pub spot_stands : (n : ℕ) (name : List ℕ) (cs : List ColumnDef) (spot : Spot) → spot_from n name cs ≡ Some spot → Stands n cs name spot
spot_stands n name [] spot h = absurd (cc)
spot_stands n name (c ∷ cs) spot h = step (bytes_eq name c.name) refl h (spot_stands (suc n) name cs spot)
  where
    step : (b : Bool) → bytes_eq name c.name ≡ b → cond b (Some (record { place = n; ty = c.ty })) (spot_from (suc n) name cs) ≡ Some spot
        → (spot_from (suc n) name cs ≡ Some spot → Stands (suc n) cs name spot) → Stands n (c ∷ cs) name spot
    step true e k more =
        subst (λ (s : Spot). Stands n (c ∷ cs) name s) (some_spot _ spot k)
        (record { index = 0; place_is = omega arith; column = c; there = refl; named = alike name c.name e; ty_is = refl })
    step false e k more = one_on n c cs name spot (more k)

front_at : (k : ℕ) (cs ds : List ColumnDef) (c : ColumnDef) → columns_at k cs ≡ c ∷ [] → columns_at k (cs ++ ds) ≡ c ∷ []
front_at k [] ds c h = absurd (cc)
front_at zero (x ∷ xs) ds c h = h
front_at (suc k) (x ∷ xs) ds c h = front_at k xs ds c h

back_at : (k : ℕ) (cs ds : List ColumnDef) → columns_at (k + length cs) (cs ++ ds) ≡ columns_at k ds
back_at k [] ds = ap (λ (m : ℕ). columns_at m ds) (omega arith)
back_at k (x ∷ xs) ds =
    let next : k + length (x ∷ xs) ≡ suc (k + length xs) = omega arith in
    ap (λ (m : ℕ). columns_at m (x ∷ xs ++ ds)) next ∙ back_at k xs ds

in_front : (n : ℕ) (cs ds : List ColumnDef) (name : List ℕ) (spot : Spot) → Stands n cs name spot → Stands n (cs ++ ds) name spot
in_front n cs ds name spot h =
    record { index = h.index; place_is = h.place_is; column = h.column; there = front_at h.index cs ds h.column h.there; named = h.named; ty_is = h.ty_is }

in_back : (n : ℕ) (cs ds : List ColumnDef) (name : List ℕ) (spot : Spot) → Stands (n + length cs) ds name spot → Stands n (cs ++ ds) name spot
in_back n cs ds name spot h =
    let place : spot.place ≡ h.index + (n + length cs) = h.place_is in
    record { index = h.index + length cs; place_is = omega arith; column = h.column; there = back_at h.index cs ds ∙ h.there; named = h.named; ty_is = h.ty_is }

-- each of the spots is such a column
abbrev IsSpot : ℕ → List ColumnDef → List ℕ → Spot → Type 0
IsSpot n cs name spot = Stands n cs name spot

abbrev SpotIf : ℕ → List ColumnDef → List ℕ → Option Spot → Type 0
SpotIf n cs name None = Unit {0}
SpotIf n cs name (Some spot) = Stands n cs name spot

if_stands : (n : ℕ) (name : List ℕ) (cs : List ColumnDef) (o : Option Spot) → spot_from n name cs ≡ o → SpotIf n cs name o
if_stands n name cs None h = tt
if_stands n name cs (Some spot) h = spot_stands n name cs spot h

abbrev AllStand : ℕ → List ColumnDef → List ℕ → List Spot → Type 0
AllStand n cs name [] = Unit {0}
AllStand n cs name (spot ∷ spots) = Stands n cs name spot × AllStand n cs name spots

all_back : (n : ℕ) (cs ds : List ColumnDef) (name : List ℕ) (spots : List Spot) → AllStand (n + length cs) ds name spots → AllStand n (cs ++ ds) name spots
all_back n cs ds name [] h = tt
all_back n cs ds name (s ∷ ss) h = (in_back n cs ds name s h.0, all_back n cs ds name ss h.1)

cons_stand : (n : ℕ) (cs ds : List ColumnDef) (name : List ℕ) (o : Option Spot) (spots : List Spot) → SpotIf n cs name o → AllStand n (cs ++ ds) name spots → AllStand n (cs ++ ds) name (cons_option o spots)
cons_stand n cs ds name None spots h k = k
cons_stand n cs ds name (Some s) spots h k = (in_front n cs ds name s h, k)

all_stand : (n : ℕ) (name : List ℕ) (ss : List Source) → AllStand n (joined_columns ss) name (spots_from n name ss)
all_stand n name [] = tt
all_stand n name (s ∷ ss) =
    cons_stand n s.columns (joined_columns ss) name (spot_from n name s.columns) (spots_from (n + length s.columns) name ss)
    (if_stands n name s.columns (spot_from n name s.columns) refl)
    (all_back n s.columns (joined_columns ss) name (spots_from (n + length s.columns) name ss) (all_stand (n + length s.columns) name ss))

of_stands : (n : ℕ) (table name : List ℕ) (ss : List Source) (spot : Spot) → spot_of n table name ss ≡ Some spot → Stands n (joined_columns ss) name spot
of_stands n table name [] spot h = absurd (cc)
of_stands n table name (s ∷ ss) spot h = step (bytes_eq table s.exposed) h (of_stands (n + length s.columns) table name ss spot)
  where
    step : (b : Bool) → cond b (spot_from n name s.columns) (spot_of (n + length s.columns) table name ss) ≡ Some spot
        → (spot_of (n + length s.columns) table name ss ≡ Some spot → Stands (n + length s.columns) (joined_columns ss) name spot) → Stands n (s.columns ++ joined_columns ss) name spot
    step true k more = in_front n s.columns (joined_columns ss) name spot (spot_stands n name s.columns spot k)
    step false k more = in_back n s.columns (joined_columns ss) name spot (more k)

only_stands : (cs : List ColumnDef) (name : List ℕ) (spots : List Spot) (spot : Spot) → AllStand 0 cs name spots → only_one spots ≡ Ok spot → Stands 0 cs name spot
only_stands cs name [] spot h k = absurd (cc)
only_stands cs name (s ∷ []) spot h k = let same : s ≡ spot = cc in subst (λ (t : Spot). Stands 0 cs name t) same h.0
only_stands cs name (s ∷ t ∷ ss) spot h k = absurd (cc)

missing_ok : (o : Option Spot) (spot : Spot) → or_missing o ≡ Ok spot → o ≡ Some spot
missing_ok None spot h = absurd (cc)
missing_ok (Some s) spot h = let same : s ≡ spot = cc in ap (λ (t : Spot). Some t) same

pub named_stands : (ss : List Source) (table : Option (List ℕ)) (name : List ℕ) (spot : Spot) → column_named ss table name ≡ Ok spot → Stands 0 (joined_columns ss) name spot
named_stands ss None name spot h = only_stands (joined_columns ss) name (spots_from 0 name ss) spot (all_stand 0 name ss) h
named_stands ss (Some table) name spot h = of_stands 0 table name ss spot (missing_ok (spot_of 0 table name ss) spot h)

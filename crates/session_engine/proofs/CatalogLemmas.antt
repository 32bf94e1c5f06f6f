-- The catalog with one row more: a column's, which nobody knows yet, or a table's, which makes it known.
use Rattle.std.proofs.Common.{◌≡◌, ◌≢◌, ℕ, ◌<◌, ◌≤◌, ◌^◌, List, [], ◌∷◌, ◌++◌, length, true, refl, sym, ◌∙◌, ap, subst, arith, inl, inr, Some, None}
use Rattle.std.specs.Prelude.{◌⊎◌}
use Rattle.std.proofs.lemmas.Bool.{both_ways, cases_Bool}
use Rattle.dby_types.specs.declared.definition.ColumnDef.{ColumnDef}
use Rattle.dby_types.specs.declared.definition.TableDef.{TableDef}
use Rattle.dby_types.specs.declared.number.RowId.{RowId}
use Rattle.dby_types.specs.declared.value.Value.{Value}
use Rattle.table_model.specs.Tables.{Tables, Each, is_same_rid}
use Rattle.journal_model.specs.Catalog.{IsOf, HasColumns, Defines, table_row, column_row}
use Rattle.store_api.specs.View.{View}
use Rattle.session_model.specs.Places.{is_catalog}
use Rattle.session_model.specs.World.{World}
use Rattle.session_model.proofs.PlaceLemmas.{rid_is, rid_self}
use Rattle.session_engine.specs.Dictionary.{Named, Among, named_of, definition_of}
use Rattle.session_engine.specs.Listed.{Cataloged, IsUnlisted, Lists}
use Rattle.session_engine.proofs.ColumnLemmas.{one-list}

-- ITEMS of two lists, one behind the other
pub among-left : {X : Type 0} (x : X) (xs ys : List X) → Among x xs → Among x (xs ++ ys)
among-left x [] ys h = absurd h
among-left x (y ∷ xs) ys (inl e) = inl e
among-left x (y ∷ xs) ys (inr h) = inr (among-left x xs ys h)

pub among-right : {X : Type 0} (x : X) (xs ys : List X) → Among x ys → Among x (xs ++ ys)
among-right x [] ys h = h
among-right x (y ∷ xs) ys h = inr (among-right x xs ys h)

pub among-either : {X : Type 0} (x : X) (xs ys : List X) → Among x (xs ++ ys) → Among x xs ⊎ Among x ys
among-either x [] ys h = inr h
among-either x (y ∷ xs) ys (inl e) = inl (inl e)
among-either x (y ∷ xs) ys (inr h) = elim (among-either x xs ys h) [ inl l ↦ inl (inr l) | inr r ↦ inr r ]

pub each-among : {X : Type 0} (P : X → Type 0) (x : X) (xs : List X) → Each P xs → Among x xs → P x
each-among P x [] h a = absurd a
each-among P x (y ∷ xs) h (inl e) = subst P (sym e) h.0
each-among P x (y ∷ xs) h (inr a) = each-among P x xs h.1 a

pub among-each : {X : Type 0} (P : X → Type 0) (xs : List X) → ((x : X) → Among x xs → P x) → Each P xs
among-each P [] h = tt
among-each P (x ∷ xs) h = (h x (inl refl), among-each P xs (λ y a. h y (inr a)))

-- CATALOG ROWS tell their parts
pub table_row-number : (m n : ℕ) (a b : List ℕ) → table_row m a ≡ table_row n b → m ≡ n
table_row-number m n a b h = cc

pub table_row-name : (m n : ℕ) (a b : List ℕ) → table_row m a ≡ table_row n b → a ≡ b
table_row-name m n a b h = cc

column_row-number : (m n p q : ℕ) (c d : ColumnDef) → column_row m p c ≡ column_row n q d → m ≡ n
column_row-number m n p q c d h = cc

pub same_number : (m n p : ℕ) (c : ColumnDef) → IsOf n (column_row m p c) → n ≡ m
same_number m n p c h = cc

pub of_itself : (n p : ℕ) (c : ColumnDef) → IsOf n (column_row n p c)
of_itself n p c = refl

pub same_or_not : (q r : RowId) → (q ≡ r) ⊎ (q ≢ r)
same_or_not q r = elim (cases_Bool (is_same_rid q r)) [
  | inl same ↦ inl (rid_is q r same)
  | inr other ↦ inr (λ e. both_ways _ other (subst (λ x. is_same_rid q x ≡ true) e (rid_self q)))
]

none_some : {X : Type 0} (x : X) → None ≡ Some x → ⊥
none_some x e = cc

some_is : {X : Type 0} (x y : X) → Some x ≡ Some y → x ≡ y
some_is x y e = cc

-- ONE COLUMN MORE, of a table without a row of its own
pub record OneColumnMore (f g : Tables) (n : ℕ) (rid : RowId) : Type 0 where
  pub place : ℕ
  pub column : ColumnDef
  pub none : f 2 rid ≡ None
  pub row : g 2 rid ≡ Some (column_row n place column)
  pub same : (table : ℕ) (r : RowId) → is_catalog table ≡ true → (table ≡ 2 → r ≡ rid → ⊥) → g table r ≡ f table r
  pub unlisted : (r : RowId) (name : List ℕ) → f 1 r ≡ Some (table_row n name) → ⊥

one_not_two : {X : Type 0} → ◌≡◌ {A = ℕ} 1 2 → X
one_not_two e = absurd (omega (arith, e))

-- it makes no table, and takes none away
pub column_on : (f g : Tables) (n : ℕ) (rid : RowId) → OneColumnMore f g n rid → (d : TableDef) → Defines f d → Defines g d
column_on f g n rid o d h =
    let other : d.number ≢ n = λ e. o.unlisted h.table.0 d.name (h.table.1 ∙ ap (λ m. Some (table_row m d.name)) e) in
    record {
      number = h.number;
      table = (h.table.0, o.same 1 h.table.0 refl (λ e k. one_not_two e) ∙ h.table.1);
      columns = record {
        each = λ place c at. let x = h.columns.each place c at in
            (x.0, o.same 2 x.0 refl (λ e k. none_some (column_row d.number place c) (sym o.none ∙ ap (f 2) (sym k) ∙ x.1)) ∙ x.1);
        only = λ r row at is. elim (same_or_not r rid) [
          | inl here ↦ absurd (other (same_number n d.number o.place o.column
              (subst (IsOf d.number) (some_is row (column_row n o.place o.column) (sym at ∙ ap (g 2) here ∙ o.row)) is)))
          | inr there ↦ h.columns.only r row (sym (o.same 2 r refl (λ e k. there k)) ∙ at) is
        ];
      };
      limit = h.limit;
    }

pub column_back : (f g : Tables) (n : ℕ) (rid : RowId) → OneColumnMore f g n rid → (d : TableDef) → Defines g d → Defines f d
column_back f g n rid o d h =
    let table : f 1 h.table.0 ≡ Some (table_row d.number d.name) = sym (o.same 1 h.table.0 refl (λ e k. one_not_two e)) ∙ h.table.1 in
    let other : d.number ≢ n = λ e. o.unlisted h.table.0 d.name (table ∙ ap (λ m. Some (table_row m d.name)) e) in
    record {
      number = h.number;
      table = (h.table.0, table);
      columns = record {
        each = λ place c at. let x = h.columns.each place c at in
            (x.0, sym (o.same 2 x.0 refl (λ e k. other (column_row-number d.number n place o.place c o.column (some_is (column_row d.number place c) (column_row n o.place o.column) (sym x.1 ∙ ap (g 2) k ∙ o.row))))) ∙ x.1);
        only = λ r row at is. h.columns.only r row (o.same 2 r refl (λ e k. none_some row (sym o.none ∙ ap (f 2) (sym k) ∙ at)) ∙ at) is;
      };
      limit = h.limit;
    }

-- ONE TABLE MORE
pub record OneTableMore (f g : Tables) (n : ℕ) (name : List ℕ) (rid : RowId) : Type 0 where
  pub none : f 1 rid ≡ None
  pub row : g 1 rid ≡ Some (table_row n name)
  pub same : (table : ℕ) (r : RowId) → is_catalog table ≡ true → (table ≡ 1 → r ≡ rid → ⊥) → g table r ≡ f table r
  pub unlisted : (r : RowId) (other : List ℕ) → f 1 r ≡ Some (table_row n other) → ⊥

two_not_one : {X : Type 0} → ◌≡◌ {A = ℕ} 2 1 → X
two_not_one e = absurd (omega (arith, e))

columns_on : (f g : Tables) (n : ℕ) (name : List ℕ) (rid : RowId) → OneTableMore f g n name rid → (m : ℕ) (cs : List ColumnDef) → HasColumns f m cs → HasColumns g m cs
columns_on f g n name rid o m cs h = record {
  each = λ place c at. let x = h.each place c at in (x.0, o.same 2 x.0 refl (λ e k. two_not_one e) ∙ x.1);
  only = λ r row at is. h.only r row (sym (o.same 2 r refl (λ e k. two_not_one e)) ∙ at) is;
}

columns_back : (f g : Tables) (n : ℕ) (name : List ℕ) (rid : RowId) → OneTableMore f g n name rid → (m : ℕ) (cs : List ColumnDef) → HasColumns g m cs → HasColumns f m cs
columns_back f g n name rid o m cs h = record {
  each = λ place c at. let x = h.each place c at in (x.0, sym (o.same 2 x.0 refl (λ e k. two_not_one e)) ∙ x.1);
  only = λ r row at is. h.only r row (o.same 2 r refl (λ e k. two_not_one e) ∙ at) is;
}

pub table_on : (f g : Tables) (n : ℕ) (name : List ℕ) (rid : RowId) → OneTableMore f g n name rid → (d : TableDef) → Defines f d → Defines g d
table_on f g n name rid o d h = record {
  number = h.number;
  table = (h.table.0, o.same 1 h.table.0 refl (λ e k. none_some (table_row d.number d.name) (sym o.none ∙ ap (f 1) (sym k) ∙ h.table.1)) ∙ h.table.1);
  columns = columns_on f g n name rid o d.number d.columns h.columns;
  limit = h.limit;
}

-- what is defined now was defined before, or is that table
pub table_back : (f g : Tables) (n : ℕ) (name : List ℕ) (rid : RowId) → OneTableMore f g n name rid → (d : TableDef) → Defines g d
    → Defines f d ⊎ ((d.number ≡ n) × (d.name ≡ name) × HasColumns f n d.columns)
table_back f g n name rid o d h =
    let columns : HasColumns f d.number d.columns = columns_back f g n name rid o d.number d.columns h.columns in
    elim (same_or_not h.table.0 rid) [
      | inl here ↦
          let row : table_row d.number d.name ≡ table_row n name = some_is (table_row d.number d.name) (table_row n name) (sym h.table.1 ∙ ap (g 1) here ∙ o.row) in
          let number : d.number ≡ n = table_row-number d.number n d.name name row in
          inr (number, table_row-name d.number n d.name name row, subst (λ m. HasColumns f m d.columns) number columns)
      | inr there ↦ inl (record {
        number = h.number;
        table = (h.table.0, sym (o.same 1 h.table.0 refl (λ e k. there k)) ∙ h.table.1);
        columns = columns;
        limit = h.limit;
      })
    ]

pub new_table : (f g : Tables) (n : ℕ) (name : List ℕ) (rid : RowId) (cs : List ColumnDef) → OneTableMore f g n name rid → HasColumns f n cs → n < 2 ^ 31 → length cs ≤ 64
    → Defines g (record { number = n; name = name; columns = cs })
new_table f g n name rid cs o columns small few = record { number = small; table = (rid, o.row); columns = columns_on f g n name rid o n cs columns; limit = few }

-- THE DICTIONARY that stays, while what is defined does
pub same_dictionary : (v v' : View) (w w' : World) (named : List Named) → ((d : TableDef) → Defines w.current d → Defines w'.current d) → ((d : TableDef) → Defines w'.current d → Defines w.current d)
    → ((r : RowId) → w'.current 1 r ≡ w.current 1 r) → ((n : ℕ) → v'.content.columns n ≡ v.content.columns n) → v'.content.next_container ≡ v.content.next_container
    → ((rid : RowId) (row : List Value) (n : ℕ) → w'.current 2 rid ≡ Some row → IsOf n row → n < v'.content.next_container)
    → ((t : ℕ) → Lists named (w'.txns t).changes) → Cataloged v w named → Cataloged v' w' named
same_dictionary v v' w w' named on back tables columns next numbered lists h = record {
  dictionary = record { there = λ e a. on (definition_of e) (h.dictionary.there e a); only = λ d g. h.dictionary.only d (back d g); user = h.dictionary.user };
  described = λ e a. let p = h.described e a in (columns e.1.number ∙ p.0, (let lt = p.1 in omega (arith, lt, next)));
  catalogs = record { of_tables = columns 1 ∙ h.catalogs.of_tables; of_columns = columns 2 ∙ h.catalogs.of_columns };
  listed = λ r row at. h.listed r row (sym (tables r) ∙ at);
  once = λ q r n a b x y. h.once q r n a b (sym (tables q) ∙ x) (sym (tables r) ∙ y);
  numbered = numbered;
  lists = lists;
}

-- .. behind a column's row that was put
pub column_put : (v v' : View) (w w' : World) (named : List Named) (n : ℕ) (rid : RowId) → OneColumnMore w.current w'.current n rid → n < v'.content.next_container
    → ((m : ℕ) → v'.content.columns m ≡ v.content.columns m) → v'.content.next_container ≡ v.content.next_container
    → ((t : ℕ) → Lists named (w'.txns t).changes) → Cataloged v w named → Cataloged v' w' named
column_put v v' w w' named n rid o below columns next lists h =
    same_dictionary v v' w w' named (column_on w.current w'.current n rid o) (column_back w.current w'.current n rid o) (λ r. o.same 1 r refl (λ e k. one_not_two e)) columns next
    (λ r row m at is. elim (same_or_not r rid) [
      | inl here ↦
          let number : m ≡ n = same_number n m o.place o.column (subst (IsOf m) (some_is row (column_row n o.place o.column) (sym at ∙ ap (w'.current 2) here ∙ o.row)) is) in
          omega (arith, number, below)
      | inr there ↦ (let lt = h.numbered r row m (sym (o.same 2 r refl (λ e k. there k)) ∙ at) is in omega (arith, lt, next))
    ]) lists h

-- .. and behind one that was taken back
pub column_taken : (v v' : View) (w w' : World) (named : List Named) (n : ℕ) (rid : RowId) → OneColumnMore w'.current w.current n rid
    → ((m : ℕ) → v'.content.columns m ≡ v.content.columns m) → v'.content.next_container ≡ v.content.next_container
    → ((t : ℕ) → Lists named (w'.txns t).changes) → Cataloged v w named → Cataloged v' w' named
column_taken v v' w w' named n rid o columns next lists h =
    same_dictionary v v' w w' named (column_back w'.current w.current n rid o) (column_on w'.current w.current n rid o) (λ r. sym (o.same 1 r refl (λ e k. one_not_two e))) columns next
    (λ r row m at is.
    let lt = h.numbered r row m (o.same 2 r refl (λ e k. none_some row (sym o.none ∙ ap (w'.current 2) (sym k) ∙ at)) ∙ at) is in
    omega (arith, lt, next)) lists h

-- A TABLE'S ROW is put: the dictionary has one table more
pub table_put : (v v' : View) (w w' : World) (named : List Named) (n : ℕ) (name : List ℕ) (cs : List ColumnDef) (rid : RowId) → OneTableMore w.current w'.current n name rid
    → HasColumns w.current n cs → n < 2 ^ 31 → length cs ≤ 64 → 16 ≤ n → v.content.columns n ≡ Some cs → n < v.content.next_container
    → ((m : ℕ) → v'.content.columns m ≡ v.content.columns m) → v'.content.next_container ≡ v.content.next_container
    → ((t : ℕ) → Lists (named ++ (name, record { number = n; columns = cs }) ∷ []) (w'.txns t).changes) → Cataloged v w named
    → Cataloged v' w' (named ++ (name, record { number = n; columns = cs }) ∷ [])
table_put v v' w w' named n name cs rid o has small few user is made columns next lists h =
    let e : Named = (name, record { number = n; columns = cs }) in
    record {
      dictionary = record {
        there = λ x a. elim (among-either x named (e ∷ []) a) [
          | inl old ↦ table_on w.current w'.current n name rid o (definition_of x) (h.dictionary.there x old)
          | inr new ↦ elim new [
            | inl same ↦ subst (λ (y : Named). Defines w'.current (definition_of y)) (sym same) (new_table w.current w'.current n name rid cs o has small few)
            | inr none ↦ absurd none
          ]
        ];
        only = λ d g. elim (table_back w.current w'.current n name rid o d g) [
          | inl old ↦ among-left (named_of d) named (e ∷ []) (h.dictionary.only d old)
          | inr new ↦
              let is_cs : d.columns ≡ cs = one-list w.current n d.columns cs new.2 has in
              let make : List ℕ → ℕ → List ColumnDef → Named = λ a m xs. (a, record { number = m; columns = xs }) in
              let same : make d.name d.number d.columns ≡ e = ap (λ a. make a d.number d.columns) new.1 ∙ ap (λ m. make name m d.columns) new.0 ∙ ap (make name n) is_cs in
              among-right (named_of d) named (e ∷ []) (inl same)
        ];
        user = λ x a. elim (among-either x named (e ∷ []) a) [
          | inl old ↦ h.dictionary.user x old
          | inr new ↦ elim new [ inl same ↦ subst (λ (y : Named). 16 ≤ y.1.number) (sym same) user | inr none ↦ absurd none ]
        ];
      };
      described = λ x a. elim (among-either x named (e ∷ []) a) [
        | inl old ↦ (let p = h.described x old in (columns x.1.number ∙ p.0, (let lt = p.1 in omega (arith, lt, next))))
        | inr new ↦ elim new [
          | inl same ↦ subst (λ (y : Named). (v'.content.columns y.1.number ≡ Some y.1.columns) × (y.1.number < v'.content.next_container)) (sym same) (columns n ∙ is, omega (arith, made, next))
          | inr none ↦ absurd none
        ]
      ];
      catalogs = record { of_tables = columns 1 ∙ h.catalogs.of_tables; of_columns = columns 2 ∙ h.catalogs.of_columns };
      listed = λ r row at. elim (same_or_not r rid) [
        | inl here ↦ (e, among-right e named (e ∷ []) (inl refl), some_is row (table_row n name) (sym at ∙ ap (w'.current 1) here ∙ o.row))
        | inr there ↦ (let p = h.listed r row (sym (o.same 1 r refl (λ x k. there k)) ∙ at) in (p.0, among-left p.0 named (e ∷ []) p.1, p.2))
      ];
      once = λ q r m a b x y. elim (same_or_not q rid) [
        | inl one ↦ elim (same_or_not r rid) [
          | inl two ↦ one ∙ sym two
          | inr off ↦
              let number : m ≡ n = table_row-number m n a name (some_is (table_row m a) (table_row n name) (sym x ∙ ap (w'.current 1) one ∙ o.row)) in
              absurd (o.unlisted r b (sym (o.same 1 r refl (λ z k. off k)) ∙ y ∙ ap (λ i. Some (table_row i b)) number))
        ]
        | inr off ↦ elim (same_or_not r rid) [
          | inl two ↦
              let number : m ≡ n = table_row-number m n b name (some_is (table_row m b) (table_row n name) (sym y ∙ ap (w'.current 1) two ∙ o.row)) in
              absurd (o.unlisted q a (sym (o.same 1 q refl (λ z k. off k)) ∙ x ∙ ap (λ i. Some (table_row i a)) number))
          | inr also ↦ h.once q r m a b (sym (o.same 1 q refl (λ z k. off k)) ∙ x) (sym (o.same 1 r refl (λ z k. also k)) ∙ y)
        ]
      ];
      numbered = λ r row m at of. (let lt = h.numbered r row m (sym (o.same 2 r refl (λ z k. two_not_one z)) ∙ at) of in omega (arith, lt, next));
      lists = lists;
    }

-- .. and taken back: it has one less
pub table_taken : (v v' : View) (w w' : World) (front : List Named) (e : Named) (rid : RowId) → OneTableMore w'.current w.current e.1.number e.0 rid → IsUnlisted front e.1.number
    → ((m : ℕ) → v'.content.columns m ≡ v.content.columns m) → v'.content.next_container ≡ v.content.next_container
    → ((t : ℕ) → Lists front (w'.txns t).changes) → Cataloged v w (front ++ e ∷ []) → Cataloged v' w' front
table_taken v v' w w' front e rid o unlisted columns next lists h =
    let n = e.1.number in
    let left = λ (x : Named) (a : Among x front). among-left x front (e ∷ []) a in
    record {
      dictionary = record {
        there = λ x a. elim (table_back w'.current w.current n e.0 rid o (definition_of x) (h.dictionary.there x (left x a))) [
          | inl old ↦ old
          | inr new ↦ absurd (each-among (λ (y : Named). y.1.number ≢ n) x front unlisted a new.0)
        ];
        only = λ d g. elim (among-either (named_of d) front (e ∷ []) (h.dictionary.only d (table_on w'.current w.current n e.0 rid o d g))) [
          | inl old ↦ old
          | inr new ↦ elim new [
            | inl same ↦ absurd (o.unlisted g.table.0 d.name (g.table.1 ∙ ap (λ (y : Named). Some (table_row y.1.number d.name)) same))
            | inr none ↦ absurd none
          ]
        ];
        user = λ x a. h.dictionary.user x (left x a);
      };
      described = λ x a. let p = h.described x (left x a) in (columns x.1.number ∙ p.0, (let lt = p.1 in omega (arith, lt, next)));
      catalogs = record { of_tables = columns 1 ∙ h.catalogs.of_tables; of_columns = columns 2 ∙ h.catalogs.of_columns };
      listed = λ r row at.
          let p = h.listed r row (still r row at) in
          elim (among-either p.0 front (e ∷ []) p.1) [
            | inl old ↦ (p.0, old, p.2)
            | inr new ↦ elim new [
              | inl same ↦ absurd (o.unlisted r p.0.0 (at ∙ ap Some (p.2 ∙ ap (λ (y : Named). table_row y.1.number p.0.0) same)))
              | inr none ↦ absurd none
            ]
          ];
      once = λ q r m a b x y. h.once q r m a b (still q (table_row m a) x) (still r (table_row m b) y);
      numbered = λ r row m at of. (let lt = h.numbered r row m (o.same 2 r refl (λ z k. two_not_one z) ∙ at) of in omega (arith, lt, next));
      lists = lists;
    }
  where
    still : (r : RowId) (row : List Value) → w'.current 1 r ≡ Some row → w.current 1 r ≡ Some row
    still r row at = o.same 1 r refl (λ z k. none_some row (sym o.none ∙ ap (w'.current 1) (sym k) ∙ at)) ∙ at

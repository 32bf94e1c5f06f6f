-- What a row that is put, or taken back, makes of the dictionary.
use Rattle.std.proofs.Common.{◌≡◌, ◌≢◌, ℕ, ◌-◌, List, [], ◌∷◌, ◌++◌, length, take, true, false, refl, sym, ◌∙◌, ap, subst, arith, inl, inr, Some, None, length-append}
use Rattle.std.specs.Prelude.{◌==◌, if◌then◌else◌}
use Rattle.std.proofs.lemmas.Bool.{both_ways, cases_eq}
use Rattle.std.proofs.lemmas.Bool.Decides.{nat_tests}
use Rattle.dby_types.specs.declared.number.RowId.{RowId}
use Rattle.store_api.specs.View.{View}
use Rattle.table_model.specs.Tables.{Tables, Made, put, laid_over}
use Rattle.journal_model.specs.Catalog.{table_row}
use Rattle.session_model.specs.World.{World, Txn}
use Rattle.session_model.specs.Places.{Locks, Shared, Written, is_catalog}
use Rattle.session_model.proofs.PlaceLemmas.{here, elsewhere, put_here, put_elsewhere}
use Rattle.session_engine.specs.Dictionary.{Named}
use Rattle.session_engine.specs.Listed.{Cataloged, ListsTable, ListsColumn, Lists, left_named}
use Rattle.session_engine.proofs.CatalogLemmas.{OneColumnMore, OneTableMore, column_taken, table_taken, each-among, table_row-number}
use Rattle.session_engine.proofs.ListedLemmas.{kept_catalog}

-- who changes the catalog is the only one that has changes
pub sole_changes : (w : World) (l : Locks) (a table : ℕ) (rid : RowId) → Shared w l → l.writes a table rid ≡ true → is_catalog table ≡ true → (t : ℕ) → t ≢ a → (w.txns t).changes ≡ []
sole_changes w l a table rid s writes c t ne = elim (s.txns t).lawful [
  | inl none ↦ none
  | inr reads ↦ absurd (ne (sym (s.fits.alone a t table rid writes (reads table rid c))))
]

-- the changes of one transaction, and those of the others
pub lists_own : (a : ℕ) (w w' : World) (named' : List Named) → ((t : ℕ) → t ≢ a → w'.txns t ≡ w.txns t) → Lists named' (w'.txns a).changes
    → ((t : ℕ) → t ≢ a → Lists named' (w.txns t).changes) → (t : ℕ) → Lists named' (w'.txns t).changes
lists_own a w w' named' others own rest t = elim (cases_eq t a) [
  | inl same ↦ subst (λ n. Lists named' (w'.txns n).changes) (sym same) own
  | inr ne ↦ subst (λ (x : Txn). Lists named' x.changes) (sym (others t ne)) (rest t ne)
]

-- the dictionary without its newest table
take_front : {X : Type 0} (front back : List X) → take (length front) (front ++ back) ≡ front
take_front [] back = refl
take_front (x ∷ front) back = ap (λ xs. x ∷ xs) (take_front front back)

left_front : (front : List Named) (e : Named) → left_named 1 (front ++ e ∷ []) ≡ front
left_front front e =
    let count : length (front ++ e ∷ []) - 1 ≡ length front = (let both = length-append front (e ∷ []) in omega (arith, both)) in
    ap (λ n. take n (front ++ e ∷ [])) count ∙ take_front front (e ∷ [])

left_other : (table : ℕ) (named : List Named) → (table == 1) ≡ false → left_named table named ≡ named
left_other table named h = ap (λ b. if b then take (length named - 1) named else named) h

not_one : (table : ℕ) → is_catalog table ≡ false → (table == 1) ≡ false
not_one table h = grind (arith, nat_tests)

-- A ROW OF A USER'S TABLE
pub user_catalog : (v v' : View) (w w' : World) (table : ℕ) (rid : RowId) (named : List Named) → is_catalog table ≡ false
    → ((t : ℕ) (r : RowId) → (t ≡ table → r ≡ rid → ⊥) → w.current t r ≡ w'.current t r)
    → ((n : ℕ) → v'.content.columns n ≡ v.content.columns n) → v'.content.next_container ≡ v.content.next_container
    → ((t : ℕ) → Lists named (w'.txns t).changes) → Cataloged v w named → Cataloged v' w' named
user_catalog v v' w w' table rid named user beside columns next lists h =
    kept_catalog v v' w w' named (λ t r c. beside t r (λ e k. both_ways _ user (subst (λ y. is_catalog y ≡ true) e c))) columns (omega (arith, next)) lists h

-- THE NEWEST CHANGE TAKEN BACK
pub undone_catalog : (v v' : View) (w w' : World) (l : Locks) (a : ℕ) (m : Made) (older : List Made) (named : List Named) → Shared w l → (w.txns a).changes ≡ m ∷ older
    → w'.current ≡ put w.current m.change.table m.change.rid m.change.old → (w'.txns a).changes ≡ older → ((t : ℕ) → t ≢ a → w'.txns t ≡ w.txns t)
    → ((n : ℕ) → v'.content.columns n ≡ v.content.columns n) → v'.content.next_container ≡ v.content.next_container
    → Cataloged v w named → Cataloged v' w' (left_named m.change.table named)
undone_catalog v v' w w' l a m older named s top current left others columns next h = elim (subst (Lists named) top (h.lists a)) [
  | inl user ↦ subst (Cataloged v' w') (sym (left_other m.change.table named (not_one m.change.table user.0)))
      (user_catalog v v' w w' m.change.table m.change.rid named user.0 beside columns next (lists_own a w w' named others (subst (Lists named) (sym left) user.1) (λ t ne. h.lists t)) h)
  | inr more ↦ elim more [
    | inl col ↦ of_column col.0 col.1
    | inr tab ↦ of_table tab.0 tab.1 tab.2
  ]
]
  where
    writes : l.writes a m.change.table m.change.rid ≡ true
    writes = (subst (Written l a) top (s.txns a).owned).0

    stood : w.current m.change.table m.change.rid ≡ m.change.new
    stood = (s.txns a).seen m.change.table m.change.rid (s.fits.writer_reads a m.change.table m.change.rid writes) ∙ ap (λ ms. laid_over ms w.committed m.change.table m.change.rid) top
        ∙ put_here (laid_over older w.committed) m.change.table m.change.rid m.change.new m.change.table m.change.rid (here m.change.table m.change.rid m.change.table m.change.rid refl refl)

    gone : w'.current m.change.table m.change.rid ≡ m.change.old
    gone = ap (λ (f : Tables). f m.change.table m.change.rid) current ∙ put_here w.current m.change.table m.change.rid m.change.old m.change.table m.change.rid (here m.change.table m.change.rid m.change.table m.change.rid refl refl)

    beside : (t : ℕ) (r : RowId) → (t ≡ m.change.table → r ≡ m.change.rid → ⊥) → w.current t r ≡ w'.current t r
    beside t r ne = sym (ap (λ (f : Tables). f t r) current ∙ put_elsewhere w.current m.change.table m.change.rid m.change.old t r (elsewhere m.change.table m.change.rid t r ne))

    of_column : ListsColumn named m → Lists named older → Cataloged v' w' (left_named m.change.table named)
    of_column c rest =
        let named_is : left_named m.change.table named ≡ named = ap (λ n. left_named n named) c.table in
        let one_more : OneColumnMore w'.current w.current c.number m.change.rid = record {
          place = c.place;
          column = c.column;
          none = ap (λ y. w'.current y m.change.rid) (sym c.table) ∙ gone ∙ c.none;
          row = ap (λ y. w.current y m.change.rid) (sym c.table) ∙ stood ∙ c.row;
          same = λ t r k ne. beside t r (λ e q. ne (e ∙ c.table) q);
          unlisted = λ r name at.
              let p = h.listed r (table_row c.number name) (beside 1 r (λ e q. let two = c.table in omega (arith, e, two)) ∙ at) in
              each-among (λ (e : Named). e.1.number ≢ c.number) p.0 named c.unlisted p.1 (sym (table_row-number c.number p.0.1.number name p.0.0 p.2));
        } in
        subst (Cataloged v' w') (sym named_is) (column_taken v v' w w' named c.number m.change.rid one_more columns next (lists_own a w w' named others (subst (Lists named) (sym left) rest) (λ t ne. h.lists t)) h)

    of_table : (front : List Named) → ListsTable front named m → Lists front older → Cataloged v' w' (left_named m.change.table named)
    of_table front c rest =
        let e = c.newest in
        let named_is : left_named m.change.table named ≡ front = ap (λ n. left_named n named) c.table ∙ ap (left_named 1) c.named_is ∙ left_front front e in
        let none : w'.current 1 m.change.rid ≡ None = ap (λ y. w'.current y m.change.rid) (sym c.table) ∙ gone ∙ c.none in
        let row : w.current 1 m.change.rid ≡ Some (table_row e.1.number e.0) = ap (λ y. w.current y m.change.rid) (sym c.table) ∙ stood ∙ c.row in
        let one_more : OneTableMore w'.current w.current e.1.number e.0 m.change.rid = record {
          none = none;
          row = row;
          same = λ t r k ne. beside t r (λ x q. ne (x ∙ c.table) q);
          unlisted = λ r other at.
              let off : r ≡ m.change.rid → ⊥ = λ q. (let x : None ≡ Some (table_row e.1.number other) = sym none ∙ ap (w'.current 1) (sym q) ∙ at in cc) in
              off (h.once r m.change.rid e.1.number other e.0 (beside 1 r (λ x q. off q) ∙ at) row);
        } in
        let catalog : is_catalog m.change.table ≡ true = ap is_catalog c.table in
        subst (Cataloged v' w') (sym named_is) (table_taken v v' w w' front e m.change.rid one_more c.unlisted columns next
        (lists_own a w w' front others (subst (Lists front) (sym left) rest) (λ t ne. subst (Lists front) (sym (sole_changes w l a m.change.table m.change.rid s writes catalog t ne)) tt))
        (subst (Cataloged v w) c.named_is h))

-- A CREATE TABLE puts its catalog rows, those of its columns and then its own, and is answered behind them.
use Rattle.std.proofs.Common.{◌≡◌, ◌≢◌, ℕ, zero, suc, ◌+◌, ◌<◌, ◌≤◌, List, [], ◌∷◌, ◌++◌, length, map, set, take, true, false, refl, sym, ◌∙◌, ap, subst, arith, inl, inr, Some, None, Vec, Global}
use Rattle.std.specs.Prelude.{◌⊎◌, slice_get, nat_lt, if◌then◌else◌}
use Rattle.std.proofs.lemmas.List.{length-set, get_or-set_same}
use Rattle.std.proofs.lemmas.Bool.{both_ways, and_parts, cases_eq}
use Rattle.std.proofs.lemmas.Bool.Decides.{nat_tests}
use Rattle.dby_types.specs.declared.answer.Answer.TheVariants.{Done}
use Rattle.dby_types.specs.declared.definition.ColumnDef.{ColumnDef}
use Rattle.dby_types.specs.declared.number.RowId.{RowId}
use Rattle.dby_types.specs.declared.value.Value.{Value}
use Rattle.store_api.specs.declared.slot.Item.TheVariants.{Changed}
use Rattle.store_api.specs.Catalog.{columns_of_tables, columns_of_columns}
use Rattle.store_api.specs.Effects.{with_slot, slot_of}
use Rattle.store_api.specs.View.{View, Content, live}
use Rattle.table_model.specs.Fitting.{fits_columns}
use Rattle.table_model.specs.Tables.{Tables, put, laid_over, no_tables}
use Rattle.journal_model.specs.Catalog.{HasColumns, Defines, NoTable, table_row, column_row, column_rows}
use Rattle.journal_model.specs.Legal.{CommitsFit, Wrote, written, wrote, row_put}
use Rattle.journal_model.specs.Meaning.{is_long}
use Rattle.journal_model.proofs.BaseLemmas.{at_other}
use Rattle.session_model.specs.Legal.{AnswerMeets, IsMeant, Owes, puts_of, view as view_at}
use Rattle.session_model.specs.Orders.{Passes, PassesOrder, order_of}
use Rattle.session_model.specs.Places.{Relies, WritesCatalog, locks_of}
use Rattle.session_model.specs.World.{Txn, opening, seen, ends_if, said, set_conn, after_answered, pin_of, apply}
use Rattle.session_model.proofs.BaseLemmas.{count_is, opened_is}
use Rattle.session_model.proofs.FitLemmas.{defines_same, fitting_head}
use Rattle.session_model.proofs.PlaceLemmas.{here, elsewhere, put_here, put_elsewhere}
use Rattle.session_engine.specs.declared.session.Make.{Make}
use Rattle.session_engine.specs.declared.session.Phase.{Phase}
use Rattle.session_engine.specs.declared.session.Plan.TheVariants as plan
use Rattle.session_engine.specs.declared.session.Session.{Session}
use Rattle.session_engine.specs.Creating.{told_done}
use Rattle.session_engine.specs.Dictionary.{Named, IsDictionary, IsAbsent, named_of, definition_of}
use Rattle.session_engine.specs.Filling.{Moves, inserted}
use Rattle.session_engine.specs.Follows.{Follows}
use Rattle.session_engine.specs.Listed.{IsUnlisted, Lists}
use Rattle.session_engine.specs.Listing.{counted, is_listed}
use Rattle.session_engine.specs.State.{State, Holds, HasFirst, Mirrors, world_of, txn_of}
use Rattle.session_engine.proofs.CatalogLemmas.{OneColumnMore, OneTableMore, column_back, table_back, column_put, table_put, among-each, same_or_not}
use Rattle.session_engine.proofs.ContainerLemmas.{sole_view}
use Rattle.session_engine.proofs.ListingLemmas.{lists_own, sole_changes}
use Rattle.session_engine.proofs.MakeLemmas.{Making, make_at, make_roomy, make_small}
use Rattle.session_engine.proofs.OpeningLemmas.{none_defined}
use Rattle.session_engine.proofs.PutLemmas.{puts_row, put_made}
use Rattle.session_engine.proofs.SmallLemmas.{column_fits, table_fits, small_column}
use Rattle.session_engine.proofs.StableLemmas.{writer_reads}
use Rattle.session_engine.proofs.StepLemmas.{own_session}
use Rattle.session_engine.proofs.TellLemmas.{answers, set_twice}

-- ITEMS of a list by their places
pub get_within : {X : Type 0} (xs : List X) (k : ℕ) (x : X) → slice_get xs k ≡ Some x → k < length xs
get_within [] k x h = cc
get_within (y ∷ xs) zero x h = omega arith
get_within (y ∷ xs) (suc k) x h = (let lt = get_within xs k x h in omega (arith, lt))

take_more : {X : Type 0} (xs : List X) (k : ℕ) (x : X) → slice_get xs k ≡ Some x → take (suc k) xs ≡ take k xs ++ x ∷ []
take_more [] k x h = cc
take_more (y ∷ xs) zero x h = (let same : y ≡ x = cc in ap (λ z. z ∷ []) same)
take_more (y ∷ xs) (suc k) x h = ap (λ zs. y ∷ zs) (take_more xs k x h)

take_next : {X : Type 0} (xs : List X) (k : ℕ) (x : X) → slice_get xs k ≡ Some x → take (k + 1) xs ≡ take k xs ++ x ∷ []
take_next xs k x h = ap (λ n. take n xs) (let n : k + 1 ≡ suc k = omega arith in n) ∙ take_more xs k x h

take_whole : {X : Type 0} (xs : List X) (n : ℕ) → n ≡ length xs → take n xs ≡ xs
take_whole [] n h = ap (λ m. take m []) h
take_whole (x ∷ xs) n h = ap (λ m. take m (x ∷ xs)) h ∙ ap (λ zs. x ∷ zs) (take_whole xs (length xs) refl)

-- the rows of a table, by their places
get_column : (n p : ℕ) (cs : List ColumnDef) (back : List Wrote) (k : ℕ) (c : ColumnDef) → slice_get cs k ≡ Some c
    → slice_get (map (row_put 2) (column_rows n p cs) ++ back) k ≡ Some (row_put 2 (column_row n (p + k) c))
get_column n p [] back k c h = cc
get_column n p (x ∷ cs) back zero c h = (let same : x ≡ c = cc in ap (λ y. Some (row_put 2 (column_row n p y))) same ∙ ap (λ q. Some (row_put 2 (column_row n q c))) (omega arith))
get_column n p (x ∷ cs) back (suc k) c h = get_column n (p + 1) cs back k c h ∙ ap (λ q. Some (row_put 2 (column_row n q c))) (omega arith)

get_table : (n p : ℕ) (cs : List ColumnDef) (x : Wrote) → slice_get (map (row_put 2) (column_rows n p cs) ++ x ∷ []) (length cs) ≡ Some x
get_table n p [] x = refl
get_table n p (c ∷ cs) x = get_table n (p + 1) cs x

count_puts : (n p : ℕ) (cs : List ColumnDef) (x : Wrote) → length (map (row_put 2) (column_rows n p cs) ++ x ∷ []) ≡ length cs + 1
count_puts n p [] x = refl
count_puts n p (c ∷ cs) x = (let rest = count_puts n (p + 1) cs x in omega (arith, rest))

next_column : (n : ℕ) (name : List ℕ) (cs : List ColumnDef) (k : ℕ) (c : ColumnDef) → slice_get cs k ≡ Some c → slice_get (puts_of n name cs) k ≡ Some (row_put 2 (column_row n k c))
next_column n name cs k c h = get_column n 0 cs (row_put 1 (table_row n name) ∷ []) k c h ∙ ap (λ q. Some (row_put 2 (column_row n q c))) (omega arith)

-- ONE COLUMN MORE stands
first_more : (f g : Tables) (n k : ℕ) (cs : List ColumnDef) (c : ColumnDef) (rid : RowId) → slice_get cs k ≡ Some c → f 2 rid ≡ None → g 2 rid ≡ Some (column_row n k c)
    → ((r : RowId) → r ≢ rid → g 2 r ≡ f 2 r) → HasFirst f n k cs → HasFirst g n (k + 1) cs
first_more f g n k cs c rid there none row same h = record {
  each = λ place x before at. elim (last_or place before) [
    | inl is ↦
        let one : Some c ≡ Some x = sym there ∙ ap (slice_get cs) (sym is) ∙ at in
        let column : c ≡ x = cc in
        (rid, row ∙ ap (λ q. Some (column_row n q c)) (sym is) ∙ ap (λ y. Some (column_row n place y)) column)
    | inr earlier ↦ (let p = h.each place x earlier at in (p.0, same p.0 (λ e. (let e2 : None ≡ Some (column_row n place x) = sym none ∙ ap (f 2) (sym e) ∙ p.1 in cc)) ∙ p.1))
  ];
  only = λ r found stands of. elim (same_or_not r rid) [
    | inl is ↦
        let one : Some (column_row n k c) ≡ Some found = sym row ∙ ap (g 2) (sym is) ∙ stands in
        let same_row : column_row n k c ≡ found = cc in
        (k, c, omega arith, there, sym same_row)
    | inr other ↦ (let p = h.only r found (sym (same r other) ∙ stands) of in let before = p.2 in (p.0, p.1, omega (arith, before), p.3, p.4))
  ];
}
  where
    last_or : (place : ℕ) → place < k + 1 → (place ≡ k) ⊎ (place < k)
    last_or place before = elim (cases_eq place k) [ inl is ↦ inl is | inr ne ↦ inr (omega (arith, ne, before)) ]

-- all of them: they are the table's columns
has_columns : (f : Tables) (n k : ℕ) (cs : List ColumnDef) → k ≡ length cs → HasFirst f n k cs → HasColumns f n cs
has_columns f n k cs all h = record {
  each = λ place c at. h.each place c (let lt = get_within cs place c at in omega (arith, lt, all)) at;
  only = λ rid row at of. let p = h.only rid row at of in (p.0, p.1, p.3, p.4);
}

-- no table of the dictionary has its number
unlisted_named : (f : Tables) (n : ℕ) (named : List Named) → IsDictionary f named → ((rid : RowId) (name : List ℕ) → f 1 rid ≡ Some (table_row n name) → ⊥) → IsUnlisted named n
unlisted_named f n named dict none = among-each (λ (e : Named). e.1.number ≢ n) named (λ e a is. let d = dict.there e a in none d.table.0 e.0 (d.table.1 ∙ ap (λ m. Some (table_row m e.0)) is))

-- .. nor its name
pub absent_named : (f : Tables) (name : List ℕ) (named : List Named) → IsDictionary f named → NoTable f name → IsAbsent named name
absent_named f name named dict none = among-each (λ (e : Named). e.0 ≡ name → ⊥) named (λ e a is. none (definition_of e) (dict.there e a) is)

-- ROWS FIT as before
column_commits : (f : Tables) (n : ℕ) (rid : RowId) (row : List Value) (named : List Named) → OneColumnMore f (put f 2 rid (Some row)) n rid → IsDictionary f named → CommitsFit f → CommitsFit (put f 2 rid (Some row))
column_commits f n rid row named o dict h = λ d q found defines at.
    let g = put f 2 rid (Some row) in
    let in_f = column_back f g n rid o d defines in
    let user : 16 ≤ d.number = dict.user (named_of d) (dict.only d in_f) in
    h d q found in_f (sym (put_elsewhere f 2 rid (Some row) d.number q (elsewhere 2 rid d.number q (λ e k. omega (arith, e, user)))) ∙ at)

table_commits : (f : Tables) (n : ℕ) (name : List ℕ) (rid : RowId) (row : List Value) (named : List Named) → OneTableMore f (put f 1 rid (Some row)) n name rid → 16 ≤ n → ((q : RowId) → f n q ≡ None)
    → IsDictionary f named → CommitsFit f → CommitsFit (put f 1 rid (Some row))
table_commits f n name rid row named o far empty dict h = λ d q found defines at.
    let g = put f 1 rid (Some row) in
    elim (table_back f g n name rid o d defines) [
      | inl in_f ↦
          let user : 16 ≤ d.number = dict.user (named_of d) (dict.only d in_f) in
          h d q found in_f (sym (put_elsewhere f 1 rid (Some row) d.number q (elsewhere 1 rid d.number q (λ e k. omega (arith, e, user)))) ∙ at)
      | inr new ↦
          let none : None ≡ Some found = sym (empty q) ∙ sym (put_elsewhere f 1 rid (Some row) n q (elsewhere 1 rid n q (λ e k. omega (arith, e, far)))) ∙ ap (λ m. g m q) (sym new.0) ∙ at in
          cc
    ]

-- what stands, for who has the catalog alone
abbrev Sole : State → ℕ → Type 0
Sole st a = (table : ℕ) (rid : RowId) → laid_over ((world_of st.es).txns a).changes (world_of st.es).committed table rid ≡ (world_of st.es).current table rid

sole : (st : State) (last a : ℕ) → Holds st last → WritesCatalog (locks_of st.lock.grants) a → Sole st a
sole st last a ok alone = λ table rid. sym (sole_view (world_of st.es) (locks_of st.lock.grants) a ok.shared alone table rid)

sole_dictionary : (f g : Tables) (named : List Named) → ((table : ℕ) (rid : RowId) → f table rid ≡ g table rid) → IsDictionary g named → IsDictionary f named
sole_dictionary f g named same h = record {
  there = λ e a. defines_same g f (λ table rid c. sym (same table rid)) (definition_of e) (h.there e a);
  only = λ d defines. h.only d (defines_same f g (λ table rid c. same table rid) d defines);
  user = h.user;
}

-- A COLUMN'S ROW
column_more : (f : Tables) (n k : ℕ) (c : ColumnDef) (rid : RowId) → f 2 rid ≡ None → ((r : RowId) (name : List ℕ) → f 1 r ≡ Some (table_row n name) → ⊥)
    → OneColumnMore f (put f 2 rid (Some (column_row n k c))) n rid
column_more f n k c rid none unlisted = record {
  place = k;
  column = c;
  none = none;
  row = put_here f 2 rid (Some (column_row n k c)) 2 rid (here 2 rid 2 rid refl refl);
  same = λ t q is ne. put_elsewhere f 2 rid (Some (column_row n k c)) t q (elsewhere 2 rid t q ne);
  unlisted = unlisted;
}

pub lays : (st : State) (last k did : ℕ) (r : Session) (make : Make) (c : ColumnDef) (made : Vec ℕ Global) (rid : RowId) (v' : View) → Making st last k r make → make.made ≡ true → slice_get make.def.columns make.done ≡ Some c
    → made.items ≡ r.made.items ++ did ∷ [] → did ≡ length st.es
    → st.view.content.heaps 2 rid ≡ None → v'.content ≡ with_slot st.view.content (txn_of r) 2 rid (slot_of (column_row make.def.number make.done c) false)
    → ((b : ℕ) → b ≢ k + 1 → v'.actors b ≡ st.view.actors b) → v'.limit ≡ st.view.limit
    → Holds (record { es = st.es ++ inserted r.txn 2 rid (column_row make.def.number make.done c) ∷ []; ls = st.ls; lock = st.lock; ss = set st.ss k (record r { made = made; plan = plan.Create (counted make) }); view = v'; named = st.named }) last
unfolding column_more
lays st last k did r make c made rid v' h is_made there pushed at_end none content actors limit =
    let w = world_of st.es in
    let l = locks_of st.lock.grants in
    let a = txn_of r in
    let n = make.def.number in
    let row = column_row n make.done c in
    let w' = apply w (inserted r.txn 2 rid row) in
    let ok = h.holds in
    let f = (make_at st last k r make h).3 in
    let before = get_within make.def.columns make.done c there in
    let fd = f.founded is_made (omega (arith, before)) in
    let far = fd.user in
    let over = laid_over (w.txns a).changes w.committed in
    let same = sole st last a ok f.bears.alone in
    let gone : w.current 2 rid ≡ None = sym (ok.stored 2 rid) ∙ ap live none in
    let more : OneColumnMore w.current w'.current n rid = column_more w.current n make.done c rid gone fd.unlisted in
    let more_over = column_more over n make.done c rid (same 2 rid ∙ gone) (λ q name at. fd.unlisted q name (sym (same 1 q) ∙ at)) in
    let m = put_made w 2 rid row in
    let columns : (b : ℕ) → v'.content.columns b ≡ st.view.content.columns b = λ b. ap (λ (d : Content). d.columns b) content in
    let next : v'.content.next_container ≡ st.view.content.next_container = ap (λ (d : Content). d.next_container) content in
    let s' : Session = record r { made = made; plan = plan.Create (counted make) } in
    puts_row st last k did 2 r (plan.Create (counted make)) made rid row v' st.named h.within h.at h.phase pushed at_end none content actors limit
    (f.bears.alone 2 rid refl) (writer_reads a st.lock f.bears.alone)
    (column_commits over n rid row st.named more_over (sole_dictionary over w.current st.named same ok.cataloged.dictionary) (fitting_head w.committed (w.txns a).changes (ok.shared.txns a).fitting)) tt tt
    (λ x. column_put st.view v' w w' st.named n rid more (let lt = fd.made in omega (arith, lt, next)) columns next
    (lists_own a w w' st.named (λ t ne. at_other w.txns a _ t ne) (subst (λ (y : Txn). Lists st.named y.changes) (sym x) (inr (inl (
      record { number = n; place = make.done; column = c; table = refl; none = refl; row = refl; unlisted = unlisted_named w.current n st.named ok.cataloged.dictionary fd.unlisted },
      ok.cataloged.lists a,
    )))) (λ t ne. ok.cataloged.lists t)) ok.cataloged)
    (λ x items. record {
      bears = record {
        runs = record {
          first = ap (λ (y : Txn). y.first) x ∙ f.bears.runs.first;
          since = (let since : (w.txns a).started < w.count = f.bears.runs.since in let same_start : (w'.txns a).started ≡ (w.txns a).started = ap (λ (y : Txn). y.started) x in omega (arith, since, same_start));
          short = ap (λ (y : Txn). is_long y.text) x ∙ f.bears.runs.short;
        };
        order = ap (λ (y : Txn). order_of y.text) x ∙ f.bears.order;
        alone = f.bears.alone;
        fresh = subst (λ (y : Txn). NoTable (laid_over y.begun w.committed) make.def.name) (sym x) f.bears.fresh;
        distinct = f.bears.distinct;
        few = f.bears.few;
      };
      stands = record {
        own_items = Changed 2 rid (st.view.content.heaps 2 rid) ∷ f.stands.own_items;
        base = f.stands.base;
        own = m ∷ f.stands.own;
        items_are = items ∙ ap (λ xs. Changed 2 rid (st.view.content.heaps 2 rid) ∷ xs) f.stands.items_are;
        length_is = f.stands.length_is;
        changes_are = subst (λ (y : Txn). y.changes ≡ (m ∷ f.stands.own) ++ y.begun) (sym x) (ap (λ xs. m ∷ xs) f.stands.changes_are);
        mirrors_own = (refl, refl, ap live none, f.stands.mirrors_own);
        mirrors_base = subst (λ (y : Txn). Mirrors f.stands.base y.begun) (sym x) f.stands.mirrors_base;
      };
      puts = ap (λ xs. xs ++ wrote m ∷ []) f.puts ∙ sym (take_next (puts_of n make.def.name make.def.columns) make.done (row_put 2 row) (next_column n make.def.name make.def.columns make.done c there));
      within = omega (arith, before);
      unmade = λ bare. absurd (both_ways make.made bare is_made);
      founded = λ y left. record {
        described = columns n ∙ fd.described;
        made = (let lt = fd.made in omega (arith, lt, next));
        small = fd.small;
        user = fd.user;
        empty = λ q. put_elsewhere w.current 2 rid (Some row) n q (elsewhere 2 rid n q (λ e z. omega (arith, e, far))) ∙ fd.empty q;
        free = fd.free;
        absent = λ d defines. fd.absent d (column_back w.current w'.current n rid more d defines);
        unlisted = λ q name at. fd.unlisted q name (sym (more.same 1 q refl (λ e z. omega (arith, e))) ∙ at);
        columns = first_more w.current w'.current n make.done make.def.columns c rid there gone more.row (λ q ne. more.same 2 q refl (λ e z. ne z)) fd.columns;
      };
      room = λ on. absurd (both_ways false refl on);
    }) ok

-- it is stored as it is
pub lay_stored : (st : State) (last k : ℕ) (r : Session) (make : Make) (c : ColumnDef) → Making st last k r make → make.made ≡ true → slice_get make.def.columns make.done ≡ Some c
    → (columns : List ColumnDef) × (st.view.content.columns 2 ≡ Some columns) × (fits_columns columns (column_row make.def.number make.done c) ≡ true)
lay_stored st last k r make c h is_made there =
    let f = (make_at st last k r make h).3 in
    let before = get_within make.def.columns make.done c there in
    let fd = f.founded is_made (omega (arith, before)) in
    let few = f.bears.few in
    (columns_of_columns, h.holds.cataloged.catalogs.of_columns, column_fits make.def.number make.done c fd.small (omega (arith, before, few)) (small_column make.def.columns make.done c (make_small st last k r make h).1 there))

-- in the room that it has made
pub lay_room : (st : State) (last k : ℕ) (r : Session) (make : Make) (c : ColumnDef) → Making st last k r make → make.has_room ≡ true → slice_get make.def.columns make.done ≡ Some c → (st.view.actors (k + 1)).room ≡ Some 2
lay_room st last k r make c h on there =
    let before = get_within make.def.columns make.done c there in
    let less : nat_lt make.done (length make.def.columns) ≡ true = grind (arith, nat_tests) in
    (make_at st last k r make h).3.room on ∙ ap (λ b. Some (if b then 2 else 1)) less

-- THE TABLE'S OWN ROW
table_more : (f : Tables) (n : ℕ) (name : List ℕ) (rid : RowId) → f 1 rid ≡ None → ((r : RowId) (other : List ℕ) → f 1 r ≡ Some (table_row n other) → ⊥)
    → OneTableMore f (put f 1 rid (Some (table_row n name))) n name rid
table_more f n name rid none unlisted = record {
  none = none;
  row = put_here f 1 rid (Some (table_row n name)) 1 rid (here 1 rid 1 rid refl refl);
  same = λ t q is ne. put_elsewhere f 1 rid (Some (table_row n name)) t q (elsewhere 1 rid t q ne);
  unlisted = unlisted;
}

abbrev pub entry_of : Make → Named
entry_of make = (make.def.name, record { number = make.def.number; columns = make.def.columns })

pub lists : (st : State) (last k did : ℕ) (r : Session) (make : Make) (made : Vec ℕ Global) (rid : RowId) (v' : View) → Making st last k r make → make.made ≡ true → make.done ≡ length make.def.columns
    → made.items ≡ r.made.items ++ did ∷ [] → did ≡ length st.es
    → st.view.content.heaps 1 rid ≡ None → v'.content ≡ with_slot st.view.content (txn_of r) 1 rid (slot_of (table_row make.def.number make.def.name) false)
    → ((b : ℕ) → b ≢ k + 1 → v'.actors b ≡ st.view.actors b) → v'.limit ≡ st.view.limit
    → Holds (record {
      es = st.es ++ inserted r.txn 1 rid (table_row make.def.number make.def.name) ∷ [];
      ls = st.ls;
      lock = st.lock;
      ss = set st.ss k (record r { made = made; plan = plan.Create (counted make) });
      view = v';
      named = st.named ++ entry_of make ∷ [];
    }) last
lists st last k did r make made rid v' h is_made all pushed at_end none content actors limit =
    let w = world_of st.es in
    let l = locks_of st.lock.grants in
    let a = txn_of r in
    let n = make.def.number in
    let row = table_row n make.def.name in
    let w' = apply w (inserted r.txn 1 rid row) in
    let named' = st.named ++ entry_of make ∷ [] in
    let ok = h.holds in
    let f = (make_at st last k r make h).3 in
    let fd = f.founded is_made (omega (arith, all)) in
    let far = fd.user in
    let over = laid_over (w.txns a).changes w.committed in
    let same = sole st last a ok f.bears.alone in
    let writes : l.writes a 1 rid ≡ true = f.bears.alone 1 rid refl in
    let gone : w.current 1 rid ≡ None = sym (ok.stored 1 rid) ∙ ap live none in
    let more : OneTableMore w.current w'.current n make.def.name rid = table_more w.current n make.def.name rid gone fd.unlisted in
    let more_over = table_more over n make.def.name rid (same 1 rid ∙ gone) (λ q name at. fd.unlisted q name (sym (same 1 q) ∙ at)) in
    let m = put_made w 1 rid row in
    let columns : (b : ℕ) → v'.content.columns b ≡ st.view.content.columns b = λ b. ap (λ (d : Content). d.columns b) content in
    let next : v'.content.next_container ≡ st.view.content.next_container = ap (λ (d : Content). d.next_container) content in
    puts_row st last k did 1 r (plan.Create (counted make)) made rid row v' named' h.within h.at h.phase pushed at_end none content actors limit writes (writer_reads a st.lock f.bears.alone)
    (table_commits over n make.def.name rid row st.named more_over far (λ q. same n q ∙ fd.empty q) (sole_dictionary over w.current st.named same ok.cataloged.dictionary) (fitting_head w.committed (w.txns a).changes (ok.shared.txns a).fitting))
    ((fd.free, λ d defines. absurd (none_defined d (subst (λ (g : Tables). Defines g d) (opened_is (opening no_tables) st.es) defines))), tt) (fd.made, tt)
    (λ x. table_put st.view v' w w' st.named n make.def.name make.def.columns rid more (has_columns w.current n make.done make.def.columns all fd.columns) fd.small f.bears.few far fd.described fd.made columns next
    (lists_own a w w' named' (λ t ne. at_other w.txns a _ t ne) (subst (λ (y : Txn). Lists named' y.changes) (sym x) (inr (inr (
      st.named,
      record { newest = entry_of make; named_is = refl; unlisted = unlisted_named w.current n st.named ok.cataloged.dictionary fd.unlisted; table = refl; none = refl; row = refl },
      ok.cataloged.lists a,
    )))) (λ t ne. subst (Lists named') (sym (sole_changes w l a 1 rid ok.shared writes refl t ne)) tt)) ok.cataloged)
    (λ x items. record {
      bears = record {
        runs = record {
          first = ap (λ (y : Txn). y.first) x ∙ f.bears.runs.first;
          since = (let since : (w.txns a).started < w.count = f.bears.runs.since in let same_start : (w'.txns a).started ≡ (w.txns a).started = ap (λ (y : Txn). y.started) x in omega (arith, since, same_start));
          short = ap (λ (y : Txn). is_long y.text) x ∙ f.bears.runs.short;
        };
        order = ap (λ (y : Txn). order_of y.text) x ∙ f.bears.order;
        alone = f.bears.alone;
        fresh = subst (λ (y : Txn). NoTable (laid_over y.begun w.committed) make.def.name) (sym x) f.bears.fresh;
        distinct = f.bears.distinct;
        few = f.bears.few;
      };
      stands = record {
        own_items = Changed 1 rid (st.view.content.heaps 1 rid) ∷ f.stands.own_items;
        base = f.stands.base;
        own = m ∷ f.stands.own;
        items_are = items ∙ ap (λ xs. Changed 1 rid (st.view.content.heaps 1 rid) ∷ xs) f.stands.items_are;
        length_is = f.stands.length_is;
        changes_are = subst (λ (y : Txn). y.changes ≡ (m ∷ f.stands.own) ++ y.begun) (sym x) (ap (λ xs. m ∷ xs) f.stands.changes_are);
        mirrors_own = (refl, refl, ap live none, f.stands.mirrors_own);
        mirrors_base = subst (λ (y : Txn). Mirrors f.stands.base y.begun) (sym x) f.stands.mirrors_base;
      };
      puts = ap (λ xs. xs ++ wrote m ∷ []) f.puts ∙ sym (take_next (puts_of n make.def.name make.def.columns) make.done (row_put 1 row)
          (ap (slice_get (puts_of n make.def.name make.def.columns)) all ∙ get_table n 0 make.def.columns (row_put 1 row)));
      within = omega (arith, all);
      unmade = λ bare. absurd (both_ways make.made bare is_made);
      founded = λ y left. absurd (omega (arith, left, all));
      room = λ on. absurd (both_ways false refl on);
    }) ok

pub list_stored : (st : State) (last k : ℕ) (r : Session) (make : Make) → Making st last k r make → make.made ≡ true → make.done ≡ length make.def.columns
    → (columns : List ColumnDef) × (st.view.content.columns 1 ≡ Some columns) × (fits_columns columns (table_row make.def.number make.def.name) ≡ true)
list_stored st last k r make h is_made all =
    let fd = (make_at st last k r make h).3.founded is_made (omega (arith, all)) in
    (columns_of_tables, h.holds.cataloged.catalogs.of_tables, table_fits make.def.number make.def.name fd.small (make_small st last k r make h).0)

pub list_room : (st : State) (last k : ℕ) (r : Session) (make : Make) → Making st last k r make → make.has_room ≡ true → make.done ≡ length make.def.columns → (st.view.actors (k + 1)).room ≡ Some 1
list_room st last k r make h on all =
    let less : nat_lt make.done (length make.def.columns) ≡ false = grind (arith, nat_tests) in
    (make_at st last k r make h).3.room on ∙ ap (λ b. Some (if b then 2 else 1)) less

-- nobody has its name
pub list_absent : (st : State) (last k : ℕ) (r : Session) (make : Make) → Making st last k r make → make.made ≡ true → make.done ≡ length make.def.columns → IsAbsent st.named make.def.name
list_absent st last k r make h is_made all =
    absent_named (world_of st.es).current make.def.name st.named h.holds.cataloged.dictionary ((make_at st last k r make h).3.founded is_made (omega (arith, all))).absent

-- ITS ANSWER
all_put : (st : State) (last k : ℕ) (r : Session) (make : Make) → (h : Making st last k r make) → is_listed make ≡ true
    → written (make_at st last k r make h).3.stands.own ≡ puts_of make.def.number make.def.name make.def.columns
all_put st last k r make h listed =
    let f = (make_at st last k r make h).3 in
    let past : length make.def.columns < make.done = (let both = (and_parts make.made (nat_lt (length make.def.columns) make.done) listed).1 in grind (arith, nat_tests)) in
    let within = f.within in
    let count = count_puts make.def.number 0 make.def.columns (row_put 1 (table_row make.def.number make.def.name)) in
    f.puts ∙ take_whole (puts_of make.def.number make.def.name make.def.columns) make.done (omega (arith, past, within, count))

done_meets : (st : State) (last k place : ℕ) (r : Session) (make : Make) → Making st last k r make → place ≡ length st.es → is_listed make ≡ true
    → AnswerMeets no_tables st.es (world_of st.es) (txn_of r) Done [] place place
done_meets st last k place r make h here listed =
    let w = world_of st.es in
    let f = (make_at st last k r make h).3 in
    let count : w.count ≡ length st.es = count_is (opening no_tables) st.es ∙ (let n = length st.es in omega arith) in
    let since : (w.txns (txn_of r)).started < w.count = f.bears.runs.since in
    record {
      after = omega (arith, count, since, here);
      order = omega arith;
      within = omega (arith, here);
      own = f.stands.own;
      changes = f.stands.changes_are;
      owes = subst (λ o. Owes o (view_at no_tables st.es w (txn_of r)) place place Done [] f.stands.own) (sym f.bears.order)
          (record { number = make.def.number; puts = all_put st last k r make h listed; told = refl; unread = refl });
    }

done_passes : (st : State) (last k : ℕ) (r : Session) (make : Make) → Making st last k r make → Passes ((world_of st.es).txns (txn_of r)).text (seen (world_of st.es) (txn_of r))
done_passes st last k r make h =
    let f = (make_at st last k r make h).3 in
    record { short = f.bears.runs.short; order = subst (λ o. PassesOrder o (seen (world_of st.es) (txn_of r))) (sym f.bears.order) (f.bears.fresh, f.bears.distinct, f.bears.few) }

done_rests : (st : State) (last k : ℕ) (r : Session) (make : Make) → Making st last k r make
    → Relies (world_of st.es) (locks_of st.lock.grants) (pin_of (txn_of r) ((world_of st.es).txns (txn_of r)) (said Done))
done_rests st last k r make h =
    let w = world_of st.es in
    let f = (make_at st last k r make h).3 in
    let reads = writer_reads (txn_of r) st.lock f.bears.alone in
    record {
      catalog = reads;
      number = 1;
      rows = λ rid. reads 1 rid refl;
      meant = subst (λ o. IsMeant o (w.txns (txn_of r)).text (seen w (txn_of r)) 1 (said Done) (w.txns (txn_of r)).begun (w.txns (txn_of r)).changes) (sym f.bears.order) (done_passes st last k r make h);
    }

pub answers_done : (st : State) (last k place : ℕ) (r : Session) (make : Make) (phase : Phase) (v' : View) → Making st last k r make → place ≡ length st.es → is_listed make ≡ true → Moves (k + 1) st.view v' → Follows phase (ends_if r.automatic)
    → Holds (record { es = st.es ++ told_done r.txn place ∷ []; ls = st.ls; lock = st.lock; ss = set st.ss k (record r { phase = phase; plan = plan.Nothing }); view = v'; named = st.named }) last
answers_done st last k place r make phase v' h here listed m follows =
    let w = world_of st.es in
    let is_made : make.made ≡ true = (and_parts make.made (nat_lt (length make.def.columns) make.done) listed).0 in
    let make1 : Make = record make { has_room = false } in
    let r1 : Session = record r { plan = plan.Create make1 } in
    let st1 : State = record { es = st.es; ls = st.ls; lock = st.lock; ss = set st.ss k r1; view = v'; named = st.named } in
    let one : Holds st1 last = make_roomy st last k r make false v' h is_made m (λ on. absurd (both_ways false refl on)) in
    let h1 : Making st1 last k r1 make1 = record {
      within = subst (λ n. k < n) (sym (length-set st.ss k r1)) h.within;
      at = sym (get_or-set_same st.ss k r1 r1 h.within);
      phase = h.phase;
      planned = refl;
      holds = one;
    } in
    let mine = own_session st1 last k r1 h1.within h1.at one in
    let order = (make_at st1 last k r1 make1 h1).3.bears.order in
    let s' : Session = record r { phase = phase; plan = plan.Nothing } in
    subst (λ ss. Holds (record { es = st.es ++ told_done r.txn place ∷ []; ls = st.ls; lock = st.lock; ss = ss; view = v'; named = st.named }) last) (set_twice st.ss k r1 s')
    (answers st1 last k r1 s' Done [] place place h1.within h1.at h1.phase
    (subst (λ o. Follows phase (after_answered o r.automatic (w.txns (txn_of r)).first)) (sym order) follows)
    (sym mine.level ∙ ap (λ o. (set_conn o (w.conns (k + 1))).level) (sym order)) (sym mine.automatic ∙ ap (λ o. (set_conn o (w.conns (k + 1))).automatic) (sym order))
    refl refl refl refl refl refl refl refl
    (done_meets st1 last k place r1 make1 h1 here listed) (done_passes st1 last k r1 make1 h1) (λ owed. done_rests st1 last k r1 make1 h1) one)

-- The whole engine after one entry of one connection, or after a step with no entry.
use Rattle.std.proofs.Common.{◌≡◌, ◌≢◌, ℕ, zero, suc, ◌+◌, ◌<◌, ◌≤◌, List, [], ◌∷◌, ◌++◌, length, map, set, get_or, true, refl, sym, ◌∙◌, ap, subst, arith, inl, inr, Option, Some, None}
use Rattle.std.specs.Prelude.{◌⊎◌, All}
use Rattle.std.proofs.lemmas.List.{get_or-set_same, get_or-set_other}
use Rattle.std.proofs.Math.ListN.{length-set}
use Rattle.std.proofs.lemmas.Bool.{cases_eq}
use Rattle.dby_types.specs.declared.number.RowId.{RowId}
use Rattle.dby_types.specs.declared.number.TxnNo.{TxnNo}
use Rattle.lock_modes.specs.declared.entry.Request.{Request}
use Rattle.lock_modes.specs.declared.mode.Mode.{Mode}
use Rattle.lock_modes.specs.declared.name.LockName.{LockName}
use Rattle.lock_modes.specs.declared.name.LockName.TheVariants.{Dictionary, Table, Row, First}
use Rattle.lock_modes.specs.Lock.{Lock, queue}
use Rattle.table_model.specs.Tables.{Tables, Each, no_tables}
use Rattle.table_model.proofs.TablesLemmas.{each_map}
use Rattle.store_api.specs.View.{View, Content, live}
use Rattle.sql_forms.specs.declared.form.Form.TheVariants.{CreateTable, Insert, Select}
use Rattle.journal_model.specs.declared.journal.Entry.{Entry}
use Rattle.session_model.specs.declared.order.Order.{Order}
use Rattle.session_model.specs.declared.order.Order.TheVariants as ordered
use Rattle.session_model.specs.Orders.{order_of}
use Rattle.session_model.specs.World.{World, Txn, no_txn, opening, apply, seen}
use Rattle.session_model.specs.Legal.{IsLegal, EntryHolds, AnswersHold, IsOwed, PinHolds, IsPurpose, IsTarget}
use Rattle.session_model.specs.Places.{Locks, Shared, Others, PinRests, ReadsCatalog, locks_of}
use Rattle.session_model.proofs.BaseLemmas.{replay_push}
use Rattle.session_model.proofs.FitLemmas.{SameCatalog, defines_same}
use Rattle.session_model.proofs.GrowingLemmas.{legal_entry}
use Rattle.session_engine.specs.declared.session.Session.{Session}
use Rattle.session_engine.specs.Dictionary.{Named, Among}
use Rattle.session_engine.specs.Listed.{Cataloged}
use Rattle.session_engine.specs.State.{State, Holds, SessionHolds, Busy, LockKept, Waits, scripts_of, world_of, txn_of}
use Rattle.session_engine.proofs.StableLemmas.{session_kept, catalog_kept}

-- NUMBERS OF TRANSACTIONS that the connections have
pub among_set : (ss : List Session) (k : ℕ) (s' d : Session) (t : ℕ) → t ≢ txn_of (get_or ss k d) → Among t (map txn_of ss) → Among t (map txn_of (set ss k s'))
among_set [] k s' d t ne h = h
among_set (s ∷ ss) zero s' d t ne h = elim h [ inl same ↦ absurd (ne same) | inr later ↦ inr later ]
among_set (s ∷ ss) (suc k) s' d t ne h = elim h [ inl same ↦ inl same | inr later ↦ inr (among_set ss k s' d t ne later) ]

pub among_at : (ss : List Session) (k : ℕ) (s' : Session) → k < length ss → Among (txn_of s') (map txn_of (set ss k s'))
among_at [] k s' lt = absurd (omega arith)
among_at (s ∷ ss) zero s' lt = inl refl
among_at (s ∷ ss) (suc k) s' lt = inr (among_at ss k s' (omega arith))

pub scripts_same : (ss : List Session) (k : ℕ) (s' d : Session) → s'.script ≡ (get_or ss k d).script → scripts_of (set ss k s') ≡ scripts_of ss
scripts_same [] k s' d e = refl
scripts_same (s ∷ ss) zero s' d e = ap (λ x. x ∷ scripts_of ss) e
scripts_same (s ∷ ss) (suc k) s' d e = ap (λ xs. s.script ∷ xs) (scripts_same ss k s' d e)

-- WHAT THE STORE DOES in a step of transaction a, by actor c
pub record StoreMoves (l : Locks) (a c : ℕ) (v v' : View) : Type 0 where
  pub txns : (t : ℕ) → t ≢ a → v'.content.changes t ≡ v.content.changes t
  pub actors : (b : ℕ) → b ≢ c → v'.actors b ≡ v.actors b
  pub limit_same : v'.limit ≡ v.limit
  pub heaps : (t : ℕ) → t ≢ a → ReadsCatalog l t → (table : ℕ) (rid : RowId) → l.reads t table rid ≡ true → v'.content.heaps table rid ≡ v.content.heaps table rid
  pub columns : (t : ℕ) → t ≢ a → ReadsCatalog l t → (table : ℕ) → v'.content.columns table ≡ v.content.columns table
  pub next : v.content.next_container ≤ v'.content.next_container

-- it only holds other pages
pub store_holds : (l : Locks) (a c : ℕ) (v v' : View) → v'.content ≡ v.content → ((b : ℕ) → b ≢ c → v'.actors b ≡ v.actors b) → v'.limit ≡ v.limit → StoreMoves l a c v v'
store_holds l a c v v' same actors limit = record {
  txns = λ t ne. ap (λ (d : Content). d.changes t) same;
  actors = actors;
  limit_same = limit;
  heaps = λ t ne r table rid x. ap (λ (d : Content). d.heaps table rid) same;
  columns = λ t ne r table. ap (λ (d : Content). d.columns table) same;
  next = (let e = ap (λ (d : Content). d.next_container) same in omega (arith, e));
}

pub lock_same : (t : TxnNo) (l : Lock) → LockKept t l l
lock_same t l = record { none = λ h. h; some = λ n m h. inl h; has = λ n m h. h }

-- the purpose of a lock stays, for who relies on the catalog
target_same : (f g : Tables) → SameCatalog f g → (name : List ℕ) (n : ℕ) → IsTarget f name n → IsTarget g name n
target_same f g e name n h = (record { def = h.0.def; defined = defines_same f g e h.0.def h.0.defined; named = h.0.named }, h.1)

table_purpose : (order : Option Order) (f g : Tables) → SameCatalog f g → (n : ℕ) (m : Mode) → IsPurpose order f (Table n) m → IsPurpose order g (Table n) m
table_purpose None f g e n m h = h
table_purpose (Some (ordered.Command c)) f g e n m h = h
table_purpose (Some (ordered.Form (CreateTable name columns))) f g e n m h = h
table_purpose (Some (ordered.Form (Insert name tuples))) f g e n m h = (h.0, target_same f g e name n h.1)
table_purpose (Some (ordered.Form (Select name))) f g e n m h = (h.0, target_same f g e name n h.1)

purpose_same : (order : Option Order) (f g : Tables) (name : LockName) (m : Mode) → ((name ≡ Dictionary) ⊎ SameCatalog f g) → IsPurpose order f name m → IsPurpose order g name m
purpose_same order f g Dictionary m e h = h
purpose_same order f g (Table n) m e h = elim e [ inl none ↦ (let x : Table n ≡ Dictionary = none in cc) | inr same ↦ table_purpose order f g same n m h ]
purpose_same None f g (Row n r) m e h = h
purpose_same (Some (ordered.Command c)) f g (Row n r) m e h = h
purpose_same (Some (ordered.Form (CreateTable name columns))) f g (Row n r) m e h = h
purpose_same (Some (ordered.Form (Insert name tuples))) f g (Row n r) m e h = h
purpose_same (Some (ordered.Form (Select name))) f g (Row n r) m e h = h
purpose_same None f g (First n i) m e h = h
purpose_same (Some (ordered.Command c)) f g (First n i) m e h = h
purpose_same (Some (ordered.Form (CreateTable name columns))) f g (First n i) m e h = h
purpose_same (Some (ordered.Form (Insert name tuples))) f g (First n i) m e h = h
purpose_same (Some (ordered.Form (Select name))) f g (First n i) m e h = h

-- where nothing moves
pub same_others : (w : World) (l : Lock) (t : ℕ) → Others t w (locks_of l.grants) w (locks_of l.grants)
same_others w l t = record { txn = refl; reads = λ table rid h. h; writes = λ table rid h. h; committed = λ table rid h. refl; current = λ table rid h. refl; whole = λ h table rid. (refl, refl); given = λ h. refl }

-- a request of another stays due
pub waits_kept : (w : World) (l : Lock) (w' : World) (l' : Lock) (r : Request) → Others r.txn.0 w (locks_of l.grants) w' (locks_of l'.grants) → Waits w l r → Waits w' l' r
waits_kept w l w' l' r o h = record {
  wants = record {
    runs = ap (λ (x : Txn). x.stage) o.txn ∙ h.wants.runs;
    purpose = subst (λ (x : Txn). IsPurpose (order_of x.text) (seen w' r.txn.0) r.name r.mode) (sym o.txn)
        (purpose_same (order_of (w.txns r.txn.0).text) (seen w r.txn.0) (seen w' r.txn.0) r.name r.mode
        (elim h.rooted [ inl dictionary ↦ inl dictionary | inr catalog ↦ inr (catalog_kept r.txn.0 w l w' l' o catalog) ]) h.wants.purpose);
  };
  rooted = elim h.rooted [ inl dictionary ↦ inl dictionary | inr catalog ↦ inr (λ table rid c. o.reads table rid (catalog table rid c)) ];
}

pub pins_hold : (w : World) (l : Locks) → Shared w l → IsOwed w
pins_hold w l s = record {
  pins = each_map (PinRests w l) (PinHolds w) (λ p k alive owed. let r = k alive owed in (r.number, r.meant)) w.pins s.pins;
  commits = s.commits;
}

-- WHAT A STEP OWES: of transaction a, by the connection at place k, whose session becomes s', with the dictionary behind it
pub record Stepping (st : State) (last : ℕ) (w' : World) (a k : ℕ) (s' : Session) (v' : View) (last' : ℕ) (named' : List Named) : Type 0 where
  pub within : k < length st.ss
  pub positive : 1 ≤ a
  pub others : (t : ℕ) → t ≢ a → Others t (world_of st.es) (locks_of st.lock.grants) w' (locks_of st.lock.grants)
  pub store : StoreMoves (locks_of st.lock.grants) a (k + 1) st.view v'
  pub conns : (i : ℕ) → i ≢ k + 1 → w'.conns i ≡ (world_of st.es).conns i
  pub apart : (i : ℕ) (s : Session) → i ≢ k + 1 → Busy (world_of st.es) st.lock st.view last i s → txn_of s ≢ a
  pub free : All (λ (r : Request). r.txn.0 ≢ a) (queue st.lock)
  pub own : SessionHolds w' st.lock v' last' (k + 1) s'
  pub was : (d : Session) → (txn_of (get_or st.ss k d) ≡ a) ⊎ (txn_of (get_or st.ss k d) ≡ 0)
  pub has : (txn_of s' ≡ a) ⊎ (v'.content.changes a ≡ None)
  pub script : (d : Session) → s'.script ≡ (get_or st.ss k d).script
  pub more : (world_of st.es).count ≤ w'.count
  pub last_is : w'.last ≡ last'
  pub grows : last ≤ last'
  pub below : a ≤ last'
  pub given : Each (λ n. n < v'.content.next_container) w'.given
  pub stored : (table : ℕ) (rid : RowId) → live (v'.content.heaps table rid) ≡ w'.current table rid
  pub cataloged : Cataloged v' w' named'

-- the parts that are the same whether there is an entry or not
each_after : (st : State) (last : ℕ) (w' : World) (a k : ℕ) (s' : Session) (v' : View) (last' : ℕ) (named' : List Named) → Stepping st last w' a k s' v' last' named' → Holds st last
    → (i : ℕ) (d : Session) → i < length (set st.ss k s') → SessionHolds w' st.lock v' last' (i + 1) (get_or (set st.ss k s') i d)
each_after st last w' a k s' v' last' named' h ok i d i_lt = elim (cases_eq i k) [
  | inl same ↦ subst (λ j. SessionHolds w' st.lock v' last' (j + 1) (get_or (set st.ss k s') j d)) (sym same) (subst (SessionHolds w' st.lock v' last' (k + 1)) (sym (get_or-set_same st.ss k s' d h.within)) h.own)
  | inr ne ↦
      let s = get_or st.ss i d in
      let in_ss : i < length st.ss = subst (λ n. i < n) (length-set st.ss k s') i_lt in
      let other : i + 1 ≢ k + 1 = λ e. ne (omega (arith, e)) in
      subst (SessionHolds w' st.lock v' last' (i + 1)) (sym (get_or-set_other st.ss k i s' d ne))
      (session_kept (world_of st.es) st.lock st.view w' st.lock v' last last' (i + 1) s ok.shared (h.conns (i + 1) other) (λ b. record {
        others = h.others (txn_of s) (h.apart (i + 1) s other b);
        locks = lock_same s.txn st.lock;
        changes = h.store.txns (txn_of s) (h.apart (i + 1) s other b);
        actor = h.store.actors (i + 1) other;
        heaps = h.store.heaps (txn_of s) (h.apart (i + 1) s other b);
        columns = h.store.columns (txn_of s) (h.apart (i + 1) s other b);
        next = h.store.next;
      }) h.grows h.more (ok.each i d in_ss))
]

known_after : (st : State) (last : ℕ) (w' : World) (a k : ℕ) (s' : Session) (v' : View) (last' : ℕ) (named' : List Named) → Stepping st last w' a k s' v' last' named' → Holds st last
    → (t : ℕ) → v'.content.changes t ≢ None → Among t (map txn_of (set st.ss k s'))
known_after st last w' a k s' v' last' named' h ok t open_there = elim (cases_eq t a) [
  | inl same ↦ elim h.has [
    | inl mine ↦ subst (λ x. Among x (map txn_of (set st.ss k s'))) (mine ∙ sym same) (among_at st.ss k s' h.within)
    | inr none ↦ absurd (open_there (ap v'.content.changes same ∙ none))
  ]
  | inr ne ↦
      let before : st.view.content.changes t ≢ None = λ e. open_there (h.store.txns t ne ∙ e) in
      among_set st.ss k s' s' t (λ e. elim (h.was s') [
        | inl mine ↦ ne (e ∙ mine)
        | inr none ↦ before (ap st.view.content.changes (e ∙ none) ∙ ok.zero)
      ]) (ok.known t before)
]

holders_after : (st : State) (last : ℕ) (w' : World) (a k : ℕ) (s' : Session) (v' : View) (last' : ℕ) (named' : List Named) → Stepping st last w' a k s' v' last' named' → Holds st last
    → (b : ℕ) → (v'.actors b).pages ≢ 0 → (1 ≤ b) × (b ≤ length (set st.ss k s'))
holders_after st last w' a k s' v' last' named' h ok b holds =
    let same_length = length-set st.ss k s' in
    let within : k < length st.ss = h.within in
    elim (cases_eq b (k + 1)) [
      | inl same ↦ (omega arith, omega (arith, same_length, within, same))
      | inr ne ↦ (let p = ok.holders b (λ e. holds (ap (λ x. x.pages) (h.store.actors b ne) ∙ e)) in (p.0, omega (arith, same_length, p.1)))
    ]

fresh_after : (st : State) (last : ℕ) (w' : World) (a k : ℕ) (s' : Session) (v' : View) (last' : ℕ) (named' : List Named) → Stepping st last w' a k s' v' last' named' → Holds st last
    → (t : ℕ) → last' < t → w'.txns t ≡ no_txn
fresh_after st last w' a k s' v' last' named' h ok t above =
    let below : a ≤ last' = h.below in
    let grows : last ≤ last' = h.grows in
    (h.others t (λ same. omega (arith, above, below, same))).txn ∙ ok.fresh t (omega (arith, above, grows))

waits_after : (st : State) (last : ℕ) (w' : World) (a k : ℕ) (s' : Session) (v' : View) (last' : ℕ) (named' : List Named) → Stepping st last w' a k s' v' last' named' → Holds st last
    → All (Waits w' st.lock) (queue st.lock)
waits_after st last w' a k s' v' last' named' h ok = λ i d lt.
    waits_kept (world_of st.es) st.lock w' st.lock (get_or (queue st.lock) i d) (h.others (get_or (queue st.lock) i d).txn.0 (h.free i d lt)) (ok.waits i d lt)

-- ONE ENTRY
pub entered_with : (st : State) (last : ℕ) (e : Entry) (a k : ℕ) (s' : Session) (v' : View) (last' : ℕ) (named' : List Named)
    → EntryHolds (scripts_of st.ss) (world_of st.es) e → AnswersHold no_tables st.es e → Shared (apply (world_of st.es) e) (locks_of st.lock.grants)
    → Stepping st last (apply (world_of st.es) e) a k s' v' last' named' → Holds st last
    → Holds (record { es = st.es ++ e ∷ []; ls = st.ls; lock = st.lock; ss = set st.ss k s'; view = v'; named = named' }) last'
entered_with st last e a k s' v' last' named' entry span shared h ok =
    let w' = apply (world_of st.es) e in
    let at : w' ≡ world_of (st.es ++ e ∷ []) = sym (replay_push (opening no_tables) st.es e) in
    let scripts : scripts_of (set st.ss k s') ≡ scripts_of st.ss = scripts_same st.ss k s' s' (h.script s') in
    record {
      legal = subst (λ x. IsLegal no_tables x (st.es ++ e ∷ []) st.ls) (sym scripts)
          (legal_entry no_tables (scripts_of st.ss) st.es st.ls e ok.legal entry span (pins_hold w' (locks_of st.lock.grants) shared));
      shared = subst (λ v. Shared v (locks_of st.lock.grants)) at shared;
      apart = ok.apart;
      fold = ok.fold;
      alone = ok.alone;
      waits = subst (λ v. All (Waits v st.lock) (queue st.lock)) at (waits_after st last w' a k s' v' last' named' h ok);
      each = subst (λ v. (i : ℕ) (d : Session) → i < length (set st.ss k s') → SessionHolds v st.lock v' last' (i + 1) (get_or (set st.ss k s') i d)) at (each_after st last w' a k s' v' last' named' h ok);
      last_is = ap (λ v. v.last) (sym at) ∙ h.last_is;
      fresh = λ t above. ap (λ v. v.txns t) (sym at) ∙ fresh_after st last w' a k s' v' last' named' h ok t above;
      given = subst (λ v. Each (λ n. n < v'.content.next_container) v.given) at h.given;
      stored = λ table rid. h.stored table rid ∙ ap (λ v. v.current table rid) at;
      zero = h.store.txns 0 (λ z. let p : 1 ≤ a = h.positive in omega (arith, z, p)) ∙ ok.zero;
      known = known_after st last w' a k s' v' last' named' h ok;
      holders = holders_after st last w' a k s' v' last' named' h ok;
      few = (let same = length-set st.ss k s' in let few = ok.few in let lim = h.store.limit_same in omega (arith, same, few, lim));
      cataloged = subst (λ v. Cataloged v' v named') at h.cataloged;
    }

-- .. that leaves the dictionary as it is
pub entered : (st : State) (last : ℕ) (e : Entry) (a k : ℕ) (s' : Session) (v' : View) (last' : ℕ)
    → EntryHolds (scripts_of st.ss) (world_of st.es) e → AnswersHold no_tables st.es e → Shared (apply (world_of st.es) e) (locks_of st.lock.grants)
    → Stepping st last (apply (world_of st.es) e) a k s' v' last' st.named → Holds st last
    → Holds (record { es = st.es ++ e ∷ []; ls = st.ls; lock = st.lock; ss = set st.ss k s'; view = v'; named = st.named }) last'
entered st last e a k s' v' last' = entered_with st last e a k s' v' last' st.named

-- NO ENTRY
pub moved : (st : State) (last : ℕ) (a k : ℕ) (s' : Session) (v' : View)
    → Stepping st last (world_of st.es) a k s' v' last st.named → Holds st last
    → Holds (record { es = st.es; ls = st.ls; lock = st.lock; ss = set st.ss k s'; view = v'; named = st.named }) last
moved st last a k s' v' h ok =
    let w' = world_of st.es in
    let scripts : scripts_of (set st.ss k s') ≡ scripts_of st.ss = scripts_same st.ss k s' s' (h.script s') in
    record {
      legal = subst (λ x. IsLegal no_tables x st.es st.ls) (sym scripts) ok.legal;
      shared = ok.shared;
      apart = ok.apart;
      fold = ok.fold;
      alone = ok.alone;
      waits = ok.waits;
      each = each_after st last w' a k s' v' last st.named h ok;
      last_is = ok.last_is;
      fresh = ok.fresh;
      given = h.given;
      stored = h.stored;
      zero = h.store.txns 0 (λ z. let p : 1 ≤ a = h.positive in omega (arith, z, p)) ∙ ok.zero;
      known = known_after st last w' a k s' v' last st.named h ok;
      holders = holders_after st last w' a k s' v' last st.named h ok;
      few = (let same = length-set st.ss k s' in let few = ok.few in let lim = h.store.limit_same in omega (arith, same, few, lim));
      cataloged = h.cataloged;
    }

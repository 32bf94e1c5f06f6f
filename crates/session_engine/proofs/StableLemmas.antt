-- A connection's own part is stable under the steps of the others: once for all phases.
use Rattle.std.proofs.Common.{◌≡◌, ◌≢◌, ℕ, ◌<◌, ◌≤◌, List, [], ◌∷◌, ◌++◌, length, true, sym, ◌∙◌, ap, subst, arith, inl, inr, Option, Some, None}
use Rattle.std.specs.Prelude.{map}
use Rattle.std.proofs.lemmas.Bool.{or_right}
use Rattle.dby_types.specs.declared.definition.ColumnDef.{ColumnDef}
use Rattle.dby_types.specs.declared.definition.TableDef.{TableDef}
use Rattle.dby_types.specs.declared.number.RowId.{RowId}
use Rattle.dby_types.specs.declared.number.TxnNo.{TxnNo}
use Rattle.lock_modes.specs.declared.mode.Mode.{Mode}
use Rattle.lock_modes.specs.declared.mode.Mode.TheVariants.{TS, TX}
use Rattle.lock_modes.specs.declared.name.LockName.{LockName}
use Rattle.lock_modes.specs.declared.name.LockName.TheVariants.{Dictionary, Table}
use Rattle.lock_modes.specs.Lock.{Lock}
use Rattle.table_model.specs.Tables.{Tables, Made, Each, laid_over, rest_of}
use Rattle.store_api.specs.declared.slot.Item.{Item}
use Rattle.store_api.specs.declared.slot.Item.TheVariants.{Changed, Created, Discarded}
use Rattle.store_api.specs.Order.{StandsBehind, IsFirstBehind}
use Rattle.store_api.specs.View.{View, Heaps, changes_in}
use Rattle.journal_model.specs.declared.journal.Refusal.{Refusal}
use Rattle.sql_commands.specs.declared.command.Command.{Command}
use Rattle.journal_model.specs.Meaning.{is_long}
use Rattle.session_model.specs.Orders.{order_of}
use Rattle.session_model.specs.World.{World, Txn, Conn, seen}
use Rattle.session_model.specs.Legal.{HasEvidence, dictionary_mode}
use Rattle.session_model.specs.Places.{Shared, Others, ReadsCatalog, WritesCatalog, locks_of, is_catalog}
use Rattle.session_model.proofs.PlaceLemmas.{laid_over_same}
use Rattle.session_model.proofs.FitLemmas.{evidence_same, defines_same, other_way}
use Rattle.session_engine.specs.declared.session.Phase.{Phase}
use Rattle.session_engine.specs.declared.session.Phase.TheVariants.{Idle, Resting, Asking, Preparing, Claiming, Working, Refusing, Committing, Forcing, Acknowledging, Leaving}
use Rattle.session_engine.specs.declared.session.Plan.{Plan}
use Rattle.session_engine.specs.declared.session.Plan.TheVariants as plan
use Rattle.session_engine.specs.declared.session.Scan.{Scan}
use Rattle.session_engine.specs.declared.session.Where.{Where}
use Rattle.session_engine.specs.declared.session.Where.TheVariants.{Lost, At, Ended}
use Rattle.session_engine.specs.Scanning.{IsWhere}
use Rattle.session_engine.specs.declared.session.Fill.{Fill}
use Rattle.session_engine.specs.declared.session.Make.{Make}
use Rattle.session_engine.specs.declared.session.Session.{Session}
use Rattle.session_engine.proofs.ScanLemmas.{scanned_same}
use Rattle.session_engine.specs.State.{IsStage, Reflects, Stands, HaveSlots, AreNew, MakesAlone, Busy, IsPromised, Runs, Asks, Prepares, Commands, Selects, Scans, Inserts, Fills, Bears, HasFirst, IsFounded, Makes, Waiting, Mirrors, Claims, IsShown, Refuses, Works, RefusesFor, PhaseHolds, SessionHolds, LockKept, Beside, txn_of}

each_both : {X : Type 0} → (P R Q : X → Type 0) → ((x : X) → P x → R x → Q x) → (xs : List X) → Each P xs → Each R xs → Each Q xs
each_both P R Q f [] h k = tt
each_both P R Q f (x ∷ xs) h k = (f x h.0 k.0, each_both P R Q f xs h.1 k.1)

reads_kept : (t : ℕ) (w : World) (l : Lock) (w' : World) (l' : Lock) → Others t w (locks_of l.grants) w' (locks_of l'.grants) → ReadsCatalog (locks_of l.grants) t → ReadsCatalog (locks_of l'.grants) t
reads_kept t w l w' l' o h = λ table rid c. o.reads table rid (h table rid c)

writes_kept : (t : ℕ) (w : World) (l : Lock) (w' : World) (l' : Lock) → Others t w (locks_of l.grants) w' (locks_of l'.grants) → WritesCatalog (locks_of l.grants) t → WritesCatalog (locks_of l'.grants) t
writes_kept t w l w' l' o h = λ table rid c. o.writes table rid (h table rid c)

-- who has the catalog alone relies on it
pub writer_reads : (t : ℕ) (l : Lock) → WritesCatalog (locks_of l.grants) t → ReadsCatalog (locks_of l.grants) t
writer_reads t l h = λ table rid c. or_right _ _ (h table rid c)

-- what a statement sees of the catalog stays, for who relies on it
pub catalog_kept : (t : ℕ) (w : World) (l : Lock) (w' : World) (l' : Lock) → Others t w (locks_of l.grants) w' (locks_of l'.grants) → ReadsCatalog (locks_of l.grants) t
    → (table : ℕ) (rid : RowId) → is_catalog table ≡ true → seen w t table rid ≡ seen w' t table rid
catalog_kept t w l w' l' o h table rid c =
    laid_over_same (w.txns t).begun w.committed w'.committed table rid (sym (o.committed table rid (h table rid c))) ∙ ap (λ (x : Txn). laid_over x.begun w'.committed table rid) (sym o.txn)

runs_kept : (w w' : World) (s : Session) → w'.txns (txn_of s) ≡ w.txns (txn_of s) → w.count ≤ w'.count → Runs w s → Runs w' s
runs_kept w w' s e more h = record {
  first = ap (λ (x : Txn). x.first) e ∙ h.first;
  since = (let lt : (w.txns (txn_of s)).started < w.count = h.since in let same : (w'.txns (txn_of s)).started ≡ (w.txns (txn_of s)).started = ap (λ (x : Txn). x.started) e in omega arith);
  short = ap (λ (x : Txn). is_long x.text) e ∙ h.short;
}

promised_kept : (l l' : Lock) (s : Session) (n : LockName) (m : Mode) → LockKept s.txn l l' → IsPromised l s n m → IsPromised l' s n m
promised_kept l l' s n m k h = elim h [ inl waits ↦ k.some n m waits | inr has ↦ inr (k.has n m has) ]

asks_kept : (w : World) (l : Lock) (v : View) (w' : World) (l' : Lock) (v' : View) (c : ℕ) (s : Session) → Beside s.txn c w l v w' l' v' → w.count ≤ w'.count → Asks w l v s → Asks w' l' v' s
asks_kept w l v w' l' v' c s b more h = let e = b.others.txn in record {
  runs = runs_kept w w' s e more h.runs;
  marked = ap (λ i. length (changes_in i)) b.changes ∙ h.marked;
  unchanged = subst (λ (x : Txn). x.changes ≡ x.begun) (sym e) h.unchanged;
  order = h.order ∙ ap (λ (x : Txn). order_of x.text) (sym e);
  promised = λ q. promised_kept l l' s Dictionary (dictionary_mode s.order) b.locks (h.promised q);
}

prepares_kept : (w : World) (l : Lock) (v : View) (w' : World) (l' : Lock) (v' : View) (c : ℕ) (s : Session) → Beside s.txn c w l v w' l' v' → w.count ≤ w'.count → Prepares w l v s → Prepares w' l' v' s
prepares_kept w l v w' l' v' c s b more h = let e = b.others.txn in record {
  runs = runs_kept w w' s e more h.runs;
  marked = ap (λ i. length (changes_in i)) b.changes ∙ h.marked;
  unchanged = subst (λ (x : Txn). x.changes ≡ x.begun) (sym e) h.unchanged;
  order = h.order ∙ ap (λ (x : Txn). order_of x.text) (sym e);
  catalog = reads_kept (txn_of s) w l w' l' b.others h.catalog;
  alone = λ c. writes_kept (txn_of s) w l w' l' b.others (h.alone c);
}

commands_kept : (w : World) (l : Lock) (v : View) (w' : World) (l' : Lock) (v' : View) (c : ℕ) (s : Session) (d : Command) → Beside s.txn c w l v w' l' v' → w.count ≤ w'.count → Commands w l v s d → Commands w' l' v' s d
commands_kept w l v w' l' v' c s d b more h = let e = b.others.txn in record {
  runs = runs_kept w w' s e more h.runs;
  marked = ap (λ i. length (changes_in i)) b.changes ∙ h.marked;
  unchanged = subst (λ (x : Txn). x.changes ≡ x.begun) (sym e) h.unchanged;
  order = ap (λ (x : Txn). order_of x.text) e ∙ h.order;
  built = h.built;
  catalog = reads_kept (txn_of s) w l w' l' b.others h.catalog;
}

shown_kept : (w : World) (l : Lock) (w' : World) (l' : Lock) (s : Session) (why : Refusal) → Others (txn_of s) w (locks_of l.grants) w' (locks_of l'.grants) → IsShown w l s why → IsShown w' l' s why
shown_kept w l w' l' s why o h = elim h [
  | inl free ↦ inl ((λ tables. subst (λ (x : Txn). HasEvidence x.text tables why) (sym o.txn) (free.0 tables)), free.1)
  | inr rests ↦ inr (
    reads_kept (txn_of s) w l w' l' o rests.0,
    subst (λ (x : Txn). HasEvidence x.text (seen w' (txn_of s)) why) (sym o.txn)
        (evidence_same (w.txns (txn_of s)).text (seen w (txn_of s)) (seen w' (txn_of s)) (catalog_kept (txn_of s) w l w' l' o rests.0) why rests.1),
  )
]

refuses_kept : (w : World) (l : Lock) (v : View) (w' : World) (l' : Lock) (v' : View) (c : ℕ) (s : Session) (why : Refusal) → Beside s.txn c w l v w' l' v' → Refuses w l v s why → Refuses w' l' v' s why
refuses_kept w l v w' l' v' c s why b h = record {
  first = ap (λ (x : Txn). x.first) b.others.txn ∙ h.first;
  shown = shown_kept w l w' l' s why b.others h.shown;
  stands = subst (λ (x : Txn). Stands s.mark (changes_in (v'.content.changes (txn_of s))) x) (sym b.others.txn) (subst (λ i. Stands s.mark (changes_in i) (w.txns (txn_of s))) (sym b.changes) h.stands);
}

selects_kept : (w : World) (l : Lock) (v : View) (w' : World) (l' : Lock) (v' : View) (c : ℕ) (s : Session) (scan : Scan) → Beside s.txn c w l v w' l' v' → w.count ≤ w'.count → Selects w l v s scan → Selects w' l' v' s scan
selects_kept w l v w' l' v' c s scan b more h = let e = b.others.txn in record {
  runs = runs_kept w w' s e more h.runs;
  marked = ap (λ i. length (changes_in i)) b.changes ∙ h.marked;
  unchanged = subst (λ (x : Txn). x.changes ≡ x.begun) (sym e) h.unchanged;
  name = h.name;
  order = ap (λ (x : Txn). order_of x.text) e ∙ h.order;
  catalog = reads_kept (txn_of s) w l w' l' b.others h.catalog;
  target = record {
    def = h.target.def;
    defined = defines_same (seen w (txn_of s)) (seen w' (txn_of s)) (catalog_kept (txn_of s) w l w' l' b.others h.catalog) h.target.def h.target.defined;
    named = h.target.named;
  };
  number = h.number;
  user = h.user;
  names = h.names;
}

-- a place stays where it is, in a heap of which nothing changed
there_kept : (f g : Heaps) (n : ℕ) (after found : Option RowId) → ((r : RowId) → g n r ≡ f n r) → StandsBehind f n after found → StandsBehind g n after found
there_kept f g n after None same s = tt
there_kept f g n after (Some rid) same s = (s.0, same rid ∙ s.1, s.2)

first_kept : (f g : Heaps) (n : ℕ) (after found : Option RowId) → ((r : RowId) → g n r ≡ f n r) → IsFirstBehind f n after found → IsFirstBehind g n after found
first_kept f g n after found same h = record { there = there_kept f g n after found same h.there; first = λ r behind before. same r ∙ h.first r behind before }

where_kept : (f g : Heaps) (n : ℕ) (after : Option RowId) (at : Where) → ((r : RowId) → g n r ≡ f n r) → IsWhere f n after at → IsWhere g n after at
where_kept f g n after Lost same h = h
where_kept f g n after (At rid) same h = first_kept f g n after (Some rid) same h
where_kept f g n after Ended same h = first_kept f g n after None same h

scans_kept : (w : World) (l : Lock) (v : View) (w' : World) (l' : Lock) (v' : View) (c : ℕ) (s : Session) (scan : Scan) → Beside s.txn c w l v w' l' v' → w.count ≤ w'.count → Scans w l v s scan → Scans w' l' v' s scan
scans_kept w l v w' l' v' c s scan b more h = record {
  selects = selects_kept w l v w' l' v' c s scan b more h.selects;
  reads = λ rid. b.others.reads scan.number rid (h.reads rid);
  read = scanned_same (w.current scan.number) (w'.current scan.number) scan.after scan.tuples.items (λ rid. b.others.current scan.number rid (h.reads rid)) h.read;
  rows = h.rows;
  at = where_kept v.content.heaps v'.content.heaps scan.number scan.after scan.at (λ rid. b.heaps h.selects.catalog scan.number rid (h.reads rid)) h.at;
}

inserts_kept : (w : World) (l : Lock) (v : View) (w' : World) (l' : Lock) (v' : View) (c : ℕ) (s : Session) (fill : Fill) → Beside s.txn c w l v w' l' v' → w.count ≤ w'.count → Inserts w l s fill → Inserts w' l' s fill
inserts_kept w l v w' l' v' c s fill b more h = let e = b.others.txn in record {
  runs = runs_kept w w' s e more h.runs;
  name = h.name;
  tuples = h.tuples;
  order = ap (λ (x : Txn). order_of x.text) e ∙ h.order;
  catalog = reads_kept (txn_of s) w l w' l' b.others h.catalog;
  suits = record {
    target = record {
      def = h.suits.target.def;
      defined = defines_same (seen w (txn_of s)) (seen w' (txn_of s)) (catalog_kept (txn_of s) w l w' l' b.others h.catalog) h.suits.target.def h.suits.target.defined;
      named = h.suits.target.named;
    };
    suited = h.suits.suited;
  };
  whole = h.whole;
  fitting = h.fitting;
  number = h.number;
  user = h.user;
  count = h.count;
}

stands_kept : (w w' : World) (v v' : View) (s : Session) → w'.txns (txn_of s) ≡ w.txns (txn_of s) → v'.content.changes (txn_of s) ≡ v.content.changes (txn_of s)
    → Stands s.mark (changes_in (v.content.changes (txn_of s))) (w.txns (txn_of s)) → Stands s.mark (changes_in (v'.content.changes (txn_of s))) (w'.txns (txn_of s))
stands_kept w w' v v' s e f h = record {
  own_items = h.own_items;
  base = h.base;
  own = h.own;
  items_are = ap changes_in f ∙ h.items_are;
  length_is = h.length_is;
  changes_are = subst (λ (x : Txn). x.changes ≡ h.own ++ x.begun) (sym e) h.changes_are;
  mirrors_own = h.mirrors_own;
  mirrors_base = subst (λ (x : Txn). Mirrors h.base x.begun) (sym e) h.mirrors_base;
}

fills_kept : (w : World) (l : Lock) (v : View) (w' : World) (l' : Lock) (v' : View) (c : ℕ) (s : Session) (fill : Fill) → Beside s.txn c w l v w' l' v' → w.count ≤ w'.count → Fills w l v c s fill → Fills w' l' v' c s fill
unfolding inserts_kept stands_kept
fills_kept w l v w' l' v' c s fill b more h = record {
  inserts = inserts_kept w l v w' l' v' c s fill b more h.inserts;
  writes = λ rid. b.others.writes fill.number rid (h.writes rid);
  stands = stands_kept w w' v v' s b.others.txn b.changes h.stands;
  users = h.users;
  done = h.done;
  rest = h.rest;
  puts = h.puts;
  room = λ on. ap (λ x. x.room) b.actor ∙ h.room on;
}

waiting_kept : (w : World) (l : Lock) (v : View) (w' : World) (l' : Lock) (v' : View) (c : ℕ) (s : Session) (fill : Fill) → Beside s.txn c w l v w' l' v' → w.count ≤ w'.count → Waiting w l v s fill → Waiting w' l' v' s fill
unfolding inserts_kept
waiting_kept w l v w' l' v' c s fill b more h = record {
  inserts = inserts_kept w l v w' l' v' c s fill b more h.inserts;
  marked = ap (λ i. length (changes_in i)) b.changes ∙ h.marked;
  unchanged = subst (λ (x : Txn). x.changes ≡ x.begun) (sym b.others.txn) h.unchanged;
  all = h.all;
  no_room = h.no_room;
}

bears_kept : (w : World) (l : Lock) (v : View) (w' : World) (l' : Lock) (v' : View) (c : ℕ) (s : Session) (make : Make) → Beside s.txn c w l v w' l' v' → w.count ≤ w'.count → Bears w l s make → Bears w' l' s make
bears_kept w l v w' l' v' c s make b more h = let e = b.others.txn in record {
  runs = runs_kept w w' s e more h.runs;
  order = ap (λ (x : Txn). order_of x.text) e ∙ h.order;
  alone = writes_kept (txn_of s) w l w' l' b.others h.alone;
  fresh = λ d defined. h.fresh d (defines_same (seen w' (txn_of s)) (seen w (txn_of s)) (other_way (seen w (txn_of s)) (seen w' (txn_of s)) (catalog_kept (txn_of s) w l w' l' b.others (writer_reads (txn_of s) l h.alone))) d defined);
  distinct = h.distinct;
  few = h.few;
}

-- the table that it makes is as unknown as it was: nothing changes beside it
first_same : (f g : Tables) (number done : ℕ) (columns : List ColumnDef) → ((rid : RowId) → g 2 rid ≡ f 2 rid) → HasFirst f number done columns → HasFirst g number done columns
first_same f g number done columns same h = record {
  each = λ place c lt at. let x = h.each place c lt at in (x.0, same x.0 ∙ x.1);
  only = λ rid row at is. h.only rid row (sym (same rid) ∙ at) is;
}

founded_kept : (w : World) (l : Lock) (v : View) (w' : World) (l' : Lock) (v' : View) (t : TxnNo) (c : ℕ) (def : TableDef) (done : ℕ) → Beside t c w l v w' l' v' → WritesCatalog (locks_of l.grants) t.0
    → IsFounded w v def done → IsFounded w' v' def done
founded_kept w l v w' l' v' t c def done b alone h =
    let same : (table : ℕ) (rid : RowId) → w'.current table rid ≡ w.current table rid = λ table rid. (b.others.whole alone table rid).1 in
    record {
      described = b.columns (writer_reads t.0 l alone) def.number ∙ h.described;
      made = (let lt = h.made in let next = b.next in omega (arith, lt, next));
      small = h.small;
      user = h.user;
      empty = λ rid. same def.number rid ∙ h.empty rid;
      free = subst (Each (λ n. n ≢ def.number)) (sym (b.others.given alone)) h.free;
      absent = λ d defines. h.absent d (defines_same w'.current w.current (λ table rid k. same table rid) d defines);
      unlisted = λ rid name at. h.unlisted rid name (sym (same 1 rid) ∙ at);
      columns = first_same w.current w'.current def.number done def.columns (λ rid. same 2 rid) h.columns;
    }

makes_kept : (w : World) (l : Lock) (v : View) (w' : World) (l' : Lock) (v' : View) (c : ℕ) (s : Session) (make : Make) → Beside s.txn c w l v w' l' v' → w.count ≤ w'.count → Makes w l v c s make → Makes w' l' v' c s make
unfolding bears_kept stands_kept
makes_kept w l v w' l' v' c s make b more h = record {
  bears = bears_kept w l v w' l' v' c s make b more h.bears;
  stands = stands_kept w w' v v' s b.others.txn b.changes h.stands;
  puts = h.puts;
  within = h.within;
  unmade = h.unmade;
  founded = λ made left. founded_kept w l v w' l' v' s.txn c make.def make.done b h.bears.alone (h.founded made left);
  room = λ on. ap (λ x. x.room) b.actor ∙ h.room on;
}

claims_kept : (p : Plan) (w : World) (l : Lock) (v : View) (w' : World) (l' : Lock) (v' : View) (c : ℕ) (s : Session) → Beside s.txn c w l v w' l' v' → w.count ≤ w'.count → Claims w l v s p → Claims w' l' v' s p
claims_kept plan.Nothing w l v w' l' v' c s b more h = h
claims_kept (plan.Command d) w l v w' l' v' c s b more h = h
claims_kept (plan.Select scan) w l v w' l' v' c s b more h = (selects_kept w l v w' l' v' c s scan b more h.0, h.1, λ q. promised_kept l l' s (Table scan.number) TS b.locks (h.2 q))
claims_kept (plan.Insert fill) w l v w' l' v' c s b more h = (waiting_kept w l v w' l' v' c s fill b more h.0, λ q. promised_kept l l' s (Table fill.number) TX b.locks (h.1 q))
claims_kept (plan.Create make) w l v w' l' v' c s b more h = h
claims_kept (plan.Refuse why) w l v w' l' v' c s b more h = h

works_kept : (p : Plan) (w : World) (l : Lock) (v : View) (w' : World) (l' : Lock) (v' : View) (c : ℕ) (s : Session) → Beside s.txn c w l v w' l' v' → w.count ≤ w'.count → Works w l v c s p → Works w' l' v' c s p
works_kept plan.Nothing w l v w' l' v' c s b more h = h
works_kept (plan.Command d) w l v w' l' v' c s b more h = commands_kept w l v w' l' v' c s d b more h
works_kept (plan.Select scan) w l v w' l' v' c s b more h = scans_kept w l v w' l' v' c s scan b more h
works_kept (plan.Insert fill) w l v w' l' v' c s b more h = fills_kept w l v w' l' v' c s fill b more h
works_kept (plan.Create make) w l v w' l' v' c s b more h = makes_kept w l v w' l' v' c s make b more h
works_kept (plan.Refuse why) w l v w' l' v' c s b more h = h

refusing_kept : (p : Plan) (w : World) (l : Lock) (v : View) (w' : World) (l' : Lock) (v' : View) (c : ℕ) (s : Session) → Beside s.txn c w l v w' l' v' → RefusesFor w l v s p → RefusesFor w' l' v' s p
refusing_kept plan.Nothing w l v w' l' v' c s b h = h
refusing_kept (plan.Command d) w l v w' l' v' c s b h = h
refusing_kept (plan.Select scan) w l v w' l' v' c s b h = h
refusing_kept (plan.Insert fill) w l v w' l' v' c s b h = h
refusing_kept (plan.Create make) w l v w' l' v' c s b h = h
refusing_kept (plan.Refuse why) w l v w' l' v' c s b h = refuses_kept w l v w' l' v' c s why b h

-- the places that a transaction changed keep their rows, since it relies on them and on the catalog
slots_kept : (w : World) (l : Lock) (v : View) (w' : World) (l' : Lock) (v' : View) (c : ℕ) (s : Session) → Shared w (locks_of l.grants) → Beside s.txn c w l v w' l' v'
    → HaveSlots v (w.txns (txn_of s)).changes → HaveSlots v' (w.txns (txn_of s)).changes
slots_kept w l v w' l' v' c s shared b h = elim (shared.txns (txn_of s)).lawful [
  | inl none ↦ subst (HaveSlots v') (sym none) tt
  | inr catalog ↦ each_both (λ (m : Made). (locks_of l.grants).writes (txn_of s) m.change.table m.change.rid ≡ true) (λ (m : Made). v.content.heaps m.change.table m.change.rid ≢ None) (λ (m : Made). v'.content.heaps m.change.table m.change.rid ≢ None)
      (λ m x there none. there (sym (b.heaps catalog m.change.table m.change.rid (shared.fits.writer_reads (txn_of s) m.change.table m.change.rid x)) ∙ none))
      (w.txns (txn_of s)).changes (shared.txns (txn_of s)).owned h
]

-- the containers that a transaction made are as new as they were: nothing changes beside it
new_same : (f g : Tables) (items : List Item) (ms : List Made) → ((table : ℕ) (rid : RowId) → g table rid ≡ f table rid) → AreNew f items ms → AreNew g items ms
new_same f g [] ms same h = tt
new_same f g (Created c ∷ items) ms same h = (
  record {
    user = h.0.user;
    apart = h.0.apart;
    none = λ rid. laid_over_same ms g f c rid (same c rid) ∙ h.0.none rid;
    unknown = λ d defines. h.0.unknown d (defines_same (laid_over ms g) (laid_over ms f) (λ table rid k. laid_over_same ms g f table rid (same table rid)) d defines);
  },
  new_same f g items ms same h.1,
)
new_same f g (Changed table rid before ∷ items) ms same h = new_same f g items (rest_of ms) same h
new_same f g (Discarded c ∷ items) ms same h = h

alone_kept : (t : ℕ) (w : World) (l : Lock) (w' : World) (l' : Lock) (items : List Item) (ms : List Made) → Others t w (locks_of l.grants) w' (locks_of l'.grants) → MakesAlone w.committed l t items ms → MakesAlone w'.committed l' t items ms
alone_kept t w l w' l' items ms o h = elim h [
  | inl none ↦ inl none
  | inr made ↦ inr (writes_kept t w l w' l' o made.0, new_same w.committed w'.committed items ms (λ table rid. (o.whole made.0 table rid).0) made.1)
]

busy_kept : (w : World) (l : Lock) (v : View) (w' : World) (l' : Lock) (v' : View) (last last' c : ℕ) (s : Session) → Shared w (locks_of l.grants) → w'.conns c ≡ w.conns c → Beside s.txn c w l v w' l' v' → last ≤ last' → Busy w l v last c s → Busy w' l' v' last' c s
busy_kept w l v w' l' v' last last' c s shared k b more h = let e = b.others.txn in record {
  stage = subst (λ (x : Txn). IsStage s.phase x.stage) (sym e) h.stage;
  conn = ap (λ (x : Txn). x.conn) e ∙ h.conn;
  mine = ap (λ (x : Conn). x.txn) k ∙ h.mine;
  positive = h.positive;
  numbered = (let lt : txn_of s ≤ last = h.numbered in omega arith);
  numbers = ap (λ (x : Txn). map (λ m. m.number) x.changes) e ∙ h.numbers;
  reflects = subst (λ (x : Txn). Reflects s.opened (v'.content.changes (txn_of s)) x.changes) (sym e) (subst (λ i. Reflects s.opened i (w.txns (txn_of s)).changes) (sym b.changes) h.reflects);
  slots = subst (λ (x : Txn). HaveSlots v' x.changes) (sym e) (slots_kept w l v w' l' v' c s shared b h.slots);
  containers = subst (λ (x : Txn). MakesAlone w'.committed l' (txn_of s) (changes_in (v'.content.changes (txn_of s))) x.changes) (sym e)
      (subst (λ i. MakesAlone w'.committed l' (txn_of s) (changes_in i) (w.txns (txn_of s)).changes) (sym b.changes)
      (alone_kept (txn_of s) w l w' l' (changes_in (v.content.changes (txn_of s))) (w.txns (txn_of s)).changes b.others h.containers));
  idle = λ q. b.locks.none (h.idle q);
}

phase_kept : (p : Phase) (w : World) (l : Lock) (v : View) (w' : World) (l' : Lock) (v' : View) (last last' c : ℕ) (s : Session) → Shared w (locks_of l.grants) → w'.conns c ≡ w.conns c
    → (Busy w l v last c s → Beside s.txn c w l v w' l' v') → last ≤ last' → w.count ≤ w'.count → PhaseHolds p w l v last c s → PhaseHolds p w' l' v' last' c s
phase_kept Idle w l v w' l' v' last last' c s shared k b more on h = (h.0, ap (λ (x : Conn). x.txn) k ∙ h.1, h.2, h.3, h.4)
phase_kept Resting w l v w' l' v' last last' c s shared k b more on h = (busy_kept w l v w' l' v' last last' c s shared k (b h.0) more h.0, h.1, h.2)
phase_kept Asking w l v w' l' v' last last' c s shared k b more on h = (busy_kept w l v w' l' v' last last' c s shared k (b h.0) more h.0, h.1, asks_kept w l v w' l' v' c s (b h.0) on h.2)
phase_kept Preparing w l v w' l' v' last last' c s shared k b more on h = (busy_kept w l v w' l' v' last last' c s shared k (b h.0) more h.0, h.1, h.2, prepares_kept w l v w' l' v' c s (b h.0) on h.3)
phase_kept Claiming w l v w' l' v' last last' c s shared k b more on h = (busy_kept w l v w' l' v' last last' c s shared k (b h.0) more h.0, h.1, claims_kept s.plan w l v w' l' v' c s (b h.0) on h.2)
phase_kept Working w l v w' l' v' last last' c s shared k b more on h = (busy_kept w l v w' l' v' last last' c s shared k (b h.0) more h.0, h.1, h.2, works_kept s.plan w l v w' l' v' c s (b h.0) on h.3)
phase_kept Refusing w l v w' l' v' last last' c s shared k b more on h = (busy_kept w l v w' l' v' last last' c s shared k (b h.0) more h.0, h.1, h.2, refusing_kept s.plan w l v w' l' v' c s (b h.0) h.3)
phase_kept Committing w l v w' l' v' last last' c s shared k b more on h = (busy_kept w l v w' l' v' last last' c s shared k (b h.0) more h.0, h.1, h.2)
phase_kept Forcing w l v w' l' v' last last' c s shared k b more on h = (busy_kept w l v w' l' v' last last' c s shared k (b h.0) more h.0, h.1, h.2)
phase_kept Acknowledging w l v w' l' v' last last' c s shared k b more on h = (busy_kept w l v w' l' v' last last' c s shared k (b h.0) more h.0, h.1, h.2)
phase_kept Leaving w l v w' l' v' last last' c s shared k b more on h = (busy_kept w l v w' l' v' last last' c s shared k (b h.0) more h.0, h.1, λ live. ap (λ (x : Txn). x.stage) (b h.0).others.txn ∙ h.2 live)

pub session_kept : (w : World) (l : Lock) (v : View) (w' : World) (l' : Lock) (v' : View) (last last' c : ℕ) (s : Session) → Shared w (locks_of l.grants) → w'.conns c ≡ w.conns c
    → (Busy w l v last c s → Beside s.txn c w l v w' l' v') → last ≤ last' → w.count ≤ w'.count → SessionHolds w l v last c s → SessionHolds w' l' v' last' c s
session_kept w l v w' l' v' last last' c s shared k b more on h = record {
  begun = ap (λ (x : Conn). x.begun) k ∙ h.begun;
  level = ap (λ (x : Conn). x.level) k ∙ h.level;
  automatic = ap (λ (x : Conn). x.automatic) k ∙ h.automatic;
  closed = λ on. ap (λ (x : Conn). x.closed) k ∙ h.closed on;
  spans = h.spans;
  phase = phase_kept s.phase w l v w' l' v' last last' c s shared k b more on h.phase;
}

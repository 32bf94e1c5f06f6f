-- The steps of a query: each leaves it where it is, or further on; at the end it is answered.
use Rattle.std.proofs.Common.{◌≡◌, ◌≢◌, ℕ, ◌+◌, ◌-◌, ◌<◌, ◌≤◌, List, [], ◌∷◌, ◌++◌, length, map, set, get_or, false, refl, sym, ◌∙◌, ap, subst, arith, inl, Option, Some, None, Vec, vec_len, vec_capacity, IsPermutation, append-nil}
use Rattle.std.proofs.lemmas.List.{length-set, get_or-set_same, map-append}
use Rattle.std.proofs.lemmas.List.Sorted.{IsPermutation-refl}
use Rattle.dby_types.specs.declared.answer.Answer.TheVariants.{Rows}
use Rattle.dby_types.specs.declared.answer.Component.{Component}
use Rattle.dby_types.specs.declared.number.RowId.{RowId}
use Rattle.dby_types.specs.declared.value.Value.{Value}
use Rattle.lock_modes.specs.Lock.{Lock}
use Rattle.lock_manager.specs.declared.table.LockTable.{LockTable}
use Rattle.lock_manager.specs.Table.{lock}
use Rattle.store_api.specs.View.{View, Content, live, changes_in}
use Rattle.table_model.specs.Tables.{Tables, laid_over, no_tables}
use Rattle.journal_model.specs.declared.journal.Entry.{Entry}
use Rattle.journal_model.specs.declared.journal.Refusal.TheVariants.{Memory}
use Rattle.journal_model.specs.Catalog.{Defines}
use Rattle.journal_model.specs.Levels.{row_of}
use Rattle.session_model.specs.declared.journal.Locked.{Locked}
use Rattle.session_model.specs.Legal.{AnswerMeets, Owes, IsMeant, SelectsAt, view as view_at}
use Rattle.session_model.specs.Orders.{PassesOrder}
use Rattle.session_model.specs.Places.{Relies, locks_of, is_catalog}
use Rattle.session_model.specs.World.{World, running, opening, seen, seen_over, ends_if, said, set_conn, after_answered}
use Rattle.session_model.specs.World.{pin_of}
use Rattle.session_model.proofs.BaseLemmas.{world_end, count_is}
use Rattle.session_model.proofs.FitLemmas.{defines_same, other_way}
use Rattle.session_engine.specs.declared.session.Phase.{Phase}
use Rattle.session_engine.specs.declared.session.Phase.TheVariants.{Working, Refusing}
use Rattle.session_engine.specs.declared.session.Plan.{Plan}
use Rattle.session_engine.specs.declared.session.Plan.TheVariants as plan
use Rattle.session_engine.specs.declared.session.Scan.{Scan}
use Rattle.session_engine.specs.declared.session.Where.{Where}
use Rattle.session_engine.specs.declared.session.Where.TheVariants.{At, Ended}
use Rattle.session_engine.specs.declared.session.Session.{Session}
use Rattle.session_engine.specs.Asking.{in_want}
use Rattle.session_engine.specs.Dictionary.{Named, named_of}
use Rattle.session_engine.specs.Engine.{EngineHolds, state}
use Rattle.session_engine.proofs.SpentLemmas.{spent_kept}
use Rattle.session_engine.specs.Follows.{Follows}
use Rattle.session_engine.specs.Scanning.{IsScanned, IsWhere, Takes, passed, told_rows}
use Rattle.session_engine.specs.State.{State, Holds, Busy, Scans, Works, IsOpened, IsStage, WaitsNot, PhaseHolds, ends_in, opens, world_of, txn_of}
use Rattle.session_engine.proofs.BindLemmas.{sees_current, busy_bound}
use Rattle.session_engine.proofs.EndLemmas.{busy_pages, refuses_still}
use Rattle.session_engine.proofs.RoomLemmas.{room_for, room_after}
use Rattle.session_engine.proofs.ScanLemmas.{IsWhole, all_read, passes_row, reads_row, reads_committed}
use Rattle.session_engine.proofs.StepLemmas.{own_session, phase_at}
use Rattle.session_engine.proofs.TellLemmas.{answers, set_twice}
use Rattle.session_engine.proofs.WantLemmas.{own_step, refusing_unchanged}

-- A SCAN, where it is
pub record Reading (st : State) (last k : ℕ) (r : Session) (scan : Scan) : Type 0 where
  pub within : k < length st.ss
  pub at : r ≡ get_or st.ss k r
  pub phase : r.phase ≡ Working
  pub planned : r.plan ≡ plan.Select scan
  pub holds : Holds st last

pub scan_at : (st : State) (last k : ℕ) (r : Session) (scan : Scan) → Reading st last k r scan
    → Busy (world_of st.es) st.lock st.view last (k + 1) r × WaitsNot r × IsOpened r × Scans (world_of st.es) st.lock st.view r scan
scan_at st last k r scan h =
    let p = phase_at Working (world_of st.es) st.lock st.view last (k + 1) r h.phase (own_session st last k r h.within h.at h.holds) in
    (p.0, p.1, p.2, subst (Works (world_of st.es) st.lock st.view (k + 1) r) h.planned p.3)

-- its table is described
pub scan_described : (st : State) (last k : ℕ) (r : Session) (scan : Scan) → Reading st last k r scan → st.view.content.columns scan.number ≢ None
scan_described st last k r scan h none =
    let w = world_of st.es in
    let s = (scan_at st last k r scan h).3.selects in
    let same = other_way w.current (seen w (txn_of r)) (sees_current w st.lock (txn_of r) h.holds.shared s.catalog s.unchanged) in
    let defined = defines_same (seen w (txn_of r)) w.current same s.target.def s.target.defined in
    let there = (h.holds.cataloged.described (named_of s.target.def) (h.holds.cataloged.dictionary.only s.target.def defined)).0 in
    let e : None ≡ Some s.target.def.columns = sym none ∙ ap st.view.content.columns (sym s.number) ∙ there in
    cc

-- over a store of which only the actor's pages changed
scans_pages : (w : World) (l : Lock) (v v' : View) (s : Session) (scan : Scan) → v'.content ≡ v.content → Scans w l v s scan → Scans w l v' s scan
scans_pages w l v v' s scan e h = record {
  selects = record {
    runs = h.selects.runs;
    marked = ap (λ (d : Content). length (changes_in (d.changes (txn_of s)))) e ∙ h.selects.marked;
    unchanged = h.selects.unchanged;
    name = h.selects.name;
    order = h.selects.order;
    catalog = h.selects.catalog;
    target = h.selects.target;
    number = h.selects.number;
    user = h.selects.user;
    names = h.selects.names;
  };
  reads = h.reads;
  read = h.read;
  rows = h.rows;
  at = subst (λ (d : Content). IsWhere d.heaps scan.number scan.after scan.at) (sym e) h.at;
}

-- what it sees of its table is what stands there
sees_rows : (st : State) (last k : ℕ) (r : Session) (scan : Scan) → Reading st last k r scan → (rid : RowId) → seen (world_of st.es) (txn_of r) scan.number rid ≡ (world_of st.es).current scan.number rid
sees_rows st last k r scan h rid =
    let w = world_of st.es in
    let p = scan_at st last k r scan h in
    sym ((h.holds.shared.txns (txn_of r)).seen scan.number rid (p.3.reads rid) ∙ ap (λ ms. laid_over ms w.committed scan.number rid) p.3.selects.unchanged)

whole_read : (st : State) (last k : ℕ) (r : Session) (scan : Scan) → Reading st last k r scan → scan.at ≡ Ended → IsWhole ((world_of st.es).current scan.number) scan.tuples.items
whole_read st last k r scan h ended =
    let p = scan_at st last k r scan h in
    all_read ((world_of st.es).current scan.number) st.view.content.heaps scan.number scan.after scan.tuples.items (λ q. h.holds.stored scan.number q)
    (subst (IsWhere st.view.content.heaps scan.number scan.after) ended p.3.at) p.3.read

rows_same : (rows : List (List Value)) (tuples : List (List Component)) → rows ≡ map row_of tuples → IsPermutation (map row_of tuples) rows
rows_same rows tuples e = subst (λ xs. IsPermutation xs rows) e (IsPermutation-refl rows)

-- IT GOES ON
pub scan_on : (st : State) (last k : ℕ) (r : Session) (scan scan' : Scan) (v' : View) → Reading st last k r scan
    → v'.content ≡ st.view.content → ((b : ℕ) → b ≢ k + 1 → v'.actors b ≡ st.view.actors b) → v'.limit ≡ st.view.limit
    → scan'.number ≡ scan.number → scan'.names ≡ scan.names → IsScanned ((world_of st.es).current scan.number) scan'.after scan'.tuples.items → scan'.rows.items ≡ map row_of scan'.tuples.items
    → IsWhere st.view.content.heaps scan.number scan'.after scan'.at
    → Holds (record { es = st.es; ls = st.ls; lock = st.lock; ss = set st.ss k (record r { plan = plan.Select scan' }); view = v'; named = st.named }) last
scan_on st last k r scan scan' v' h content actors limit number names read rows at =
    let w = world_of st.es in
    let p = scan_at st last k r scan h in
    let s = p.3.selects in
    let s' : Session = record r { plan = plan.Select scan' } in
    let busy : Busy w st.lock st.view last (k + 1) s' = busy_bound w st.lock st.view last (k + 1) r s' refl refl refl refl p.0.stage p.0 in
    let works : Scans w st.lock st.view s' scan' = record {
      selects = record {
        runs = record { first = s.runs.first; since = s.runs.since; short = s.runs.short };
        marked = s.marked;
        unchanged = s.unchanged;
        name = s.name;
        order = s.order;
        catalog = s.catalog;
        target = s.target;
        number = s.number ∙ sym number;
        user = ap is_catalog number ∙ s.user;
        names = names ∙ s.names;
      };
      reads = λ rid. ap (λ n. (locks_of st.lock.grants).reads (txn_of r) n rid) number ∙ p.3.reads rid;
      read = subst (λ n. IsScanned (w.current n) scan'.after scan'.tuples.items) (sym number) read;
      rows = rows;
      at = subst (λ n. IsWhere st.view.content.heaps n scan'.after scan'.at) (sym number) at;
    } in
    own_step st last k r s' v' h.within h.at p.0 (p.0.idle p.1) refl content actors limit
    (subst (λ q. PhaseHolds q w st.lock v' last (k + 1) s') (sym h.phase)
    (busy_pages w st.lock st.view v' last (k + 1) s' content busy, p.1, p.2, scans_pages w st.lock st.view v' s' scan' content works)) h.holds

-- it has come to a place
pub scan_finds : (st : State) (last k : ℕ) (r : Session) (scan : Scan) (at : Where) (v' : View) → Reading st last k r scan
    → v'.content ≡ st.view.content → ((b : ℕ) → b ≢ k + 1 → v'.actors b ≡ st.view.actors b) → v'.limit ≡ st.view.limit
    → IsWhere st.view.content.heaps scan.number scan.after at
    → Holds (record { es = st.es; ls = st.ls; lock = st.lock; ss = set st.ss k (record r { plan = plan.Select (record scan { at = at }) }); view = v'; named = st.named }) last
scan_finds st last k r scan at v' h content actors limit there =
    let p = scan_at st last k r scan h in
    scan_on st last k r scan (record scan { at = at }) v' h content actors limit refl refl p.3.read p.3.rows there

-- or stays where it is
pub scan_stays : (st : State) (last k : ℕ) (r : Session) (scan : Scan) (v' : View) → Reading st last k r scan
    → v'.content ≡ st.view.content → ((b : ℕ) → b ≢ k + 1 → v'.actors b ≡ st.view.actors b) → v'.limit ≡ st.view.limit
    → Holds (record { es = st.es; ls = st.ls; lock = st.lock; ss = set st.ss k (record r { plan = plan.Select scan }); view = v'; named = st.named }) last
scan_stays st last k r scan v' h content actors limit =
    let p = scan_at st last k r scan h in
    scan_on st last k r scan scan v' h content actors limit refl refl p.3.read p.3.rows p.3.at

-- or reads the row there
pub scan_takes : (st : State) (last k : ℕ) (r : Session) (scan scan' : Scan) (rid : RowId) (row : List Value) (v' : View) → Reading st last k r scan
    → v'.content ≡ st.view.content → ((b : ℕ) → b ≢ k + 1 → v'.actors b ≡ st.view.actors b) → v'.limit ≡ st.view.limit
    → scan.at ≡ At rid → live (st.view.content.heaps scan.number rid) ≡ Some row → Takes scan scan' rid row
    → Holds (record { es = st.es; ls = st.ls; lock = st.lock; ss = set st.ss k (record r { plan = plan.Select scan' }); view = v'; named = st.named }) last
scan_takes st last k r scan scan' rid row v' h content actors limit here there t =
    let p = scan_at st last k r scan h in
    let f : RowId → Option (List Value) = (world_of st.es).current scan.number in
    let new : List Component = record { rid = rid; row = row } ∷ [] in
    let first = subst (IsWhere st.view.content.heaps scan.number scan.after) here p.3.at in
    let read = reads_row f st.view.content.heaps scan.number scan.after rid row scan.tuples.items (λ q. h.holds.stored scan.number q) first (sym (h.holds.stored scan.number rid) ∙ there) p.3.read in
    let after : scan'.after ≡ Some rid = ap (λ (x : Scan). x.after) t.rest in
    scan_on st last k r scan scan' v' h content actors limit (ap (λ (x : Scan). x.number) t.rest) (ap (λ (x : Scan). x.names) t.rest)
    (subst (λ a. IsScanned f a scan'.tuples.items) (sym after) (subst (IsScanned f (Some rid)) (sym t.tuples) read))
    (t.rows ∙ ap (λ xs. xs ++ row ∷ []) p.3.rows ∙ ap (λ x. map row_of scan.tuples.items ++ x ∷ []) (sym (append-nil row)) ∙ sym (map-append row_of scan.tuples.items (new ∷ [])) ∙ ap (map row_of) (sym t.tuples))
    (subst (IsWhere st.view.content.heaps scan.number scan'.after) (sym (ap (λ (x : Scan). x.at) t.rest)) tt)

-- or passes it
pub scan_passes : (st : State) (last k : ℕ) (r : Session) (scan : Scan) (rid : RowId) (v' : View) → Reading st last k r scan
    → v'.content ≡ st.view.content → ((b : ℕ) → b ≢ k + 1 → v'.actors b ≡ st.view.actors b) → v'.limit ≡ st.view.limit
    → scan.at ≡ At rid → live (st.view.content.heaps scan.number rid) ≡ None
    → Holds (record { es = st.es; ls = st.ls; lock = st.lock; ss = set st.ss k (record r { plan = plan.Select (passed scan rid) }); view = v'; named = st.named }) last
scan_passes st last k r scan rid v' h content actors limit here none =
    let p = scan_at st last k r scan h in
    let f : RowId → Option (List Value) = (world_of st.es).current scan.number in
    let first = subst (IsWhere st.view.content.heaps scan.number scan.after) here p.3.at in
    scan_on st last k r scan (passed scan rid) v' h content actors limit refl refl
    (passes_row f st.view.content.heaps scan.number scan.after rid scan.tuples.items (λ q. h.holds.stored scan.number q) first (sym (h.holds.stored scan.number rid) ∙ none) p.3.read)
    p.3.rows tt

-- THERE IS NO MEMORY for its next row
pub scan_starves : (st : State) (last k : ℕ) (r : Session) (scan : Scan) (planned : Plan) (v' : View) → Reading st last k r scan
    → v'.content ≡ st.view.content → ((b : ℕ) → b ≢ k + 1 → v'.actors b ≡ st.view.actors b) → v'.limit ≡ st.view.limit
    → Holds (record { es = st.es; ls = st.ls; lock = st.lock; ss = set st.ss k (in_want (record r { plan = planned })); view = v'; named = st.named }) last
scan_starves st last k r scan planned v' h content actors limit =
    let w = world_of st.es in
    let p = scan_at st last k r scan h in
    let s = p.3.selects in
    let idle = p.0.idle p.1 in
    let runs : (w.txns (txn_of r)).stage ≡ running = subst (λ q. IsStage q (w.txns (txn_of r)).stage) h.phase p.0.stage in
    let same : record r { queued = false; phase = Refusing; plan = plan.Refuse Memory } ≡ in_want r = ap (λ q. record r { queued = q; phase = Refusing; plan = plan.Refuse Memory }) (sym p.1) in
    let refused = subst (PhaseHolds Refusing w st.lock st.view last (k + 1)) same
    (refusing_unchanged w st.lock st.view last (k + 1) r Memory p.0 idle p.2 runs s.runs.first s.marked s.unchanged (inl ((λ tables. tt), refl))) in
    own_step st last k r (in_want r) v' h.within h.at p.0 idle refl content actors limit
    (busy_pages w st.lock st.view v' last (k + 1) (in_want r) content refused.0, refused.1, refused.2, refuses_still w st.lock st.view v' (in_want r) Memory content refused.3) h.holds

-- AT THE END it is answered, having let go of its page
answers_whole : (st : State) (last k place : ℕ) (r : Session) (scan : Scan) → Reading st last k r scan → place ≡ length st.es → scan.at ≡ Ended
    → AnswerMeets no_tables st.es (world_of st.es) (txn_of r) (Rows scan.names scan.rows.items) scan.tuples.items place place
answers_whole st last k place r scan h here ended =
    let w = world_of st.es in
    let p = scan_at st last k r scan h in
    let s = p.3.selects in
    let count : w.count ≡ length st.es = count_is (opening no_tables) st.es ∙ (let n = length st.es in omega arith) in
    let since : (w.txns (txn_of r)).started < w.count = s.runs.since in
    let same : view_at no_tables st.es w (txn_of r) place ≡ seen w (txn_of r) = ap (λ n. view_at no_tables st.es w (txn_of r) n) here ∙ ap (λ (u : World). seen_over w (txn_of r) u.committed) (world_end no_tables st.es) in
    record {
      after = omega (arith, count, since, here);
      order = omega arith;
      within = omega (arith, here);
      own = [];
      changes = s.unchanged;
      owes = subst (λ o. Owes o (view_at no_tables st.es w (txn_of r)) place place (Rows scan.names scan.rows.items) scan.tuples.items []) (sym s.order) (record {
        table = record { def = s.target.def; defined = subst (λ f. Defines f s.target.def) (sym same) s.target.defined; named = s.target.named };
        read = reads_committed (view_at no_tables st.es w (txn_of r)) place s.target.def.number (w.current scan.number) scan.tuples.items
            (λ rid. ap (λ (f : Tables). f s.target.def.number rid) same ∙ ap (λ n. seen w (txn_of r) n rid) s.number ∙ sees_rows st last k r scan h rid) (whole_read st last k r scan h ended);
        told = record { shown = scan.rows.items; answered = ap (λ ns. Rows ns scan.rows.items) s.names; same = rows_same scan.rows.items scan.tuples.items p.3.rows };
        none = refl;
      });
    }

-- what is owed of it while its transaction is open
rests_whole : (st : State) (last k : ℕ) (r : Session) (scan : Scan) → Reading st last k r scan → scan.at ≡ Ended
    → Relies (world_of st.es) (locks_of st.lock.grants) (pin_of (txn_of r) ((world_of st.es).txns (txn_of r)) (said (Rows scan.names scan.rows.items)))
rests_whole st last k r scan h ended =
    let w = world_of st.es in
    let p = scan_at st last k r scan h in
    let s = p.3.selects in
    let meant : SelectsAt (seen w (txn_of r)) scan.number s.name (Rows scan.names scan.rows.items) = record {
      table = s.target;
      number_is = s.number;
      rows = scan.tuples.items;
      read = reads_committed (λ m. seen w (txn_of r)) 0 scan.number (w.current scan.number) scan.tuples.items (λ rid. sees_rows st last k r scan h rid) (whole_read st last k r scan h ended);
      told = record { shown = scan.rows.items; answered = ap (λ ns. Rows ns scan.rows.items) s.names; same = rows_same scan.rows.items scan.tuples.items p.3.rows };
    } in
    record {
      catalog = s.catalog;
      number = scan.number;
      rows = p.3.reads;
      meant = subst (λ o. IsMeant o (w.txns (txn_of r)).text (seen w (txn_of r)) scan.number (said (Rows scan.names scan.rows.items)) (w.txns (txn_of r)).begun (w.txns (txn_of r)).changes) (sym s.order) meant;
    }

pub answers_rows : (st : State) (last k place : ℕ) (r : Session) (scan : Scan) (phase : Phase) (v' : View) → Reading st last k r scan → place ≡ length st.es → scan.at ≡ Ended
    → v'.content ≡ st.view.content → ((b : ℕ) → b ≢ k + 1 → v'.actors b ≡ st.view.actors b) → v'.limit ≡ st.view.limit → Follows phase (ends_if r.automatic)
    → Holds (record { es = st.es ++ told_rows r.txn place scan ∷ []; ls = st.ls; lock = st.lock; ss = set st.ss k (record r { phase = phase; plan = plan.Nothing }); view = v'; named = st.named }) last
answers_rows st last k place r scan phase v' h here ended content actors limit follows =
    let w = world_of st.es in
    let p0 = scan_at st last k r scan h in
    let r1 : Session = record r { plan = plan.Select scan } in
    let st1 : State = record { es = st.es; ls = st.ls; lock = st.lock; ss = set st.ss k r1; view = v'; named = st.named } in
    let one : Holds st1 last = scan_on st last k r scan scan v' h content actors limit refl refl p0.3.read p0.3.rows p0.3.at in
    let h1 : Reading st1 last k r1 scan = record {
      within = subst (λ n. k < n) (sym (length-set st.ss k r1)) h.within;
      at = sym (get_or-set_same st.ss k r1 r1 h.within);
      phase = h.phase;
      planned = refl;
      holds = one;
    } in
    let mine = own_session st1 last k r1 h1.within h1.at one in
    let p = scan_at st1 last k r1 scan h1 in
    let s = p.3.selects in
    let s' : Session = record r { phase = phase; plan = plan.Nothing } in
    subst (λ ss. Holds (record { es = st.es ++ told_rows r.txn place scan ∷ []; ls = st.ls; lock = st.lock; ss = ss; view = v'; named = st.named }) last) (set_twice st.ss k r1 s')
    (answers st1 last k r1 s' (Rows scan.names scan.rows.items) scan.tuples.items place place h1.within h1.at h1.phase
    (subst (λ o. Follows phase (after_answered o r.automatic (w.txns (txn_of r)).first)) (sym s.order) follows)
    (sym mine.level ∙ ap (λ o. (set_conn o (w.conns (k + 1))).level) (sym s.order)) (sym mine.automatic ∙ ap (λ o. (set_conn o (w.conns (k + 1))).automatic) (sym s.order))
    refl refl refl refl refl refl refl refl
    (answers_whole st1 last k place r1 scan h1 here ended)
    (record { short = s.runs.short; order = subst (λ o. PassesOrder o (seen w (txn_of r))) (sym s.order) s.target })
    (λ owed. rests_whole st1 last k r1 scan h1 ended) one)

-- THE ENGINE, whole
pub scan_goes : {Z : Type 0} (entries : Vec Entry Z) (events : Vec Locked Z) (locks : LockTable) (ss : List Session) (v v' : View) (named : List Named) (last owed owed_events k : ℕ) (r : Session) (p : Plan)
    → EngineHolds entries events locks ss v named last owed owed_events → k < length ss → r ≡ get_or ss k r
    → Holds (state entries events locks (set ss k (record r { plan = p })) v' named) last → EngineHolds entries events locks (set ss k (record r { plan = p })) v' named last owed owed_events
scan_goes entries events locks ss v v' named last owed owed_events k r p h lt at holds = record {
  holds = holds;
  room = room_after entries entries events events ss (lock locks) (lock locks) owed owed_events owed owed_events k r (record r { plan = p }) h.room lt at refl refl h.room.entries_fit h.room.events_fit;
  woken = h.woken;
  spent = spent_kept ss k r (record r { plan = p }) lt at refl refl refl h.spent;
}

pub scan_fails : {Z : Type 0} (entries : Vec Entry Z) (events : Vec Locked Z) (locks : LockTable) (ss : List Session) (v v' : View) (named : List Named) (last owed owed_events k : ℕ) (r s' : Session)
    → EngineHolds entries events locks ss v named last owed owed_events → k < length ss → r ≡ get_or ss k r → r.phase ≡ Working → s' ≡ in_want r
    → Holds (state entries events locks (set ss k (in_want r)) v' named) last → EngineHolds entries events locks (set ss k s') v' named last (owed - 1) owed_events
scan_fails entries events locks ss v v' named last owed owed_events k r s' h lt at is same holds =
    let needs : ends_in r.phase ≡ 3 = ap ends_in is in
    let opened : opens r.phase ≡ 1 = ap opens is in
    let one = (room_for entries events ss (lock locks) owed owed_events k 1 r h.room lt at (omega (arith, needs))).0 in
    let fit = h.room.entries_fit in
    subst (λ x. EngineHolds entries events locks (set ss k x) v' named last (owed - 1) owed_events) (sym same) (record {
      holds = holds;
      room = room_after entries entries events events ss (lock locks) (lock locks) owed owed_events (owed - 1) owed_events k r (in_want r) h.room lt at (omega (arith, needs, one)) (omega (arith, opened)) (omega (arith, fit)) h.room.events_fit;
      woken = h.woken;
      spent = spent_kept ss k r (in_want r) lt at refl refl refl h.spent;
    })

pub working_owes : {Z : Type 0} (entries : Vec Entry Z) (events : Vec Locked Z) (locks : LockTable) (ss : List Session) (v : View) (named : List Named) (last owed owed_events k : ℕ) (r : Session)
    → EngineHolds entries events locks ss v named last owed owed_events → k < length ss → r ≡ get_or ss k r → r.phase ≡ Working → (3 ≤ owed) × (vec_len entries + 3 ≤ vec_capacity entries)
working_owes entries events locks ss v named last owed owed_events k r h lt at is =
    let needs : ends_in r.phase ≡ 3 = ap ends_in is in
    room_for entries events ss (lock locks) owed owed_events k 3 r h.room lt at (omega (arith, needs))

-- the scan that was taken out is the one that was looked at
pub ended_of : (a b : Scan) → plan.Select a ≡ plan.Select b → b.at ≡ Ended → a.at ≡ Ended
ended_of a b e h = (let same : a ≡ b = cc in ap (λ (x : Scan). x.at) same ∙ h)

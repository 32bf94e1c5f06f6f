-- An INSERT that has put its last row is answered by their number.
use Rattle.std.proofs.Common.{◌≡◌, ℕ, ◌+◌, ◌<◌, [], ◌∷◌, ◌++◌, length, map, set, reverse, append-nil, false, refl, sym, ◌∙◌, ap, subst, arith}
use Rattle.std.proofs.lemmas.List.{length-set, get_or-set_same}
use Rattle.std.proofs.lemmas.Bool.{both_ways}
use Rattle.dby_types.specs.declared.answer.Answer.TheVariants.{Changed}
use Rattle.store_api.specs.View.{View}
use Rattle.table_model.specs.Tables.{no_tables}
use Rattle.journal_model.specs.Catalog.{Defines}
use Rattle.journal_model.specs.Legal.{row_put}
use Rattle.session_model.specs.Legal.{AnswerMeets, Owes, IsMeant, InsertsAt, view as view_at}
use Rattle.session_model.specs.Orders.{PassesOrder}
use Rattle.session_model.specs.Places.{Relies, locks_of}
use Rattle.session_model.specs.World.{World, opening, seen, seen_over, ends_if, said, set_conn, after_answered, pin_of}
use Rattle.session_model.proofs.BaseLemmas.{world_end, count_is}
use Rattle.session_engine.specs.declared.session.Fill.{Fill}
use Rattle.session_engine.specs.declared.session.Phase.{Phase}
use Rattle.session_engine.specs.declared.session.Plan.TheVariants as plan
use Rattle.session_engine.specs.declared.session.Session.{Session}
use Rattle.session_engine.specs.Filling.{Moves, told_count}
use Rattle.session_engine.specs.Follows.{Follows}
use Rattle.session_engine.specs.State.{State, Holds, world_of, txn_of}
use Rattle.session_engine.proofs.FillLemmas.{Filling, fill_at, fill_on}
use Rattle.session_engine.proofs.StepLemmas.{own_session}
use Rattle.session_engine.proofs.TellLemmas.{answers, set_twice}

-- all its rows are put
all_done : (st : State) (last k : ℕ) (r : Session) (fill : Fill) → (h : Filling st last k r fill) → fill.rows.items ≡ [] → (fill_at st last k r fill h).3.done ≡ (fill_at st last k r fill h).3.inserts.tuples
all_done st last k r fill h none = (let f = (fill_at st last k r fill h).3 in sym (append-nil f.done) ∙ ap (λ xs. f.done ++ reverse xs) (sym none) ∙ f.rest)

counts_meet : (st : State) (last k place : ℕ) (r : Session) (fill : Fill) → Filling st last k r fill → place ≡ length st.es → fill.rows.items ≡ []
    → AnswerMeets no_tables st.es (world_of st.es) (txn_of r) (Changed fill.count) [] place place
counts_meet st last k place r fill h here none =
    let w = world_of st.es in
    let f = (fill_at st last k r fill h).3 in
    let s = f.inserts in
    let target = s.suits.target in
    let done = all_done st last k r fill h none in
    let count : w.count ≡ length st.es = count_is (opening no_tables) st.es ∙ (let n = length st.es in omega arith) in
    let since : (w.txns (txn_of r)).started < w.count = s.runs.since in
    let same : view_at no_tables st.es w (txn_of r) place ≡ seen w (txn_of r) = ap (λ n. view_at no_tables st.es w (txn_of r) n) here ∙ ap (λ (u : World). seen_over w (txn_of r) u.committed) (world_end no_tables st.es) in
    record {
      after = omega (arith, count, since, here);
      order = omega arith;
      within = omega (arith, here);
      own = f.stands.own;
      changes = f.stands.changes_are;
      owes = subst (λ o. Owes o (view_at no_tables st.es w (txn_of r)) place place (Changed fill.count) [] f.stands.own) (sym s.order) (record {
        suits = record { target = record { def = target.def; defined = subst (λ f. Defines f target.def) (sym same) target.defined; named = target.named }; suited = s.suits.suited };
        whole = s.whole;
        puts = f.puts ∙ ap (map (row_put fill.number)) done ∙ ap (λ n. map (row_put n) s.tuples) (sym s.number);
        told = ap Changed s.count;
        unread = refl;
      });
    }

counts_rest : (st : State) (last k : ℕ) (r : Session) (fill : Fill) → Filling st last k r fill → fill.rows.items ≡ []
    → Relies (world_of st.es) (locks_of st.lock.grants) (pin_of (txn_of r) ((world_of st.es).txns (txn_of r)) (said (Changed fill.count)))
counts_rest st last k r fill h none =
    let w = world_of st.es in
    let f = (fill_at st last k r fill h).3 in
    let s = f.inserts in
    let done = all_done st last k r fill h none in
    let meant : InsertsAt (seen w (txn_of r)) fill.number s.name s.tuples (Changed fill.count) (w.txns (txn_of r)).begun (w.txns (txn_of r)).changes = record {
      own = f.stands.own;
      changes = f.stands.changes_are;
      answers = record {
        suits = s.suits;
        whole = s.whole;
        puts = f.puts ∙ ap (map (row_put fill.number)) done ∙ ap (λ n. map (row_put n) s.tuples) (sym s.number);
        told = ap Changed s.count;
        unread = refl;
      };
      number_is = s.number;
    } in
    record {
      catalog = s.catalog;
      number = fill.number;
      rows = λ rid. h.holds.shared.fits.writer_reads (txn_of r) fill.number rid (f.writes rid);
      meant = subst (λ o. IsMeant o (w.txns (txn_of r)).text (seen w (txn_of r)) fill.number (said (Changed fill.count)) (w.txns (txn_of r)).begun (w.txns (txn_of r)).changes) (sym s.order) meant;
    }

pub answers_count : (st : State) (last k place : ℕ) (r : Session) (fill : Fill) (phase : Phase) (v' : View) → Filling st last k r fill → place ≡ length st.es → fill.rows.items ≡ [] → Moves (k + 1) st.view v' → Follows phase (ends_if r.automatic)
    → Holds (record { es = st.es ++ told_count r.txn place fill.count ∷ []; ls = st.ls; lock = st.lock; ss = set st.ss k (record r { phase = phase; plan = plan.Nothing }); view = v'; named = st.named }) last
answers_count st last k place r fill phase v' h here none m follows =
    let w = world_of st.es in
    let fill1 : Fill = record fill { has_room = false } in
    let r1 : Session = record r { plan = plan.Insert fill1 } in
    let st1 : State = record { es = st.es; ls = st.ls; lock = st.lock; ss = set st.ss k r1; view = v'; named = st.named } in
    let one : Holds st1 last = fill_on st last k r fill false v' h m (λ on. absurd (both_ways false refl on)) in
    let h1 : Filling st1 last k r1 fill1 = record {
      within = subst (λ n. k < n) (sym (length-set st.ss k r1)) h.within;
      at = sym (get_or-set_same st.ss k r1 r1 h.within);
      phase = h.phase;
      planned = refl;
      holds = one;
    } in
    let mine = own_session st1 last k r1 h1.within h1.at one in
    let s = (fill_at st1 last k r1 fill1 h1).3.inserts in
    let s' : Session = record r { phase = phase; plan = plan.Nothing } in
    subst (λ ss. Holds (record { es = st.es ++ told_count r.txn place fill.count ∷ []; ls = st.ls; lock = st.lock; ss = ss; view = v'; named = st.named }) last) (set_twice st.ss k r1 s')
    (answers st1 last k r1 s' (Changed fill.count) [] place place h1.within h1.at h1.phase
    (subst (λ o. Follows phase (after_answered o r.automatic (w.txns (txn_of r)).first)) (sym s.order) follows)
    (sym mine.level ∙ ap (λ o. (set_conn o (w.conns (k + 1))).level) (sym s.order)) (sym mine.automatic ∙ ap (λ o. (set_conn o (w.conns (k + 1))).automatic) (sym s.order))
    refl refl refl refl refl refl refl refl
    (counts_meet st1 last k place r1 fill1 h1 here none)
    (record { short = s.runs.short; order = subst (λ o. PassesOrder o (seen w (txn_of r))) (sym s.order) s.suits })
    (λ owed. counts_rest st1 last k r1 fill1 h1 none) one)

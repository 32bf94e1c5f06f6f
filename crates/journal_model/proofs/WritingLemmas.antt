-- A journal is written: from what holds between two entries to what holds behind the next one.
use Rattle.std.proofs.Common.{◌≡◌, ◌≢◌, ℕ, ◌+◌, ◌<◌, ◌≤◌, List, [], ◌∷◌, ◌++◌, length, true, false, refl, sym, ◌∙◌, ap, subst, arith, Option, Some, None}
use Rattle.std.specs.Prelude.{not, ◌||◌}
use Rattle.std.proofs.lemmas.Bool.{both_ways}
use Rattle.dby_types.specs.declared.answer.Answer.{Answer}
use Rattle.dby_types.specs.declared.answer.Component.{Component}
use Rattle.dby_types.specs.declared.definition.TableDef.{TableDef}
use Rattle.dby_types.specs.declared.number.ConnNo.{ConnNo}
use Rattle.dby_types.specs.declared.number.Level.TheVariants.{Cs}
use Rattle.dby_types.specs.declared.number.RowId.{RowId}
use Rattle.dby_types.specs.declared.number.TxnNo.{TxnNo}
use Rattle.dby_types.specs.declared.value.Value.{Value}
use Rattle.sql_ast.specs.declared.statement.Statement.TheVariants.{Unread}
use Rattle.sql_forms.specs.declared.form.Form.{Form}
use Rattle.sql_forms.specs.declared.form.Form.TheVariants.{CreateTable, Insert, Select}
use Rattle.sql_forms.specs.Forms.{form_of}
use Rattle.journal_model.specs.declared.journal.Entry.{Entry}
use Rattle.journal_model.specs.declared.journal.Entry.TheVariants.{Started, Did, Answered, Refused, Committed, Acknowledged, RolledBack}
use Rattle.journal_model.specs.declared.journal.Refusal.{Refusal}
use Rattle.table_model.specs.Tables.{Tables, Change, Made, Each, put, laid_over}
use Rattle.journal_model.specs.World.{World, Txn, Conn, Stage, leaving, committing, settled, Told, said, denied, opening, apply, replay, is_ended, is_untold, is_returnable, is_leaving, after_answered, after_refused, given_by, seen}
use Rattle.journal_model.specs.Catalog.{Defines}
use Rattle.journal_model.specs.Meaning.{Passes}
use Rattle.journal_model.specs.Legal.{IsLegal, IsOwed, CommitsFit, Begins, statement_of, Stays, PinHolds, HasEvidence, AnswerMeets, IsFree}
use Rattle.journal_model.specs.Writing.{conn_is, HasNone, AreEnded, IsCalm, IsRunning, IsJournal, IsRun}
use Rattle.journal_model.proofs.BaseLemmas.{at_same, at_is, at_other, at_each, replay_push, count_is, ended_kept, ended_over}
use Rattle.table_model.proofs.TablesLemmas.{each_map, each_append}
use Rattle.journal_model.proofs.GrowingLemmas.{legal_entry, owed_ended}

abbrev now : Tables → List Entry → World
now opened es = replay (opening opened) es

pub begins : (opened : Tables) (scripts : List (List ℕ)) (es : List Entry) (last given : ℕ) (tables : Tables) (t : TxnNo) (c : ConnNo) (text : List ℕ)
    → IsJournal opened scripts es last given tables → t.0 ≡ last + 1 → c.0 ≡ 1 → statement_of scripts 1 last ≡ Some text
    → IsRun opened scripts (es ++ Started t c Cs (Unread text) ∷ []) t.0 given text (length es) [] tables
begins opened scripts es last given tables t c text j number one next =
    let w = now opened es in
    let calm = j.calm in
    let e = Started t c Cs (Unread text) in
    let conn : w.conns c.0 ≡ conn_is last None = ap w.conns one ∙ calm.conn in
    let live : is_ended (w.txns t.0).stage ≡ false = ap is_ended (calm.fresh t.0 (omega arith)) in
    let last_is = calm.last_is in
    let runs : IsRunning (apply w e) opened t.0 given text (length es) [] tables = record {
      alone = record {
        stage_is = ap (λ (x : Txn). x.stage) (at_same w.txns t.0 _);
        conn_is_1 = ap (λ (x : Txn). x.conn) (at_same w.txns t.0 _) ∙ one;
        text_is = ap (λ (x : Txn). x.text) (at_same w.txns t.0 _);
        started_is = ap (λ (x : Txn). x.started) (at_same w.txns t.0 _) ∙ count_is (opening opened) es ∙ omega arith;
        begun = ap (λ (x : Txn). x.begun) (at_same w.txns t.0 _) ∙ (calm.none t.0).changes;
        changes_are = ap (λ (x : Txn). x.changes) (at_same w.txns t.0 _) ∙ (calm.none t.0).changes;
        standing_are = ap (λ (x : Txn). x.standing) (at_same w.txns t.0 _) ∙ (calm.none t.0).standing;
        others = λ u ne. subst HasNone (sym (at_other w.txns t.0 _ u ne)) (calm.none u);
        fresh = λ u lt. ap (λ (x : Txn). x.stage) (at_other w.txns t.0 _ u (omega arith)) ∙ calm.fresh u (omega arith);
      };
      conn = at_is w.conns c.0 _ 1 (sym one) ∙ ap (λ (k : Conn). record k { begun = k.begun + 1; txn = Some t.0 }) conn ∙ ap (λ n. conn_is n (Some t.0)) (sym number);
      last_is = refl;
      pins = ended_kept w.txns t.0 _ live w.pins calm.pins;
      opened_is = calm.opened_is;
      committed_is = calm.committed_is;
      current_is = calm.current_is;
      given_below = calm.given_below;
      commits = calm.commits;
    } in
    record {
      legal = legal_entry opened scripts es e j.legal (record {
        session = (
          sym (ap (λ (k : Conn). k.level) conn),
          record {
            text = text;
            carried = refl;
            next = ap (λ (k : Conn). statement_of scripts c.0 k.begun) conn ∙ ap (λ n. statement_of scripts n last) one ∙ next;
            begins = subst (Begins w t.0) (sym (ap (λ (k : Conn). k.txn) conn)) (let lt : w.last < t.0 = omega arith in lt);
            goes_on = ap (λ (k : Conn). k.closed) conn;
          },
        );
        undo = tt;
        change = tt;
        refusal = tt;
      }) tt (owed_ended (apply w e) runs.pins (subst CommitsFit (sym runs.committed_is) runs.commits));
      runs = subst (λ v. IsRunning v opened t.0 given text (length es) [] tables) (sym (replay_push (opening opened) es e)) runs;
    }

-- numbers that are given now were not given before
free_numbers : (w : World) (given : ℕ) → Each (λ n. n < given) w.given → ((d : TableDef) → Defines w.opened d → ⊥) → (new : List ℕ) → Each (λ n. given ≤ n) new → Each (IsFree w) new
free_numbers w given below none new above =
    each_map (λ n. given ≤ n) (IsFree w)
    (λ n le. (each_map (λ k. k < given) (λ k. k ≢ n) (λ k lt. let ne : k ≢ n = omega arith in ne) w.given below, λ d defines. absurd (none d defines))) new above

pub changes : (opened : Tables) (scripts : List (List ℕ)) (es : List Entry) (given given' : ℕ) (tables : Tables) (t : TxnNo) (text : List ℕ) (s : ℕ) (ms : List Made)
    (table : ℕ) (rid : RowId) (old new : Option (List Value))
    → IsRun opened scripts es t.0 given text s ms tables → old ≡ laid_over ms tables table rid → ((d : TableDef) → Defines opened d → ⊥)
    → given ≤ given' → Each (λ n. given ≤ n) (given_by table new) → Each (λ n. n < given') (given_by table new)
    → IsRun opened scripts (es ++ Did t table rid old new ∷ []) t.0 given' text s (record { number = length es; change = record { table = table; rid = rid; old = old; new = new } } ∷ ms) tables
changes opened scripts es given given' tables t text s ms table rid old new r was none more fresh below =
    let w = now opened es in
    let run = r.runs in
    let alone = run.alone in
    let e = Did t table rid old new in
    let change : Change = record { table = table; rid = rid; old = old; new = new } in
    let count : w.count ≡ length es = count_is (opening opened) es ∙ omega arith in
    let cons : List Made → List Made = λ xs. record { number = w.count; change = change } ∷ xs in
    let made : cons ms ≡ record { number = length es; change = change } ∷ ms = ap (λ n. record { number = n; change = change } ∷ ms) count in
    let live : is_ended (w.txns t.0).stage ≡ false = ap is_ended alone.stage_is in
    let runs : IsRunning (apply w e) opened t.0 given' text s (record { number = length es; change = change } ∷ ms) tables = record {
      alone = record {
        stage_is = ap (λ (x : Txn). x.stage) (at_same w.txns t.0 _) ∙ alone.stage_is;
        conn_is_1 = ap (λ (x : Txn). x.conn) (at_same w.txns t.0 _) ∙ alone.conn_is_1;
        text_is = ap (λ (x : Txn). x.text) (at_same w.txns t.0 _) ∙ alone.text_is;
        started_is = ap (λ (x : Txn). x.started) (at_same w.txns t.0 _) ∙ alone.started_is;
        begun = ap (λ (x : Txn). x.begun) (at_same w.txns t.0 _) ∙ alone.begun;
        changes_are = ap (λ (x : Txn). x.changes) (at_same w.txns t.0 _) ∙ ap cons alone.changes_are ∙ made;
        standing_are = ap (λ (x : Txn). x.standing) (at_same w.txns t.0 _) ∙ ap cons alone.standing_are ∙ made;
        others = λ u ne. subst HasNone (sym (at_other w.txns t.0 _ u ne)) (alone.others u ne);
        fresh = λ u lt. ap (λ (x : Txn). x.stage) (at_other w.txns t.0 _ u (omega arith)) ∙ alone.fresh u lt;
      };
      conn = run.conn;
      last_is = run.last_is;
      pins = ended_kept w.txns t.0 _ live w.pins run.pins;
      opened_is = run.opened_is;
      committed_is = run.committed_is;
      current_is = ap (λ (f : Tables). put f table rid new) run.current_is;
      given_below = each_append (λ n. n < given') (given_by table new) w.given below (each_map (λ n. n < given) (λ n. n < given') (λ n lt. omega arith) w.given run.given_below);
      commits = run.commits;
    } in
    record {
      legal = legal_entry opened scripts es e r.legal (record {
        session = alone.stage_is;
        undo = tt;
        change = record {
          was = was ∙ sym (ap (λ (f : Tables). f table rid) run.current_is);
          apart = λ u ne. subst (Each (λ m. m.change.table ≡ table → m.change.rid ≡ rid → ⊥)) (sym (alone.others u ne).standing) tt;
          free = λ absent. free_numbers w given run.given_below (λ d defines. none d (subst (λ f. Defines f d) run.opened_is defines)) (given_by table new) fresh;
        };
        refusal = tt;
      }) tt (owed_ended (apply w e) runs.pins (subst CommitsFit (sym runs.committed_is) runs.commits));
      runs = subst (λ v. IsRunning v opened t.0 given' text s (record { number = length es; change = change } ∷ ms) tables) (sym (replay_push (opening opened) es e)) runs;
    }

-- what is answered now is right now
stays_now : (form : Option Form) (text : List ℕ) (told : Told) (tables : Tables) → Passes text tables → Stays form text told tables
stays_now None text told tables p = tt
stays_now (Some (CreateTable name columns)) text (said a) tables p = p
stays_now (Some (CreateTable name columns)) text (denied why) tables p = tt
stays_now (Some (Insert name tuples)) text told tables p = tt
stays_now (Some (Select name)) text told tables p = tt

stays_denied : (form : Option Form) (text : List ℕ) (why : Refusal) (tables : Tables) → Stays form text (denied why) tables
stays_denied None text why tables = tt
stays_denied (Some (CreateTable name columns)) text why tables = tt
stays_denied (Some (Insert name tuples)) text why tables = tt
stays_denied (Some (Select name)) text why tables = tt

-- what a running statement without earlier changes sees is what is committed
seen_is : (w : World) (opened : Tables) (t given : ℕ) (text : List ℕ) (s : ℕ) (ms : List Made) (tables : Tables) → IsRunning w opened t given text s ms tables → seen w t ≡ tables
seen_is w opened t given text s ms tables run = ap (λ (xs : List Made). laid_over xs w.committed) run.alone.begun ∙ run.committed_is

pub answers : (opened : Tables) (scripts : List (List ℕ)) (es : List Entry) (given : ℕ) (tables : Tables) (t : TxnNo) (text : List ℕ) (s : ℕ) (ms : List Made)
    (answer : Answer) (joined : List (List Component)) (from to : ℕ)
    → IsRun opened scripts es t.0 given text s ms tables → AnswerMeets opened es (replay (opening opened) es) t.0 answer joined from to
    → Passes text tables → CommitsFit (laid_over ms tables)
    → IsJournal opened scripts (es ++ Answered t answer joined from to ∷ [] ++ Committed t ∷ [] ++ Acknowledged t ∷ []) t.0 given (laid_over ms tables)
answers opened scripts es given tables t text s ms answer joined from to r meets passes fit =
    let w = now opened es in
    let run = r.runs in
    let alone = run.alone in
    let e = Answered t answer joined from to in
    let es1 = es ++ e ∷ [] in
    let es2 = es1 ++ Committed t ∷ [] in
    let w1 = apply w e in
    let w2 = apply w1 (Committed t) in
    let w3 = apply w2 (Acknowledged t) in
    let at1 : now opened es1 ≡ w1 = replay_push (opening opened) es e in
    let at2 : now opened es2 ≡ w2 = replay_push (opening opened) es1 (Committed t) ∙ ap (λ v. apply v (Committed t)) at1 in
    let at3 : now opened (es2 ++ Acknowledged t ∷ []) ≡ w3 = replay_push (opening opened) es2 (Acknowledged t) ∙ ap (λ v. apply v (Acknowledged t)) at2 in
    let live : is_ended (w.txns t.0).stage ≡ false = ap is_ended alone.stage_is in
    let sees = seen_is w opened t.0 given text s ms tables run in
    let conn : w.conns (w.txns t.0).conn ≡ conn_is t.0 (Some t.0) = ap w.conns alone.conn_is_1 ∙ run.conn in
    let stage1 : (w1.txns t.0).stage ≡ committing = ap (λ (x : Txn). x.stage) (at_same w.txns t.0 _) ∙ ap (λ (k : Conn). after_answered k.automatic) conn in
    let changes1 : (w1.txns t.0).changes ≡ ms = ap (λ (x : Txn). x.changes) (at_same w.txns t.0 _) ∙ alone.changes_are in
    let old1 : Each (λ p. is_ended (w1.txns p.txn).stage ≡ true) w.pins = ended_kept w.txns t.0 _ live w.pins run.pins in
    let stage2 : (w2.txns t.0).stage ≡ settled = ap (λ (x : Txn). x.stage) (at_same w1.txns t.0 _) in
    let over2 : is_ended (w2.txns t.0).stage ≡ true = ap is_ended stage2 in
    let pins2 : AreEnded w2 w2.pins = (over2, ended_over w1.txns t.0 _ refl w.pins old1) in
    let committed2 : w2.committed ≡ laid_over ms tables = ap (λ (xs : List Made). laid_over xs w.committed) changes1 ∙ ap (laid_over ms) run.committed_is in
    let pins3 : AreEnded w3 w3.pins = ended_over w2.txns t.0 _ refl w2.pins pins2 in
    let conn3 : w2.conns (w2.txns t.0).conn ≡ conn_is t.0 (Some t.0) =
    ap w.conns (ap (λ (x : Txn). x.conn) (at_same w1.txns t.0 _ ∙ ap (λ (x : Txn). record x { stage = settled; changes = [] }) (at_same w.txns t.0 _)) ∙ alone.conn_is_1) ∙ run.conn in
    let one : (w2.txns t.0).conn ≡ 1 =
    ap (λ (x : Txn). x.conn) (at_same w1.txns t.0 _ ∙ ap (λ (x : Txn). record x { stage = settled; changes = [] }) (at_same w.txns t.0 _)) ∙ alone.conn_is_1 in
    let off : (u : ℕ) → u ≢ t.0 → w3.txns u ≡ w.txns u = λ u ne. at_other w2.txns t.0 _ u ne ∙ at_other w1.txns t.0 _ u ne ∙ at_other w.txns t.0 _ u ne in
    let none3 : HasNone (w3.txns t.0) = record {
      changes = ap (λ (x : Txn). x.changes) (at_same w2.txns t.0 _) ∙ ap (λ (x : Txn). x.changes) (at_same w1.txns t.0 _);
      standing = ap (λ (x : Txn). x.standing) (at_same w2.txns t.0 _);
    } in
    let calm : IsCalm w3 opened t.0 given (laid_over ms tables) = record {
      conn = at_is w2.conns (w2.txns t.0).conn _ 1 (sym one) ∙ ap (λ (k : Conn). record k { txn = None }) conn3;
      last_is = run.last_is;
      none = at_each HasNone w2.txns t.0 _ (subst HasNone (at_same w2.txns t.0 _) none3) (λ u ne. subst HasNone (sym (at_other w1.txns t.0 _ u ne ∙ at_other w.txns t.0 _ u ne)) (alone.others u ne));
      fresh = λ u lt. ap (λ (x : Txn). x.stage) (off u (omega arith)) ∙ alone.fresh u lt;
      pins = pins3;
      opened_is = run.opened_is;
      committed_is = committed2;
      current_is = run.current_is;
      given_below = run.given_below;
      commits = fit;
    } in
    let legal1 : IsLegal opened scripts es1 = legal_entry opened scripts es e r.legal (record {
      session = alone.stage_is;
      undo = tt;
      change = tt;
      refusal = subst (λ x. Passes x (seen w t.0)) (sym alone.text_is) (subst (Passes text) (sym sees) passes);
    }) meets (record {
      pins = (
        λ open_still. subst (λ x. Stays (form_of x) x (said answer) (seen w t.0)) (sym alone.text_is) (subst (Stays (form_of text) text (said answer)) (sym sees) (stays_now (form_of text) text (said answer) tables passes)),
        each_map (λ p. is_ended (w1.txns p.txn).stage ≡ true) (PinHolds w1) (λ p ended live. absurd (both_ways _ live ended)) w.pins old1,
      );
      commits = subst CommitsFit (sym run.committed_is) run.commits;
    }) in
    let legal2 : IsLegal opened scripts es2 = legal_entry opened scripts es1 (Committed t) legal1 (record {
      session = subst (λ (v : World). (v.txns t.0).stage ≡ committing) (sym at1) stage1;
      undo = tt;
      change = tt;
      refusal = tt;
    }) tt (subst (λ v. IsOwed (apply v (Committed t))) (sym at1) (owed_ended w2 pins2 (subst CommitsFit (sym committed2) fit))) in
    record {
      legal = legal_entry opened scripts es2 (Acknowledged t) legal2 (record {
        session = subst (λ (v : World). (v.txns t.0).stage ≡ settled) (sym at2) stage2;
        undo = tt;
        change = tt;
        refusal = tt;
      }) tt (subst (λ v. IsOwed (apply v (Acknowledged t))) (sym at2) (owed_ended w3 pins3 (subst CommitsFit (sym committed2) fit)));
      calm = subst (λ v. IsCalm v opened t.0 given (laid_over ms tables)) (sym at3) calm;
    }

pub refuses : (opened : Tables) (scripts : List (List ℕ)) (es : List Entry) (given : ℕ) (tables : Tables) (t : TxnNo) (text : List ℕ) (s : ℕ) (why : Refusal)
    → IsRun opened scripts es t.0 given text s [] tables → HasEvidence text tables why
    → IsJournal opened scripts (es ++ Refused t why ∷ [] ++ RolledBack t ∷ []) t.0 given tables
refuses opened scripts es given tables t text s why r evidence =
    let w = now opened es in
    let run = r.runs in
    let alone = run.alone in
    let e = Refused t why in
    let es1 = es ++ e ∷ [] in
    let w1 = apply w e in
    let w2 = apply w1 (RolledBack t) in
    let at1 : now opened es1 ≡ w1 = replay_push (opening opened) es e in
    let at2 : now opened (es1 ++ RolledBack t ∷ []) ≡ w2 = replay_push (opening opened) es1 (RolledBack t) ∙ ap (λ v. apply v (RolledBack t)) at1 in
    let live : is_ended (w.txns t.0).stage ≡ false = ap is_ended alone.stage_is in
    let sees = seen_is w opened t.0 given text s [] tables run in
    let conn : w.conns (w.txns t.0).conn ≡ conn_is t.0 (Some t.0) = ap w.conns alone.conn_is_1 ∙ run.conn in
    let stage1 : (w1.txns t.0).stage ≡ leaving = ap (λ (x : Txn). x.stage) (at_same w.txns t.0 _) ∙ ap (λ (k : Conn). after_refused k.automatic) conn in
    let changes1 : (w1.txns t.0).changes ≡ [] = ap (λ (x : Txn). x.changes) (at_same w.txns t.0 _) ∙ alone.changes_are in
    let old1 : Each (λ p. is_ended (w1.txns p.txn).stage ≡ true) w.pins = ended_kept w.txns t.0 _ live w.pins run.pins in
    let over2 : is_ended (w2.txns t.0).stage ≡ true = ap (λ (x : Txn). is_ended x.stage) (at_same w1.txns t.0 _) in
    let pins2 : AreEnded w2 w2.pins = (over2, ended_over w1.txns t.0 _ refl w.pins old1) in
    let one : (w1.txns t.0).conn ≡ 1 = ap (λ (x : Txn). x.conn) (at_same w.txns t.0 _) ∙ alone.conn_is_1 in
    let conn1 : w.conns (w1.txns t.0).conn ≡ conn_is t.0 (Some t.0) = ap w.conns one ∙ run.conn in
    let calm : IsCalm w2 opened t.0 given tables = record {
      conn = at_is w1.conns (w1.txns t.0).conn _ 1 (sym one)
          ∙ ap (λ (k : Conn). record k { txn = None; closed = not (is_leaving (w1.txns t.0).stage) || k.closed }) conn1
          ∙ ap (λ (x : Stage). record { level = Cs; automatic = true; begun = t.0; txn = None; closed = not (is_leaving x) || false }) stage1;
      last_is = run.last_is;
      none = at_each HasNone w1.txns t.0 _ (record { changes = refl; standing = refl }) (λ u ne. subst HasNone (sym (at_other w.txns t.0 _ u ne)) (alone.others u ne));
      fresh = λ u lt. ap (λ (x : Txn). x.stage) (at_other w1.txns t.0 _ u (omega arith) ∙ at_other w.txns t.0 _ u (omega arith)) ∙ alone.fresh u lt;
      pins = pins2;
      opened_is = run.opened_is;
      committed_is = run.committed_is;
      current_is = run.current_is;
      given_below = run.given_below;
      commits = run.commits;
    } in
    let legal1 : IsLegal opened scripts es1 = legal_entry opened scripts es e r.legal (record {
      session = ap is_untold alone.stage_is;
      undo = alone.changes_are ∙ sym alone.begun;
      change = tt;
      refusal = subst (λ x. HasEvidence x (seen w t.0) why) (sym alone.text_is) (subst (λ f. HasEvidence text f why) (sym sees) evidence);
    }) tt (record {
      pins = (
        λ open_still. subst (λ x. Stays (form_of x) x (denied why) (seen w t.0)) (sym alone.text_is) (stays_denied (form_of text) text why (seen w t.0)),
        each_map (λ p. is_ended (w1.txns p.txn).stage ≡ true) (PinHolds w1) (λ p ended live. absurd (both_ways _ live ended)) w.pins old1,
      );
      commits = subst CommitsFit (sym run.committed_is) run.commits;
    }) in
    record {
      legal = legal_entry opened scripts es1 (RolledBack t) legal1 (record {
        session = subst (λ (v : World). is_returnable (v.txns t.0).stage ≡ true) (sym at1) (ap is_returnable stage1);
        undo = subst (λ (v : World). (v.txns t.0).changes ≡ []) (sym at1) changes1;
        change = tt;
        refusal = tt;
      }) tt (subst (λ v. IsOwed (apply v (RolledBack t))) (sym at1) (owed_ended w2 pins2 (subst CommitsFit (sym run.committed_is) run.commits)));
      calm = subst (λ v. IsCalm v opened t.0 given tables) (sym at2) calm;
    }

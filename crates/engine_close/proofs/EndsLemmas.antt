-- What an entry that takes back leaves of the journal, and of the other connections.
use Rattle.std.proofs.Common.{◌≡◌, ◌≢◌, ℕ, ◌+◌, ◌++◌, List, [], ◌∷◌, map, true, false, refl, sym, ◌∙◌, ap, subst, arith, inl, inr, append-nil, append_assoc}
use Rattle.std.proofs.lemmas.Bool.{both_ways, cases_eq}
use Rattle.table_model.specs.Tables.{Each, Made, laid_over}
use Rattle.table_model.proofs.TablesLemmas.{each_map}
use Rattle.store_api.specs.View.{View}
use Rattle.journal_model.specs.declared.journal.Entry.{Entry}
use Rattle.session_model.specs.World.{World, Stage, is_ended, is_returnable}
use Rattle.journal_model.specs.Legal.{CommitsFit}
use Rattle.session_model.specs.Orders.{order_of}
use Rattle.session_model.specs.Legal.{IsMeant, IsOwed, PinHolds}
use Rattle.session_engine.specs.declared.session.Session.{Session}
use Rattle.session_engine.specs.State.{Reflects, txn_of}
use Rattle.engine_close.specs.Closing.{Ends, IsAtRest, Open, Part, takes_back}

-- THE JOURNAL GROWS
pub ends_none : (es : List Entry) → Ends es es
ends_none es = record { added = []; at_end = sym (append-nil es); kinds = tt }

pub ends_one : (es : List Entry) (e : Entry) → takes_back e ≡ true → Ends es (es ++ e ∷ [])
ends_one es e h = record { added = e ∷ []; at_end = refl; kinds = (h, tt) }

each_append : (P : Entry → Type 0) (xs ys : List Entry) → Each P xs → Each P ys → Each P (xs ++ ys)
each_append P [] ys h k = k
each_append P (x ∷ xs) ys h k = (h.0, each_append P xs ys h.1 k)

pub ends_both : (a b c : List Entry) → Ends a b → Ends b c → Ends a c
ends_both a b c h k = record {
  added = h.added ++ k.added;
  at_end = k.at_end ∙ ap (λ es. es ++ k.added) h.at_end ∙ append_assoc a h.added k.added;
  kinds = each_append (λ e. takes_back e ≡ true) h.added k.added h.kinds k.kinds;
}

-- one entry behind another list is an entry of it
pub ends_grown : (a b c : List Entry) (e : Entry) → takes_back e ≡ true → c ≡ b ++ e ∷ [] → Ends a b → Ends a c
ends_grown a b c e h is k = ends_both a b c k (subst (Ends b) (sym is) (ends_one b e h))

-- WHAT IS OWED stays owed where nothing is committed, and who is ended now and wasn't is one who could be taken back
returnable_alive : (x : Stage) → is_returnable x ≡ true → is_ended x ≡ false
returnable_alive x h = grind arith

pub owed_kept : (w w' : World) (t : ℕ) → is_returnable (w.txns t).stage ≡ true → ((u : ℕ) → u ≢ t → w'.txns u ≡ w.txns u) → w'.pins ≡ w.pins → w'.committed ≡ w.committed → IsOwed w → IsOwed w'
owed_kept w w' t returnable others pins committed h =
    let alive_then : (u : ℕ) → is_ended (w'.txns u).stage ≡ false → is_ended (w.txns u).stage ≡ false = λ u alive. elim (cases_eq u t) [
      | inl same ↦ ap (λ n. is_ended (w.txns n).stage) same ∙ returnable_alive (w.txns t).stage returnable
      | inr ne ↦ ap (λ x. is_ended x.stage) (sym (others u ne)) ∙ alive
    ] in
    record {
      pins = subst (Each (PinHolds w')) (sym pins) (each_map (PinHolds w) (PinHolds w') (λ p k alive owes. let r = k (alive_then p.txn alive) owes in (r.0, subst (λ c. IsMeant (order_of p.text) p.text (laid_over p.before c) r.0 p.told p.before p.after) (sym committed) r.1)) w.pins h.pins);
      commits = subst CommitsFit (sym committed) h.commits;
    }

-- THE OTHERS, behind an entry of transaction t, of connection c
pub rest_kept : (w w' : World) (t c : ℕ) → is_returnable (w.txns t).stage ≡ true → ((u : ℕ) → u ≢ t → w'.txns u ≡ w.txns u) → ((i : ℕ) → i ≢ c → w'.conns i ≡ w.conns i)
    → (i : ℕ) → i ≢ c → IsAtRest w i → IsAtRest w' i
rest_kept w w' t c returnable others conns i ne (inl none) = inl (ap (λ k. k.txn) (conns i ne) ∙ none)
rest_kept w w' t c returnable others conns i ne (inr h) =
    let apart : h.0 ≢ t = λ same. both_ways (is_returnable (w.txns t).stage) (ap (λ n. is_returnable (w.txns n).stage) (sym same) ∙ ap is_returnable h.2) returnable in
    inr (h.0, ap (λ k. k.txn) (conns i ne) ∙ h.1, ap (λ x. x.stage) (others h.0 apart) ∙ h.2)

pub open_kept : (w w' : World) (v v' : View) (t c : ℕ) (s : Session) → (w.txns t).conn ≡ c → ((u : ℕ) → u ≢ t → w'.txns u ≡ w.txns u) → ((u : ℕ) → u ≢ t → v'.content.changes u ≡ v.content.changes u)
    → (i : ℕ) → i ≢ c → Open w v i s → Open w' v' i s
open_kept w w' v v' t c s own others changes i ne h =
    let apart : txn_of s ≢ t = λ same. ne (sym h.conn ∙ ap (λ n. (w.txns n).conn) same ∙ own) in
    let here : w'.txns (txn_of s) ≡ w.txns (txn_of s) = others (txn_of s) apart in
    record {
      conn = ap (λ x. x.conn) here ∙ h.conn;
      stage = ap (λ x. is_returnable x.stage) here ∙ h.stage;
      numbers = ap (λ x. map (λ (m : Made). m.number) x.changes) here ∙ h.numbers;
      reflects = subst (λ items. Reflects s.opened items (w'.txns (txn_of s)).changes) (sym (changes (txn_of s) apart)) (subst (λ x. Reflects s.opened (v.content.changes (txn_of s)) x.changes) (sym here) h.reflects);
    }

pub part_kept : (w w' : World) (v v' : View) (t c done i : ℕ) (s : Session) → (w.txns t).conn ≡ c → is_returnable (w.txns t).stage ≡ true → ((u : ℕ) → u ≢ t → w'.txns u ≡ w.txns u)
    → ((k : ℕ) → k ≢ c → w'.conns k ≡ w.conns k) → ((u : ℕ) → u ≢ t → v'.content.changes u ≡ v.content.changes u) → i + 1 ≢ c → Part w v done i s → Part w' v' done i s
part_kept w w' v v' t c done i s own returnable others conns changes ne h = record {
  ended = λ lt. rest_kept w w' t c returnable others conns (i + 1) ne (h.ended lt);
  rests = λ shut. rest_kept w w' t c returnable others conns (i + 1) ne (h.rests shut);
  open_yet = λ le is. open_kept w w' v v' t c s own others changes (i + 1) ne (h.open_yet le is);
}

-- A legal journal that grows by an entry.
use Rattle.std.proofs.Common.{◌≡◌, ℕ, ◌+◌, ◌≤◌, List, [], ◌∷◌, ◌++◌, length, take, get_or, true, refl, sym, ◌∙◌, ap, subst, arith, inl, inr, length-append}
use Rattle.std.proofs.Math.Seq.{take-length}
use Rattle.std.proofs.lemmas.List.{get_or_push, get_or_append_left, take-append-le, take_all}
use Rattle.std.proofs.lemmas.Bool.{both_ways, cases_lt}
use Rattle.journal_model.specs.declared.journal.Entry.{Entry}
use Rattle.table_model.specs.Tables.{Tables}
use Rattle.journal_model.specs.World.{World, opening, apply, replay, world_at, is_ended}
use Rattle.journal_model.specs.Legal.{EntryHolds, AnswersHold, IsOwed, IsLegal, PinHolds, CommitsFit}
use Rattle.journal_model.specs.Writing.{AreEnded}
use Rattle.journal_model.proofs.BaseLemmas.{replay_push, world_end, world_before}
use Rattle.table_model.proofs.TablesLemmas.{each_map}

pub legal_entry : (f : Tables) (scripts : List (List ℕ)) (es : List Entry) (e : Entry)
    → IsLegal f scripts es → EntryHolds scripts (replay (opening f) es) e → AnswersHold f es e → IsOwed (apply (replay (opening f) es) e)
    → IsLegal f scripts (es ++ e ∷ [])
legal_entry f scripts es e h ok span owes =
    let len : length (es ++ e ∷ []) ≡ length es + 1 = length-append es (e ∷ []) in
    record {
      entries = λ i d lt. elim (cases_lt i (length es)) [
        | inl below ↦ subst (λ w. EntryHolds scripts w (get_or (es ++ e ∷ []) i d)) (sym (world_before f es e i (omega arith)))
            (subst (EntryHolds scripts (world_at f es i)) (sym (get_or_append_left es (e ∷ []) d i below)) (h.entries i d below))
        | inr above ↦ let at_end : length es ≡ i = omega arith in
            subst (λ k. EntryHolds scripts (world_at f (es ++ e ∷ []) k) (get_or (es ++ e ∷ []) k d)) at_end
            (subst (EntryHolds scripts (world_at f (es ++ e ∷ []) (length es))) (sym (get_or_push es e d (length es) refl))
            (subst (λ w. EntryHolds scripts w e) (sym (world_before f es e (length es) (omega arith) ∙ world_end f es)) ok))
      ];
      answers = λ i d lt. elim (cases_lt i (length es)) [
        | inl below ↦ subst (λ past. AnswersHold f past (get_or (es ++ e ∷ []) i d)) (sym (take-append-le i es (e ∷ []) (omega arith)))
            (subst (AnswersHold f (take i es)) (sym (get_or_append_left es (e ∷ []) d i below)) (h.answers i d below))
        | inr above ↦ let at_end : length es ≡ i = omega arith in
            subst (λ k. AnswersHold f (take k (es ++ e ∷ [])) (get_or (es ++ e ∷ []) k d)) at_end
            (subst (AnswersHold f (take (length es) (es ++ e ∷ []))) (sym (get_or_push es e d (length es) refl))
            (subst (λ past. AnswersHold f past e) (sym (take-append-le (length es) es (e ∷ []) (omega arith) ∙ take-length es)) span))
      ];
      owed = λ m le. elim (cases_lt m (length es + 1)) [
        | inl below ↦ subst IsOwed (sym (world_before f es e m (omega arith))) (h.owed m (omega arith))
        | inr above ↦ let at_end : length (es ++ e ∷ []) ≤ m = omega arith in
            subst IsOwed (sym (ap (replay (opening f)) (take_all m (es ++ e ∷ []) at_end) ∙ replay_push (opening f) es e)) owes
      ];
    }

-- nothing is owed to ended transactions
pub owed_ended : (w : World) → AreEnded w w.pins → CommitsFit w.committed → IsOwed w
owed_ended w ended fit = record {
  pins = each_map (λ p. is_ended (w.txns p.txn).stage ≡ true) (PinHolds w) (λ p over live. absurd (both_ways _ live over)) w.pins ended;
  commits = fit;
}

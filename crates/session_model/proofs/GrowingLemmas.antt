-- A legal journal that grows: by an entry, by a lock event.
use Rattle.std.proofs.Common.{◌≡◌, ℕ, ◌+◌, ◌<◌, ◌≤◌, List, [], ◌∷◌, ◌++◌, length, take, get_or, refl, sym, ◌∙◌, ap, subst, arith, inl, inr, length-append}
use Rattle.std.proofs.Math.Seq.{take-length}
use Rattle.std.proofs.lemmas.List.{get_or_push, get_or_append_left, take-append-le, take_all}
use Rattle.std.proofs.lemmas.Bool.{cases_lt}
use Rattle.journal_model.specs.declared.journal.Entry.{Entry}
use Rattle.table_model.specs.Tables.{Tables}
use Rattle.session_model.specs.declared.journal.Locked.{Locked}
use Rattle.session_model.specs.World.{opening, apply, replay, world_at}
use Rattle.session_model.specs.Legal.{EntryHolds, AnswersHold, EventHolds, IsOwed, IsLegal}
use Rattle.session_model.proofs.BaseLemmas.{replay_push, world_end, world_before}

-- ONE MORE ENTRY
pub legal_entry : (f : Tables) (scripts : List (List ℕ)) (es : List Entry) (ls : List Locked) (e : Entry)
    → IsLegal f scripts es ls → EntryHolds scripts (replay (opening f) es) e → AnswersHold f es e → IsOwed (apply (replay (opening f) es) e)
    → IsLegal f scripts (es ++ e ∷ []) ls
legal_entry f scripts es ls e h ok span owes =
    let len : length (es ++ e ∷ []) ≡ length es + 1 = length-append es (e ∷ []) in
    record {
      entries = λ i d lt. elim (cases_lt i (length es)) [
        | inl below ↦ subst (λ w. EntryHolds scripts w (get_or (es ++ e ∷ []) i d)) (sym (world_before f es e i (omega arith)))
            (subst (EntryHolds scripts (world_at f es i)) (sym (get_or_append_left es (e ∷ []) d i below)) (h.entries i d below))
        | inr above ↦ let at_end : length es ≡ i = omega arith in
            subst (λ k. EntryHolds scripts (world_at f (es ++ e ∷ []) k) (get_or (es ++ e ∷ []) k d)) at_end
            (subst (EntryHolds scripts (world_at f (es ++ e ∷ []) (length es))) (sym (get_or_push es e d (length es) refl))
            (subst (λ w. EntryHolds scripts w e) (sym (world_before f es e (length es) (omega arith) ∙ world_end f es)) ok))
      ];
      answers = λ i d lt. elim (cases_lt i (length es)) [
        | inl below ↦ subst (λ past. AnswersHold f past (get_or (es ++ e ∷ []) i d)) (sym (take-append-le i es (e ∷ []) (omega arith)))
            (subst (AnswersHold f (take i es)) (sym (get_or_append_left es (e ∷ []) d i below)) (h.answers i d below))
        | inr above ↦ let at_end : length es ≡ i = omega arith in
            subst (λ k. AnswersHold f (take k (es ++ e ∷ [])) (get_or (es ++ e ∷ []) k d)) at_end
            (subst (AnswersHold f (take (length es) (es ++ e ∷ []))) (sym (get_or_push es e d (length es) refl))
            (subst (λ past. AnswersHold f past e) (sym (take-append-le (length es) es (e ∷ []) (omega arith) ∙ take-length es)) span))
      ];
      owed = λ m le. elim (cases_lt m (length es + 1)) [
        | inl below ↦ subst IsOwed (sym (world_before f es e m (omega arith))) (h.owed m (omega arith))
        | inr above ↦ let at_end : length (es ++ e ∷ []) ≤ m = omega arith in
            subst IsOwed (sym (ap (replay (opening f)) (take_all m (es ++ e ∷ []) at_end) ∙ replay_push (opening f) es e)) owes
      ];
      places = record { within = λ k d lt. let le = h.places.within k d lt in omega arith; never_fall = h.places.never_fall };
      events = λ k d lt. subst (λ w. EventHolds w (take k ls) (get_or ls k d)) (sym (world_before f es e (get_or ls k d).place (h.places.within k d lt))) (h.events k d lt);
    }

-- ONE MORE EVENT, behind all entries
pub legal_event : (f : Tables) (scripts : List (List ℕ)) (es : List Entry) (ls : List Locked) (e : Locked)
    → e.place ≡ length es → EventHolds (replay (opening f) es) ls e → IsLegal f scripts es ls → IsLegal f scripts es (ls ++ e ∷ [])
legal_event f scripts es ls e at ok h =
    let len : length (ls ++ e ∷ []) ≡ length ls + 1 = length-append ls (e ∷ []) in
    let within : (k : ℕ) (d : Locked) → k < length (ls ++ e ∷ []) → (get_or (ls ++ e ∷ []) k d).place ≤ length es = λ k d lt. elim (cases_lt k (length ls)) [
      | inl below ↦ subst (λ (x : Locked). x.place ≤ length es) (sym (get_or_append_left ls (e ∷ []) d k below)) (h.places.within k d below)
      | inr above ↦ subst (λ (x : Locked). x.place ≤ length es) (sym (get_or_push ls e d k (omega arith))) (omega arith)
    ] in
    record {
      entries = h.entries;
      answers = h.answers;
      owed = h.owed;
      places = record {
        within = within;
        never_fall = λ k d lt. elim (cases_lt (k + 1) (length ls)) [
          | inl below ↦ subst (λ (x : Locked). x.place ≤ (get_or (ls ++ e ∷ []) (k + 1) d).place) (sym (get_or_append_left ls (e ∷ []) d k (omega arith)))
              (subst (λ (x : Locked). (get_or ls k d).place ≤ x.place) (sym (get_or_append_left ls (e ∷ []) d (k + 1) below)) (h.places.never_fall k d below))
          | inr above ↦ subst (λ (x : Locked). (get_or (ls ++ e ∷ []) k d).place ≤ x.place) (sym (get_or_push ls e d (k + 1) (omega arith)))
              (let le = within k d (omega arith) in omega arith)
        ];
      };
      events = λ k d lt. elim (cases_lt k (length ls)) [
        | inl below ↦ subst (λ (x : Locked). EventHolds (world_at f es x.place) (take k (ls ++ e ∷ [])) x) (sym (get_or_append_left ls (e ∷ []) d k below))
            (subst (λ past. EventHolds (world_at f es (get_or ls k d).place) past (get_or ls k d)) (sym (take-append-le k ls (e ∷ []) (omega arith))) (h.events k d below))
        | inr above ↦ let at_end : length ls ≡ k = omega arith in
            subst (λ n. EventHolds (world_at f es (get_or (ls ++ e ∷ []) n d).place) (take n (ls ++ e ∷ [])) (get_or (ls ++ e ∷ []) n d)) at_end
            (subst (λ (x : Locked). EventHolds (world_at f es x.place) (take (length ls) (ls ++ e ∷ [])) x) (sym (get_or_push ls e d (length ls) refl))
            (subst (λ past. EventHolds (world_at f es e.place) past e) (sym (take-append-le (length ls) ls (e ∷ []) (omega arith) ∙ take-length ls))
            (subst (λ w. EventHolds w ls e) (sym (ap (world_at f es) at ∙ world_end f es)) ok)))
      ];
    }

-- What is printed of a journal so far, and what is left of it.
use Rattle.std.proofs.Common.{◌≡◌, ◌+◌, ◌-◌, ◌<◌, ℕ, suc, List, ◌∷◌, ◌++◌, length, drop, get_or, sym, ap, ◌∙◌, append_assoc, arith}
use Rattle.std.proofs.lemmas.List.{drop_more}
use Rattle.journal_model.specs.declared.journal.Entry.{Entry}
use Rattle.journal_model.specs.Text.{Waiting, waiting_after, printed_at, statements_text, connection_text, connections_text}

-- one entry more
pub heard-more : (printed all : List ℕ) (c : ℕ) (w next : Waiting) (es : List Entry) (i : ℕ) (e : Entry) → i < length es → e ≡ get_or es i e → next ≡ waiting_after c w e
    → printed ++ statements_text c w (drop i es) ≡ all → (printed ++ printed_at c w e) ++ statements_text c next (drop (i + 1) es) ≡ all
heard-more printed all c w next es i e lt is after h =
    append_assoc printed (printed_at c w e) (statements_text c next (drop (i + 1) es))
    ∙ ap (λ v. printed ++ (printed_at c w e ++ statements_text c v (drop (i + 1) es))) after
    ∙ ap (λ xs. printed ++ statements_text c w xs) (sym (drop_more es i e lt ∙ ap (λ x. x ∷ drop (i + 1) es) (sym is))) ∙ h

-- one connection more
pub connection-more : (printed all : List ℕ) (es : List Entry) (c n : ℕ) → c < n
    → printed ++ connections_text es (c + 1) (n - c) ≡ all → (printed ++ connection_text es (c + 1)) ++ connections_text es (c + 1 + 1) (n - (c + 1)) ≡ all
connection-more printed all es c n lt h =
    let more : n - c ≡ suc (n - (c + 1)) = omega arith in
    append_assoc printed (connection_text es (c + 1)) (connections_text es (c + 1 + 1) (n - (c + 1)))
    ∙ ap (λ k. printed ++ connections_text es (c + 1) k) (sym more) ∙ h

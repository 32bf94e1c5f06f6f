-- What is printed of a journal so far, and what is left of it.
use Rattle.std.proofs.Common.{◌≡◌, ◌+◌, ◌-◌, ◌<◌, ℕ, suc, List, ◌∷◌, ◌++◌, length, drop, get_or, sym, ap, ◌∙◌, append_assoc, arith}
use Rattle.std.proofs.lemmas.List.{drop_more}
use Rattle.std.proofs.Common.{Bool, Option, Some, None, refl}
use Rattle.sql_forms.specs.declared.form.Form.{Form}
use Rattle.sql_commands.specs.declared.command.Command.{Command}
use Rattle.sql_commands.specs.declared.command.Command.TheVariants.{Commit, Rollback, Autocommit, SetIsolation}
use Rattle.session_model.specs.Orders.{order_from}
use Rattle.session_model.specs.World.{after_answered}
use Rattle.journal_model.specs.declared.journal.Entry.{Entry}
use Rattle.session_text.specs.Text.{Hearing, hearing_after, printed_at, statements_text, connection_text, connections_text}

-- one entry more
pub heard-more : (printed all : List ℕ) (c : ℕ) (w next : Hearing) (es : List Entry) (i : ℕ) (e : Entry) → i < length es → e ≡ get_or es i e → next ≡ hearing_after c w e
    → printed ++ statements_text c w (drop i es) ≡ all → (printed ++ printed_at c w e) ++ statements_text c next (drop (i + 1) es) ≡ all
heard-more printed all c w next es i e lt is after h =
    append_assoc printed (printed_at c w e) (statements_text c next (drop (i + 1) es))
    ∙ ap (λ v. printed ++ (printed_at c w e ++ statements_text c v (drop (i + 1) es))) after
    ∙ ap (λ xs. printed ++ statements_text c w xs) (sym (drop_more es i e lt ∙ ap (λ x. x ∷ drop (i + 1) es) (sym is))) ∙ h

-- one connection more
pub connection-more : (printed all : List ℕ) (es : List Entry) (c n : ℕ) → c < n
    → printed ++ connections_text es (c + 1) (n - c) ≡ all → (printed ++ connection_text es (c + 1)) ++ connections_text es (c + 1 + 1) (n - (c + 1)) ≡ all
connection-more printed all es c n lt h =
    let more : n - c ≡ suc (n - (c + 1)) = omega arith in
    append_assoc printed (connection_text es (c + 1)) (connections_text es (c + 1 + 1) (n - (c + 1)))
    ∙ ap (λ k. printed ++ connections_text es (c + 1) k) (sym more) ∙ h

-- only a text's command tells where its answer is told
pub end_is : (c : Option Command) (f : Option Form) (automatic first : Bool) → after_answered (order_from c None) automatic first ≡ after_answered (order_from c f) automatic first
end_is (Some Commit) f automatic first = refl
end_is (Some Rollback) f automatic first = refl
end_is (Some (Autocommit on)) f automatic first = refl
end_is (Some (SetIsolation level)) f automatic first = refl
end_is None None automatic first = refl
end_is None (Some f) automatic first = refl

use Rattle.std.proofs.Common.{ℕ, pos, List, [], ◌∷◌, ◌++◌, ap, ◌∙◌}
use Rattle.dby_types.specs.declared.value.Value.{Value}
use Rattle.dby_types.specs.declared.value.Value.TheVariants.{Num, Text}
use Rattle.row_codec.proofs.tests.worked_row.Goals as goal

pub returns : goal.returns
returns c =
    c.in_ok-push-2.ensures.ok ∙ ap (λ (s : List Value). s ++ Text c.in_ok-copy_text.field-0 ∷ []) (c.in_ok-push.ensures.ok ∙ ap (λ (s : List Value). s ++ Num (pos 7) ∷ []) c.new-row.ensures)
    ∙ ap (λ (t : List ℕ). Num (pos 7) ∷ Text t ∷ []) c.in_ok-copy_text.ensures

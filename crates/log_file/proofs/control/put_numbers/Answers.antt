use Rattle.std.proofs.Common.{◌∙◌, ap, ℕ, List}
use Rattle.dby_bytes.specs.Numbers.{with_number}
use Rattle.log_file.specs.Control.{control_numbers}
use Rattle.log_file.proofs.control.put_numbers.Goals as goal

pub returns : goal.returns
unfolding control_numbers
returns c =
    c.put_u32-4.ensures.exact ∙ ap (λ (l : List ℕ). with_number 4 l 44 c.args.point.offset) (c.put_u32-3.ensures.exact ∙ ap (λ (l : List ℕ). with_number 4 l 40 c.args.point.segment)
    (c.put_u32-2.ensures.exact ∙ ap (λ (l : List ℕ). with_number 4 l 36 c.args.next) (c.put_u32.ensures.exact ∙ ap (λ (l : List ℕ). with_number 4 l 32 1) c.clear.ensures)))

use Rattle.std.proofs.Common.{◌∙◌, ap, ℕ, replicate}
use Rattle.log_file.specs.Control.{blank}
use Rattle.log_file.proofs.control.clear.Goals as goal

pub returns : goal.returns
unfolding blank
returns c = c.fill.ensures.after (λ y e. e) ∙ ap (λ (n : ℕ). replicate {A = ℕ} n 0) c.told-page

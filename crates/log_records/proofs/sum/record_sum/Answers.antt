use Rattle.std.proofs.Common.{◌∙◌, ap, List, ℕ}
use Rattle.dby_bytes.specs.Numbers.{number_at}
use Rattle.log_records.specs.Sum.{sum_of}
use Rattle.log_records.proofs.sum.record_sum.Goals as goal

pub returns : goal.returns
unfolding sum_of
returns c = c.get_u64.ensures.exact ∙ ap (λ (d : List ℕ). number_at 8 d 0) c.digest.ensures

use Rattle.std.proofs.Common.{◌≡◌, ◌≤◌, take, length}
use Rattle.value_compare.specs.Text.{trimmed_text}
use Rattle.value_compare.proofs.text.trimmed_len.Given as goal

abbrev pub invariant-back : goal.invariant-back
invariant-back l = record {
  within : l.n ≤ length l.text;
  same : trimmed_text (take l.n l.text) ≡ trimmed_text l.text;
}

abbrev pub decreases-back : goal.decreases-back
decreases-back l = l.n

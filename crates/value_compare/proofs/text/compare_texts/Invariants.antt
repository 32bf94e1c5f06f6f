use Rattle.std.proofs.Common.{◌≡◌, drop}
use Rattle.value_compare.specs.Text.{text_cmp}
use Rattle.value_compare.proofs.text.compare_texts.Given as goal

abbrev pub invariant-loop-i : goal.invariant-loop-i
invariant-loop-i l = text_cmp (drop l.i l.a) (drop l.i l.b) ≡ text_cmp l.a l.b

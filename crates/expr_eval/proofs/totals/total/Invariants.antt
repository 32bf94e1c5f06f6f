use Rattle.std.proofs.Common.{◌≡◌, pos, drop}
use Rattle.expr_model.specs.Totals.{total_from}
use Rattle.expr_eval.specs.Totals.{IsWithin}
use Rattle.expr_eval.proofs.totals.total.Given as goal

abbrev pub invariant-loop-value : goal.invariant-loop-value
invariant-loop-value l = record {
  so_far : total_from l.sum (drop l.value-index l.values) ≡ total_from (pos 0) l.values;
  within : IsWithin l.value-index l.sum;
}

use Rattle.std.proofs.Common.{◌≡◌, drop}
use Rattle.std.specs.List.{fold}
use Rattle.dby_types.specs.declared.value.Value.TheVariants.{Null}
use Rattle.expr_model.specs.Totals.{lesser}
use Rattle.expr_eval.proofs.totals.least.Given as goal

abbrev pub invariant-loop-value : goal.invariant-loop-value
invariant-loop-value l = fold lesser l.best (drop l.value-index l.values) ≡ fold lesser Null l.values

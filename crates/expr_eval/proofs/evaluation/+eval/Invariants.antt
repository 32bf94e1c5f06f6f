use Rattle.std.proofs.Common.{◌≡◌, false, drop}
use Rattle.dby_types.specs.declared.value.Value.TheVariants.{Bool as Truth}
use Rattle.expr_model.specs.Expression.{any_equal_in, columns_from}
use Rattle.expr_model.specs.declared.evaluated.Evaluated.TheVariants.{Value as Gives}
use Rattle.value_compare.specs.Logic.{is_true}
use Rattle.expr_eval.proofs.evaluation.+eval.Given as goal

abbrev pub invariant-eval_members-loop-member : goal.invariant-eval_members-loop-member
invariant-eval_members-loop-member l = record {
  open_still : is_true l.found ≡ false;
  so_far : any_equal_in (Gives l.found) l.x (drop l.member-index l.members) (columns_from l.at l.row)
      ≡ any_equal_in (Gives (Truth false)) l.x l.members (columns_from l.at l.row);
}

use Rattle.std.proofs.Common.{◌≢◌, length, rules, ◌∙◌}
use Rattle.expr_model.proofs.TotalLemmas.{sum_of-known}
use Rattle.expr_model.specs.Totals.{known}
use Rattle.expr_eval.proofs.totals.sum.Goals as goal

pub returns-else-count-eq0 : goal.returns-else-count-eq0
returns-else-count-eq0 c =
    let some : length (known c.args.values.now) ≢ 0 = λ e. c.if-count-eq0.false (c.count.ensures.exact ∙ e) in
    rw (sum_of-known c.args.ty c.args.values.now some) (search rules)

use Rattle.std.proofs.Common.{rules, sym, ap, ◌∙◌}
use Rattle.expr_model.specs.Expression.{columns_from}
use Rattle.expr_model.proofs.MemberLemmas.{any_equal-row, members-refused, members-found}
use Rattle.sql_ast.specs.declared.bound.Node.{the_lemmas}
use Rattle.value_compare.specs.Logic.{or_of}
use Rattle.expr_eval.proofs.evaluation.+eval.Goals as goal

pub eval_at-returns-in-Sql-11 : goal.eval_at-returns-in-Sql-11
eval_at-returns-in-Sql-11 t c = search (rules, the_lemmas, any_equal-row)

pub eval_at-returns-in-In : goal.eval_at-returns-in-In
eval_at-returns-in-In t c = search (rules, the_lemmas, any_equal-row)

pub eval_members-returns-in-Sql : goal.eval_members-returns-in-Sql
eval_members-returns-in-Sql t c =
    members-refused c.loop-member.found c.args.x.now c.args.members.now c.loop-member.member-index c.member-item.result
    (columns_from c.args.at c.args.row.now) c.in-Sql.why _ c.loop-member-test.true c.member-item.is
    c.loop-member.invariant.open_still (sym c.in_ok-value.ensures ∙ c.in-Sql.is) c.loop-member.invariant.so_far

pub eval_members-returns-then-is_true : goal.eval_members-returns-then-is_true
eval_members-returns-then-is_true t c =
    members-found c.loop-member.found c.args.x.now c.in-Value.value c.or-found.result c.args.members.now
    c.loop-member.member-index c.member-item.result (columns_from c.args.at c.args.row.now) _ c.loop-member-test.true
    c.member-item.is c.loop-member.invariant.open_still (sym c.in_ok-value.ensures ∙ c.in-Value.is)
    (c.or-found.ensures ∙ ap (or_of c.loop-member.found) c.comparison.ensures) (sym c.is_true.ensures ∙ c.if-is_true.true)
    c.loop-member.invariant.so_far

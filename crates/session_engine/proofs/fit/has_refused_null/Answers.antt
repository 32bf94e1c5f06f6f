use Rattle.std.proofs.Common.{sym, ◌∙◌, arith}
use Rattle.session_engine.proofs.FitLemmas.{has_null-end}
use Rattle.session_engine.proofs.fit.has_refused_null.Goals as goal

pub returns : goal.returns
returns c = sym (has_null-end c.args.columns.now c.args.row.now c.loop-i.i (omega arith)) ∙ c.loop-i.invariant

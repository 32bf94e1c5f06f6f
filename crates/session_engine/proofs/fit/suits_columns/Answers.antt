use Rattle.std.proofs.Common.{sym}
use Rattle.session_engine.proofs.FitLemmas.{suits-lengths}
use Rattle.session_engine.proofs.fit.suits_columns.Goals as goal

pub returns-then-columns-row-clause-exact : goal.returns-then-columns-row-clause-exact
returns-then-columns-row-clause-exact c = sym (suits-lengths c.args.columns.now c.args.row.now c.if-columns-row.true)

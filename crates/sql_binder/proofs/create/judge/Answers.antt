use Rattle.sql_binder.proofs.Plain.{judged}
use Rattle.sql_binder.proofs.create.judge.Goals as goal

pub returns : goal.returns
returns c = judged _ _ _ _ _ c.args.columns.now _ _ c.as_slice.ensures.value c.in_ok-lent.ensures c.in_ok-twice.ensures c.keep_unless.ensures c.keep_unless-2.ensures c.is_short.ensures c.keep_unless-3.ensures

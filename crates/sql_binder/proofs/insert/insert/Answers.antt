use Rattle.sql_binder.proofs.Changing.{inserts}
use Rattle.sql_binder.proofs.insert.insert.Goals as goal

pub returns : goal.returns
returns g c = inserts _ _ _ _ _ _ _ _ _ _ _ _ c.in_ok-target.ensures c.in_ok-spots.ensures c.as_slice.ensures.value c.in_ok-tuples.ensures c.in_ok-judge_names.ensures

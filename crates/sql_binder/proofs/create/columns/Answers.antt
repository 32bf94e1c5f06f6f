use Rattle.sql_binder.proofs.Plain.{columns_end}
use Rattle.sql_binder.proofs.create.columns.Goals as goal

pub returns : goal.returns
returns c = columns_end _ _ _ c.requires.built c.loop-part-test.false c.loop-part.invariant.so_far

use Rattle.sql_binder.proofs.Plain.{created}
use Rattle.sql_binder.proofs.create.create.Goals as goal

pub returns : goal.returns
returns g c = created (g.D.Catalog.dictionary c.args.d.now) c.args.name.now c.args.parts.now _ _ _ _ _ _ c.requires.built c.judge_name.ensures c.in_ok-columns.ensures c.as_slice.ensures c.in_ok-judge.ensures c.in_ok-copy_text.ensures c.new.ensures

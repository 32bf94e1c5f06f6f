use Rattle.sql_model.proofs.Changing.{updates_apart, deletes_apart}
use Rattle.sql_model.proofs.laws.changes_do_not_meet.Goals as goal

pub returns : goal.returns
returns c = record { updates = updates_apart; deletes = deletes_apart }

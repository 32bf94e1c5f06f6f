use Rattle.lock_modes.proofs.EscalationLemmas.{rows_given_back}
use Rattle.lock_modes.proofs.laws.rows_are_given_back.Goals as goal

pub returns : goal.returns
returns c = rows_given_back

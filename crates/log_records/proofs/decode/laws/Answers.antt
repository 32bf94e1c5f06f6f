use Rattle.log_records.proofs.OneLemmas.{one_record}
use Rattle.log_records.proofs.decode.laws.Goals as goal

pub returns : goal.returns
returns c = one_record

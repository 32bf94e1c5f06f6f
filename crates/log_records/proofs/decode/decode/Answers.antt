use Rattle.log_records.proofs.WholeLemmas.{begins_whole}
use Rattle.log_records.proofs.decode.decode.Goals as goal

pub returns-in_default : goal.returns-in_default
returns-in_default c = λ r rest h. c.in_default.ensures _ (begins_whole c.args.at c.args.b.now r rest h)

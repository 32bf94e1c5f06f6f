use Rattle.log_records.specs.Sum.{digest_of}
use Rattle.log_records.proofs.sum.digest.Goals as goal

pub returns : goal.returns
unfolding digest_of
returns c = c.digest.ensures

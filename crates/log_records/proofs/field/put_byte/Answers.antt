use Rattle.std.proofs.Math.Facts.{Fits-lt-pow}
use Rattle.log_records.proofs.ByteLemmas.{set-number}
use Rattle.log_records.proofs.field.put_byte.Goals as goal

pub returns : goal.returns
returns c = set-number c.args.b.now c.args.at c.args.v c.requires (Fits-lt-pow c.ranges.v)

use Rattle.std.proofs.Common.{arith}
use Rattle.log_records.specs.View.{record_of}
use Rattle.log_file.proofs.Records.{longest}
use Rattle.log_file.proofs.read.judged.Goals as goal

pub place_after-requires : goal.place_after-requires
place_after-requires c = omega (arith, longest c.args.at c.args.bytes.now (record_of c.in-Some.r) _ c.in-Some.ensures.0, c.in-Some.ensures.1)

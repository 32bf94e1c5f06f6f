use Rattle.row_codec.proofs.ReadLemmas.{no_truth}
use Rattle.row_codec.proofs.read.read_truth.Goals as goal

pub returns-then-b-gt1 : goal.returns-then-b-gt1
returns-then-b-gt1 c = record { exact = λ v h. no_truth c.args.b.now v c.requires.flag c.if-b-gt1.true h }

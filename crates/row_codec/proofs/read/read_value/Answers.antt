use Rattle.std.proofs.Common.{refl}
use Rattle.std.proofs.lemmas.Bool.{false≢true}
use Rattle.row_codec.proofs.ReadLemmas.{null_read, no_value}
use Rattle.row_codec.proofs.read.read_value.Goals as goal

pub returns-then-is_zero : goal.returns-then-is_zero
returns-then-is_zero c = record { exact = null_read c.args.ty c.args.b.now c.requires (c.if-is_zero.ensures.exact.0 refl) }

pub returns : goal.returns
returns c = record { exact = λ v h. no_value c.args.ty c.args.b.now v c.if-b-eq1.false (λ each. false≢true (c.if-is_zero.ensures.exact.1 each)) h }

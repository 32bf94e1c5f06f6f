use Rattle.std.proofs.Common.{refl}
use Rattle.std.proofs.lemmas.Bool.{false≢true}
use Rattle.dby_bytes.proofs.NumbersLemmas.{IsBytes-from_fits}
use Rattle.log_records.proofs.BodyLemmas.{next_text, next_is}
use Rattle.log_records.proofs.bodies.read_next_segment.Goals as goal

pub returns-then-not-is_next_segment : goal.returns-then-not-is_next_segment
returns-then-not-is_next_segment c = λ x h. false≢true (c.if-not-is_next_segment.ensures.1 (next_text c.args.at c.args.b.now x h))

pub returns : goal.returns
returns c = next_is c.args.at c.args.b.now _ (IsBytes-from_fits c.args.b.now c.type_inv.b) (c.if-not-is_next_segment.ensures.0 refl) c.get_u32.ensures.exact

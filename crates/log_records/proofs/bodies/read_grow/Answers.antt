use Rattle.std.proofs.Common.{refl}
use Rattle.std.proofs.lemmas.Bool.{false≢true}
use Rattle.dby_bytes.proofs.NumbersLemmas.{IsBytes-from_fits}
use Rattle.log_records.proofs.BodyLemmas.{grow_text, grow_is}
use Rattle.log_records.proofs.bodies.read_grow.Goals as goal

pub returns-then-not-is_grow : goal.returns-then-not-is_grow
returns-then-not-is_grow c = λ at. λ x h. false≢true (c.if-not-is_grow.ensures.1 (grow_text at c.args.b.now x h))

pub returns : goal.returns
returns c = λ at. grow_is at c.args.b.now _ _ _ (IsBytes-from_fits c.args.b.now c.type_inv.b) (c.if-not-is_grow.ensures.0 refl) c.get_u32.ensures.exact c.get_u32-2.ensures.exact c.get_byte.ensures

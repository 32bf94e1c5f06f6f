use Rattle.std.proofs.Common.{refl}
use Rattle.std.proofs.lemmas.Bool.{false≢true}
use Rattle.dby_bytes.proofs.NumbersLemmas.{IsBytes-from_fits}
use Rattle.log_records.proofs.BodyLemmas.{purge_text, purge_is}
use Rattle.log_records.proofs.bodies.read_purge.Goals as goal

pub returns-then-not-is_purge : goal.returns-then-not-is_purge
returns-then-not-is_purge c = λ at. λ x h. false≢true (c.if-not-is_purge.ensures.1 (purge_text at c.args.b.now x h))

pub returns : goal.returns
returns c = λ at. purge_is at c.args.b.now _ _ _ (IsBytes-from_fits c.args.b.now c.type_inv.b) (c.if-not-is_purge.ensures.0 refl) c.get_u32.ensures.exact c.get_u32-2.ensures.exact c.get_u16.ensures.exact

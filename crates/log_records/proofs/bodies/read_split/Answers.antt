use Rattle.std.proofs.Common.{◌-◌, length, drop, refl, arith, length-drop}
use Rattle.std.proofs.lemmas.Bool.{false≢true}
use Rattle.std.proofs.lemmas.List.{take_all}
use Rattle.dby_bytes.proofs.NumbersLemmas.{IsBytes-from_fits}
use Rattle.log_records.proofs.BodyLemmas.{split_text, split_is}
use Rattle.log_records.proofs.bodies.read_split.Goals as goal

pub returns-then-not-is_split : goal.returns-then-not-is_split
returns-then-not-is_split c = λ at. λ x h. false≢true (c.if-not-is_split.ensures.1 (split_text at c.args.b.now x h))

pub returns : goal.returns
returns c = λ at. split_is at c.args.b.now _ _ _ (IsBytes-from_fits c.args.b.now c.type_inv.b) (c.if-not-is_split.ensures.0 refl) c.get_u32.ensures.exact c.get_byte.ensures (take_all (length c.args.b.now - 5) (drop 5 c.args.b.now) (omega (arith, length-drop 5 c.args.b.now)))

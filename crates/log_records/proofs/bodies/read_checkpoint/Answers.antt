use Rattle.std.proofs.Common.{◌-◌, length, drop, refl, arith, length-drop}
use Rattle.std.proofs.lemmas.Bool.{false≢true}
use Rattle.std.proofs.lemmas.List.{take_all}
use Rattle.dby_bytes.proofs.NumbersLemmas.{IsBytes-from_fits}
use Rattle.log_records.proofs.BodyLemmas.{mark_text, mark_is}
use Rattle.log_records.proofs.bodies.read_checkpoint.Goals as goal

pub returns-then-not-is_mark : goal.returns-then-not-is_mark
returns-then-not-is_mark c = λ x h. false≢true (c.if-not-is_mark.ensures.1 (mark_text c.args.at c.args.b.now x h))

pub returns : goal.returns
returns c = mark_is c.args.at c.args.b.now _ _ _ _ _ (IsBytes-from_fits c.args.b.now c.type_inv.b) (c.if-not-is_mark.ensures.0 refl) c.get_lsn.ensures c.get_u32.ensures.exact c.get_u64.ensures.exact c.get_u16.ensures.exact (take_all (length c.args.b.now - 22) (drop 22 c.args.b.now) (omega (arith, length-drop 22 c.args.b.now)))

use Rattle.std.proofs.Common.{refl}
use Rattle.std.proofs.lemmas.Bool.{false≢true}
use Rattle.dby_bytes.proofs.NumbersLemmas.{IsBytes-from_fits}
use Rattle.log_records.proofs.ChangeLemmas.{discard_text, discard_is}
use Rattle.log_records.proofs.changes.read_discard.Goals as goal

pub returns-then-not-is_discard : goal.returns-then-not-is_discard
returns-then-not-is_discard c = λ x h. false≢true (c.if-not-is_discard.ensures.1 (discard_text c.args.b.now x h))

pub returns : goal.returns
returns c =
    discard_is c.args.b.now _ (IsBytes-from_fits c.args.b.now c.type_inv.b) (c.if-not-is_discard.ensures.0 refl) c.get_u32.ensures.exact

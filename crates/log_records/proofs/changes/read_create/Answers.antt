use Rattle.std.proofs.Common.{refl}
use Rattle.std.proofs.lemmas.Bool.{false≢true}
use Rattle.dby_bytes.proofs.NumbersLemmas.{IsBytes-from_fits}
use Rattle.log_records.proofs.ChangeLemmas.{create_text, create_is, truth_is}
use Rattle.log_records.proofs.changes.read_create.Goals as goal

pub returns-then-not-is_create : goal.returns-then-not-is_create
returns-then-not-is_create c = λ x h. false≢true (c.if-not-is_create.ensures.1 (create_text c.args.b.now x h))

pub returns : goal.returns
returns c =
    create_is c.args.b.now _ _ (IsBytes-from_fits c.args.b.now c.type_inv.b) (c.if-not-is_create.ensures.0 refl) c.get_u32.ensures.exact (truth_is _ _ c.get_byte.ensures (c.if-not-is_create.ensures.0 refl).2)

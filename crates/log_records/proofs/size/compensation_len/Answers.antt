use Rattle.std.proofs.Common.{arith}
use Rattle.log_records.specs.Format.{base_fields}
use Rattle.log_records.specs.View.{base_of}
use Rattle.log_records.proofs.FieldLemmas.{length-field_bytes}
use Rattle.log_records.proofs.size.compensation_len.Goals as goal

pub returns : goal.returns
returns c = λ h.
    let len = length-field_bytes (base_fields (base_of c.args.b.now)) in
    let inner = c.base_len.ensures (omega (arith, len, h)) in
    omega arith

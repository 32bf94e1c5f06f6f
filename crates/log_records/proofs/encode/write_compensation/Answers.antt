use Rattle.std.proofs.Common.{arith}
use Rattle.log_records.specs.Format.{base_fields}
use Rattle.log_records.specs.View.{base_of}
use Rattle.log_records.proofs.FieldLemmas.{length-field_bytes}
use Rattle.log_records.proofs.encode.write_compensation.Goals as goal

pub put_base-requires-clause-room : goal.put_base-requires-clause-room
put_base-requires-clause-room c = omega (arith, length-field_bytes (base_fields (base_of c.args.base.now)))

pub put_base-requires-clause-short : goal.put_base-requires-clause-short
put_base-requires-clause-short c = omega (arith, length-field_bytes (base_fields (base_of c.args.base.now)))

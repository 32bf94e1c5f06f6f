use Rattle.log_records.specs.Format.{base_fields}
use Rattle.log_records.specs.View.{base_of}
use Rattle.log_records.proofs.EncodeLemmas.{part_written}
use Rattle.log_records.proofs.encode.put_base.Goals as goal

pub returns-clause-exact : goal.returns-clause-exact
returns-clause-exact c = part_written (base_fields (base_of c.args.b.now)) c.args.into.now _ c.args.at c.requires.room c.write_base.ensures.exact

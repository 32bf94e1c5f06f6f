use Rattle.log_records.specs.Format.{body_fields}
use Rattle.log_records.specs.View.{body_of}
use Rattle.log_records.proofs.EncodeLemmas.{part_written}
use Rattle.log_records.proofs.encode.put_body.Goals as goal

pub returns-clause-exact : goal.returns-clause-exact
returns-clause-exact c = part_written (body_fields (body_of c.args.b.now)) c.args.into.now _ 40 c.requires.room c.write_body.ensures.exact

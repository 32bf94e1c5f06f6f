use Rattle.row_codec.proofs.WriteLemmas.{null_written, truth_written}
use Rattle.row_codec.proofs.write.write_value.Goals as goal

pub returns-in-Null : goal.returns-in-Null
returns-in-Null c = record { exact = null_written c.args.ty c.args.value.now c.args.into.now c.fill.new.self c.in-Null.is c.requires.room (c.fill.ensures.after (λ y h. h)) }

pub returns-in-Bool : goal.returns-in-Bool
returns-in-Bool c = record { exact = truth_written c.args.ty c.args.value.now c.in-Bool.b c.args.into.now c.from.result c.in-Bool.is c.requires.fits c.requires.room c.from.ensures }

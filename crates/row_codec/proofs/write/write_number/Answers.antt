use Rattle.row_codec.proofs.WriteLemmas.{small_written, int_written, big_written}
use Rattle.row_codec.proofs.write.write_number.Goals as goal

pub returns-in-Small : goal.returns-in-Small
returns-in-Small c = record { exact = small_written c.args.ty c.args.n c.args.into.now c.put_u16.new.b c.cast_unsigned.result c.in-Small.is c.requires.fits c.requires.room c.ranges.n c.cast_unsigned.ensures c.put_u16.ensures.exact }

pub returns-in-Int : goal.returns-in-Int
returns-in-Int c = record { exact = int_written c.args.ty c.args.n c.args.into.now c.put_u32.new.b c.cast_unsigned-in-Int.result c.in-Int.is c.requires.fits c.requires.room c.ranges.n c.cast_unsigned-in-Int.ensures c.put_u32.ensures.exact }

pub returns-in-Big : goal.returns-in-Big
returns-in-Big c = record { exact = big_written c.args.ty c.args.n c.args.into.now c.put_u64.new.b c.cast_unsigned-in-Big.result c.in-Big.is c.requires.room c.ranges.n c.cast_unsigned-in-Big.ensures c.put_u64.ensures.exact }

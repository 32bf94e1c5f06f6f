use Rattle.dby_bytes.proofs.NumbersLemmas.{IsBytes-from_fits}
use Rattle.row_codec.proofs.ReadLemmas.{small_read, int_read, big_read}
use Rattle.row_codec.proofs.read.read_field.Goals as goal

pub returns-in-Small : goal.returns-in-Small
returns-in-Small c = record { exact = small_read c.args.ty c.args.b.now c.get_u16.result c.cast_signed.result c.from.result c.in-Small.is (IsBytes-from_fits c.args.b.now c.type_inv.b) c.requires.room c.requires.flag c.get_u16.ensures.exact c.get_u16.type_inv c.cast_signed.ensures (record { sfits = c.cast_signed.type_inv }) (record { sfits = c.from.type_inv }) c.from.ensures }

pub returns-in-Int : goal.returns-in-Int
returns-in-Int c = record { exact = int_read c.args.ty c.args.b.now c.get_u32.result c.cast_signed-in-Int.result c.from-in-Int.result c.in-Int.is (IsBytes-from_fits c.args.b.now c.type_inv.b) c.requires.room c.requires.flag c.get_u32.ensures.exact c.get_u32.type_inv c.cast_signed-in-Int.ensures (record { sfits = c.cast_signed-in-Int.type_inv }) (record { sfits = c.from-in-Int.type_inv }) c.from-in-Int.ensures }

pub returns-in-Big : goal.returns-in-Big
returns-in-Big c = record { exact = big_read c.args.ty c.args.b.now c.get_u64.result c.cast_signed-in-Big.result c.in-Big.is (IsBytes-from_fits c.args.b.now c.type_inv.b) c.requires.room c.requires.flag c.get_u64.ensures.exact c.get_u64.type_inv c.cast_signed-in-Big.ensures (record { sfits = c.cast_signed-in-Big.type_inv }) }

use Rattle.std.proofs.Common.{◌-◌, length, drop, refl, arith, length-drop}
use Rattle.std.proofs.lemmas.List.{take_all}
use Rattle.log_records.proofs.BodyLemmas.{mark_told}
use Rattle.log_records.proofs.texts.is_mark.Goals as goal

pub returns-then-is_next : goal.returns-then-is_next
returns-then-is_next c =
    mark_told c.args.at c.args.b.now _ c.get_u16-count.result c.get_u32.result c.get_u64.result c.are_open.result (omega arith) (omega arith) c.get_u16-count.ensures.exact c.get_u32.ensures.exact c.get_u64.ensures.exact
    (c.if-is_next.ensures.0 refl) (take_all (length c.args.b.now - 22) (drop 22 c.args.b.now) (omega (arith, length-drop 22 c.args.b.now))) c.are_open.ensures

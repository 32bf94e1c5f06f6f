use Rattle.std.proofs.Common.{◌∙◌, ap, arith, length, List, ℕ, take, drop, ◌++◌, ◌+◌}
use Rattle.device_mem.proofs.Pasting.{overwritten}
use Rattle.device_mem.proofs.segments.overwrite.Goals as goal

pub returns-clause-yes : goal.returns-clause-yes
returns-clause-yes c = λ yes.
    overwritten c.args.bytes.now.items c.grow.new.bytes.items c.paste.new.bytes c.args.from.now c.args.at c.grow.new.bytes.len (c.grow.ensures.yes c.if-not-grow.false) (omega arith)
    (c.paste.ensures ∙ ap (λ (l : List ℕ). take c.args.at l ++ (c.args.from.now ++ drop (c.args.at + length c.args.from.now) l)) c.as_mut_slice.ensures.value)

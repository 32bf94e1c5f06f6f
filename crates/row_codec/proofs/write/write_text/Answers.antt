use Rattle.std.proofs.Common.{◌+◌, ◌-◌, ◌++◌, ℕ, List, take, drop, length, ap, ◌∙◌}
use Rattle.row_codec.proofs.WriteLemmas.{text_written}
use Rattle.row_codec.proofs.write.write_text.Goals as goal

pub returns : goal.returns
returns c =
    record {
      exact =
          ap (λ (m : List ℕ). take 3 c.put_u16.new.b ++ (m ++ drop (3 + length c.args.text.now - 3) (drop 3 c.put_u16.new.b))) c.copy_from_slice.ensures.after
          ∙ text_written c.args.ty c.args.text.now c.args.into.now c.fill.new.self c.put_u16.new.b c.requires.fits c.requires.room (c.fill.ensures.after (λ y h. h)) c.put_u16.ensures.exact;
    }

use Rattle.std.proofs.Common.{ℕ, arith}
use Rattle.slotted_page.proofs.MoveLemmas.{IsMoving-none, IsMoving-more, IsMoving-all}
use Rattle.std.proofs.Common.{subst, sym, ◌∙◌, ap, [], ◌+◌, ◌*◌}
use Rattle.dby_bytes.specs.Numbers.{with_number}
use Rattle.slotted_page.proofs.MoveLemmas.{IsMoving}
use Rattle.slotted_page.proofs.edit.move_directory.Goals as goal

pub loop-i-init : goal.loop-i-init
loop-i-init c = record { small = c.requires.place; moving = λ before rs e after is len count few. IsMoving-none before rs e after c.args.end c.args.b.now is }

pub loop-i-preserved : goal.loop-i-preserved
loop-i-preserved c =
    record {
      small = omega (arith, c.saturating_sub-start.ensures, c.loop-i.invariant.small);
      moving = λ before rs e after is len count few.
          subst (λ (s : ℕ). IsMoving before rs e after (c.loop-i.i + 1) c.args.end s c.put_u16.new.b) (sym c.saturating_sub-start.ensures)
          (IsMoving-more before rs e after c.loop-i.i c.args.end c.loop-i.start c.args.from c.get_u16.result c.loop-i.b c.put_u16.new.b (record { flags = 0; bytes = [] }) (omega (arith, count, c.loop-i-test.true)) len few
          (c.loop-i.invariant.moving before rs e after is len count few) c.get_u16.ensures.exact
          (c.put_u16.ensures.exact ∙ ap (with_number 2 c.loop-i.b (c.args.from + 4 * c.loop-i.i)) c.saturating_sub-start.ensures));
    }

pub returns : goal.returns
returns c =
    record {
      exact = λ before rs e after is len count few.
          IsMoving-all before rs e after c.loop-i.i c.args.end c.loop-i.start c.loop-i.b (omega (arith, count, c.loop-i-test.false)) (c.loop-i.invariant.moving before rs e after is len count few);
    }

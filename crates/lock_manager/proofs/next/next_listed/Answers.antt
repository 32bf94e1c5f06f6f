use Rattle.std.proofs.Common.{arith, subst, sym}
use Rattle.lock_modes.specs.Modes.{is_held}
use Rattle.lock_manager.specs.declared.freed.Freed.{Freed}
use Rattle.lock_manager.specs.Freed.{asks, frees, Skips}
use Rattle.lock_manager.specs.Owners.{modes_of}
use Rattle.lock_manager.proofs.SkipLemmas.{skips_none, skips_either}
use Rattle.lock_manager.proofs.next.next_listed.Goals as goal

pub returns-in-Name : goal.returns-in-Name
returns-in-Name c = record { skips = subst (λ (f : Freed). Skips (frees f) c.args.line.now.line.items c.args.i c.next_asked.result) (sym c.in-Name.is) c.next_asked.ensures.skips }

pub returns-in-Rows : goal.returns-in-Rows
returns-in-Rows c = record { skips = skips_none (frees c.args.freed.now) c.args.line.now.line.items c.args.i (omega (arith, c.requires.within)) }

pub returns-in-All : goal.returns-in-All
returns-in-All c = record {
  skips = subst (λ (f : Freed). Skips (frees f) c.args.line.now.line.items c.args.i c.next_had.result) (sym c.in-All.is)
      (skips_either (λ n. is_held (modes_of c.in-All.had n)) (asks c.in-All.asked) c.args.line.now.line.items c.args.i c.next_wanted-end.result c.next_had.result c.next_wanted-end.ensures.skips c.next_had.ensures.skips c.next_had.ensures.end);
}

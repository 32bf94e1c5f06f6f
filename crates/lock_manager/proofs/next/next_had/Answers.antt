use Rattle.std.proofs.Common.{arith, subst, sym, Option}
use Rattle.lock_modes.specs.Modes.{is_held}
use Rattle.lock_modes.proofs.ModesLemmas.{held_none}
use Rattle.lock_manager.specs.declared.owner.Owner.{Owner}
use Rattle.lock_manager.specs.Freed.{Skips}
use Rattle.lock_manager.specs.Owners.{modes_of}
use Rattle.lock_manager.proofs.next.next_had.Goals as goal

pub returns-in-None-clause-skips : goal.returns-in-None-clause-skips
returns-in-None-clause-skips c =
    subst (λ (o : Option Owner). Skips (λ n. is_held (modes_of o n)) c.args.line.now.line.items c.args.i c.args.end) (sym c.in-None.is)
    record { from = c.requires.start; within = omega (arith, c.requires.within); none = λ k low high q there. held_none }

use Rattle.std.proofs.Common.{ap, arith, length}
use Rattle.std.proofs.lemmas.List.{length-take}
use Rattle.log_file.proofs.Standing.{long_enough}
use Rattle.log_file.proofs.Records.{longest, told}
use Rattle.log_file.proofs.read.told_size.Goals as goal

pub returns-then-front-lt-FRONT-clause-told : goal.returns-then-front-lt-FRONT-clause-told
returns-then-front-lt-FRONT-clause-told c = λ at whole rest r e h. absurd (omega (arith, ap length e, length-take 40 whole, long_enough at r whole rest h, c.if-front-lt-FRONT.true))

pub returns-then-size-gt-LONGEST-clause-told : goal.returns-then-size-gt-LONGEST-clause-told
returns-then-size-gt-LONGEST-clause-told c = λ at whole rest r e h. absurd (omega (arith, c.get_u32-size.ensures.exact, told at c.args.front.now whole rest r e h, longest at whole r rest h, c.if-size-gt-LONGEST.true))

pub returns-else-size-gt-LONGEST-clause-told : goal.returns-else-size-gt-LONGEST-clause-told
returns-else-size-gt-LONGEST-clause-told c = λ at whole rest r e h. omega (arith, c.get_u32-size.ensures.exact, told at c.args.front.now whole rest r e h)

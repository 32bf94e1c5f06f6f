use Rattle.std.proofs.Common.{◌<◌, subst, ℕ}
use Rattle.sql_lexer.proofs.KindLemmas.{number_of-past}
use Rattle.sql_lexer.proofs.kind.number.Goals as goal

pub returns-then-n-gt-NUMBER_LIMIT : goal.returns-then-n-gt-NUMBER_LIMIT
returns-then-n-gt-NUMBER_LIMIT c =
    number_of-past c.loop-b.n c.loop-b.b-index c.args.digits.now c.loop-b-test.true c.loop-b.invariant.number
    (subst (λ (m : ℕ). 9223372036854775808 < m) c.with_digit-n.ensures c.if-n-gt-NUMBER_LIMIT.true)

use Rattle.std.proofs.Common.{arith}
use Rattle.log_records.proofs.BodyLemmas.{change_reads}
use Rattle.log_records.proofs.bodies.read_body.Goals as goal

pub returns-in_default : goal.returns-in_default
returns-in_default c =
    change_reads c.args.at c.args.kind c.args.b.now c.read_change.result (λ e. omega (arith, e)) (λ e. omega (arith, e)) (λ e. omega (arith, e)) (λ e. omega (arith, e)) (λ e. omega (arith, e)) (λ e. omega (arith, e)) (λ e. omega (arith, e)) (λ e. omega (arith, e))
    (c.read_change.ensures c.args.at)

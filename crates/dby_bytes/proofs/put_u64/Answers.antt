use Rattle.std.proofs.Common.{ap, ◌∙◌}
use Rattle.dby_bytes.proofs.NumbersLemmas.{with_number-put_mid, number_at-with_number}
use Rattle.dby_bytes.specs.Numbers.{number_at}
use Rattle.dby_bytes.proofs.put_u64.Goals as goal

pub returns-clause-exact : goal.returns-clause-exact
returns-clause-exact c = with_number-put_mid 8 c.args.at c.args.v c.args.b.now _ c.requires c.write_u64.ensures

pub returns-clause-found : goal.returns-clause-found
returns-clause-found c =
    ap (λ m. number_at 8 m c.args.at) (with_number-put_mid 8 c.args.at c.args.v c.args.b.now _ c.requires c.write_u64.ensures)
    ∙ number_at-with_number 8 c.args.b.now c.args.at c.args.v c.requires (c.ranges.v.fits)

use Rattle.value_compare.proofs.TrimmedLemmas.{same_value-Decides}
use Rattle.value_compare.proofs.laws.same_values_are_trimmed_alike.Goals as goal

pub returns : goal.returns
returns c = same_value-Decides c.args.a.now c.args.b.now

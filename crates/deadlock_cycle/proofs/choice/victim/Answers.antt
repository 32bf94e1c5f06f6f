use Rattle.deadlock_cycle.proofs.ChoiceLemmas.{victim_by}
use Rattle.deadlock_cycle.proofs.choice.victim.Goals as goal

pub returns : goal.returns
returns c = record { exact = victim_by c.args.c.now c.as_slice-edges.result.now _ c.weakest.result c.as_slice-edges.ensures c.requires c.weakest.ensures.exact }

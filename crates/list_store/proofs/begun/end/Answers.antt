use Rattle.list_store.proofs.BegunLemmas.{becomes}
use Rattle.std.proofs.Common.{None}
use Rattle.list_store.proofs.begun.end.Goals as goal

pub returns-clause-ended : goal.returns-clause-ended
returns-clause-ended c = becomes c.args.begun.now.entries c.remove.new.self.entries c.args.t None c.remove.ensures.updates.0

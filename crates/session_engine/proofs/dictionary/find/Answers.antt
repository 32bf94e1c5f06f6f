use Rattle.session_engine.proofs.LookupLemmas.{found-there, found-absent}
use Rattle.session_engine.proofs.dictionary.find.Goals as goal

pub returns-clause-some : goal.returns-clause-some
returns-clause-some c = found-there c.get.result c.args.tables.now.entries c.args.name.now c.get.ensures.value

pub returns-clause-none : goal.returns-clause-none
returns-clause-none c = found-absent c.get.result c.args.tables.now.entries c.args.name.now c.get.ensures.value

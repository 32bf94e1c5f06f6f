use Rattle.lock_manager.specs.Places.{place}
use Rattle.lock_manager.proofs.AskedLemmas.{noted}
use Rattle.lock_manager.proofs.PlacesLemmas.{inserted}
use Rattle.lock_manager.proofs.asked.note.Goals as goal

pub returns-clause-by_name : goal.returns-clause-by_name
returns-clause-by_name c =
    noted c.args.asked.now c.insert.new.self c.args.line.now c.args.r c.end-number.result c.requires.by_name c.end-number.ensures.exact
    (inserted c.args.asked.now c.insert.new.self c.insert.result (place c.args.r.name c.end-number.result) c.args.r c.insert.ensures.updates (c.insert.ensures.succeeds c.requires.room))

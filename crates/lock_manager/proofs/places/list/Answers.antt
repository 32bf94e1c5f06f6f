use Rattle.lock_manager.specs.Places.{place}
use Rattle.lock_manager.proofs.PlacesLemmas.{inserted, listed, listed_packed}
use Rattle.lock_manager.proofs.places.list.Goals as goal

pub returns-clause-packed : goal.returns-clause-packed
returns-clause-packed c =
    listed_packed c.args.places.now c.insert.new.self c.args.name c.end-number.result c.args.txn c.requires.packed c.end-number.ensures.exact
    (inserted c.args.places.now c.insert.new.self c.insert.result (place c.args.name c.end-number.result) c.args.txn c.insert.ensures.updates (c.insert.ensures.succeeds c.requires.room))

pub returns-clause-listed : goal.returns-clause-listed
returns-clause-listed c =
    listed c.args.places.now c.insert.new.self c.args.name c.end-number.result c.args.txn c.end-number.ensures.exact
    (inserted c.args.places.now c.insert.new.self c.insert.result (place c.args.name c.end-number.result) c.args.txn c.insert.ensures.updates (c.insert.ensures.succeeds c.requires.room))

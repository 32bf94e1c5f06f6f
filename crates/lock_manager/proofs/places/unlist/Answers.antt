use Rattle.std.proofs.Common.{arith}
use Rattle.lock_manager.proofs.PlacesLemmas.{taken_here, unlisted, unlisted_packed}
use Rattle.lock_manager.proofs.places.unlist.Goals as goal

pub end-end-requires-clause-taken : goal.end-end-requires-clause-taken
end-end-requires-clause-taken c = taken_here c.args.places.now c.requires.packed c.args.name c.in-Some.number c.args.txn c.in-Some.ensures.found.1

pub returns-in-Some-clause-packed : goal.returns-in-Some-clause-packed
returns-in-Some-clause-packed c =
    let above = c.end-end.ensures.above in
    unlisted_packed c.args.places.now c.fill.new.places c.args.name c.in-Some.number _ c.end-end.result c.requires.packed c.end-end.ensures.exact (omega (arith, above)) (omega (arith, above)) c.fill.ensures.exact

pub returns-in-Some-clause-kept : goal.returns-in-Some-clause-kept
returns-in-Some-clause-kept c = unlisted c.args.places.now c.fill.new.places c.args.name c.in-Some.number _ c.args.txn c.in-Some.ensures.found.1 c.fill.ensures.exact

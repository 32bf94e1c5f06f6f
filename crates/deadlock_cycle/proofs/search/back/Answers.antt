use Rattle.lock_manager.specs.Table.{lock}
use Rattle.deadlock_cycle.proofs.RingLemmas.{ends}
use Rattle.deadlock_cycle.proofs.SearchLemmas.{goes_back}
use Rattle.deadlock_cycle.proofs.FirstLemmas.{back_ordered}
use Rattle.deadlock_cycle.proofs.search.back.Goals as goal

pub returns-then-is_empty : goal.returns-then-is_empty
returns-then-is_empty c =
    let s = c.args.s.now in
    record { step = ends (lock c.args.l.now) c.args.t s.path s.seen s.node s.above c.requires.searching.0 c.requires.none (c.is_empty.ensures.0 c.if-is_empty.true) }

pub returns : goal.returns
returns c =
    let s = c.args.s.now in
    let l = lock c.args.l.now in
    let back = goes_back l c.args.t s.path c.pop-edge.new.self s.seen s.node s.above c.pop-edge.result c.requires.searching.0 c.requires.none c.pop-edge.ensures in
    record { step = ((back.0, back_ordered l c.args.t s.path c.pop-edge.new.self s.seen s.node s.above c.pop-edge.result c.requires.searching.0 c.requires.searching.1 c.requires.none c.pop-edge.ensures), back.1) }

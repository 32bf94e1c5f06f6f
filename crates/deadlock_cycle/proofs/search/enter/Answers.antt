use Rattle.lock_manager.specs.Table.{lock}
use Rattle.deadlock_cycle.proofs.SearchLemmas.{path_fits, entered_fits, enters}
use Rattle.deadlock_cycle.proofs.FirstLemmas.{enters_ordered}
use Rattle.deadlock_cycle.proofs.search.enter.Goals as goal

pub push-requires : goal.push-requires
push-requires c =
    let s = c.args.s.now in
    path_fits (lock c.args.l.now) c.args.t s.path s.seen s.node s.above c.requires.searching.0

pub push-requires-2 : goal.push-requires-2
push-requires-2 c =
    let s = c.args.s.now in
    entered_fits (lock c.args.l.now) c.args.t s.path s.seen s.node s.above c.args.edge c.requires.searching.0 c.requires.edge c.requires.other c.requires.fresh

pub returns : goal.returns
returns c =
    let s = c.args.s.now in
    let l = lock c.args.l.now in
    let on = enters l c.args.t s.path c.push.new.self s.seen c.push-2.new.self s.node s.above c.args.edge c.requires.searching.0 c.requires.edge c.requires.other c.requires.fresh c.push.ensures c.push-2.ensures in
    record {
      step = (
        (on.0, enters_ordered l c.args.t s.path c.push.new.self s.seen c.push-2.new.self s.node s.above c.args.edge c.requires.searching.0 c.requires.searching.1 c.requires.edge c.requires.other c.requires.fresh c.push.ensures c.push-2.ensures),
        on.1,
      );
    }

use Rattle.std.proofs.Common.{◌∙◌, sym}
use Rattle.lock_manager.specs.Table.{lock}
use Rattle.deadlock_cycle.proofs.RingLemmas.{closes}
use Rattle.deadlock_cycle.proofs.SearchLemmas.{path_fits, skips}
use Rattle.deadlock_cycle.proofs.FirstLemmas.{skips_ordered, closes_first}
use Rattle.deadlock_cycle.proofs.search.forth.Goals as goal

pub push-requires : goal.push-requires
push-requires c =
    let s = c.args.s.now in
    path_fits (lock c.args.l.now) c.args.t s.path s.seen s.node s.above c.requires.searching.0

pub returns-then-is_same_txn : goal.returns-then-is_same_txn
returns-then-is_same_txn c =
    let s = c.args.s.now in
    let l = lock c.args.l.now in
    record {
      step = (
        closes l c.args.t s.path c.push.new.self s.seen s.node s.above c.args.edge c.requires.searching.0 c.requires.edge (sym c.is_same_txn.ensures.exact ∙ c.if-is_same_txn.true) c.push.ensures,
        closes_first l c.args.t s.path c.push.new.self s.seen s.node s.above c.args.edge c.requires.searching.0 c.requires.searching.1 c.requires.edge c.push.ensures,
      );
    }

pub returns-then-is_passed : goal.returns-then-is_passed
returns-then-is_passed c =
    let s = c.args.s.now in
    let l = lock c.args.l.now in
    let other = sym c.is_same_txn.ensures.exact ∙ c.if-is_same_txn.false in
    let passed = sym c.is_passed.ensures.exact ∙ c.if-is_passed.true in
    let on = skips l c.args.t s.path s.seen s.node s.above c.args.edge c.requires.searching.0 c.requires.edge other passed c.bounded.ensures.exact.1 in
    record { step = ((on.0, skips_ordered l c.args.t s.path s.seen s.node s.above c.args.edge c.requires.searching.0 c.requires.searching.1 c.requires.edge other passed), on.1) }

use Rattle.std.proofs.Common.{◌≡◌, ◌∙◌, ap, sym, arith, false, true, take}
use Rattle.std.specs.List.{slice_get}
use Rattle.std.specs.Option.{is_some}
use Rattle.lock_manager.specs.Asked.{asks_for, is_of}
use Rattle.lock_manager.proofs.AskedLemmas.{passed_starts}
use Rattle.lock_manager.proofs.AheadLemmas.{ahead_all, ahead_end, ahead_past, ahead_found, ahead_next, one_on}
use Rattle.lock_manager.proofs.asked.asker_before.Goals as goal

pub each-init : goal.each-init
each-init c = record { within = omega arith; before = omega arith; passed = passed_starts (take c.args.at c.args.line.now) c.args.r }

pub returns-in_default : goal.returns-in_default
returns-in_default c =
    let none : is_some (slice_get (asks_for c.args.r.name c.args.line.now) c.each.i) ≡ false = ap is_some (sym (c.requires.by_name c.args.r.name c.each.i) ∙ sym c.in_default.ensures.exact) in
    record { found = ahead_end c.args.line.now c.args.at c.each.i c.args.r none c.each.invariant.passed }

pub returns-then-is_same_txn : goal.returns-then-is_same_txn
returns-then-is_same_txn c =
    let here : is_of c.args.r.txn (slice_get (asks_for c.args.r.name c.args.line.now) c.each.i) ≡ true =
    ap (is_of c.args.r.txn) (sym (c.in-Some.ensures.exact ∙ c.requires.by_name c.args.r.name c.each.i)) ∙ sym c.is_same_txn.ensures.exact ∙ c.if-is_same_txn.true in
    record { found = ahead_all c.args.line.now c.args.at c.each.i c.args.r c.requires.apart c.requires.there here c.each.invariant.passed }

pub returns-then-is_in_way : goal.returns-then-is_in_way
returns-then-is_in_way c = record {
  found = ahead_found c.args.line.now c.args.at c.each.i c.args.r c.in-Some.q c.requires.there (c.in-Some.ensures.exact ∙ c.requires.by_name c.args.r.name c.each.i)
      (sym c.is_same_txn.ensures.exact ∙ c.if-is_same_txn.false) c.each.invariant.before (sym c.is_in_way.ensures.exact ∙ c.if-is_in_way.true) c.each.invariant.passed;
}

pub each-preserved : goal.each-preserved
each-preserved c =
    let here = c.in-Some.ensures.exact ∙ c.requires.by_name c.args.r.name c.each.i in
    let other = sym c.is_same_txn.ensures.exact ∙ c.if-is_same_txn.false in
    record {
      within = omega arith;
      before = one_on c.args.line.now c.args.at c.each.i c.args.r c.requires.there (ap (is_of c.args.r.txn) (sym here) ∙ other) c.each.invariant.before;
      passed = ahead_next c.args.line.now c.args.at c.each.i c.args.r c.in-Some.q c.requires.there here other c.each.invariant.before (sym c.is_in_way.ensures.exact ∙ c.if-is_in_way.false) c.each.invariant.passed;
    }

pub returns : goal.returns
returns c = record { found = ahead_past c.args.line.now c.args.at c.each.i c.args.r (omega arith) c.each.invariant.passed }

use Rattle.std.proofs.Common.{◌≡◌, ◌∙◌, ap, sym, arith, false}
use Rattle.std.specs.List.{slice_get}
use Rattle.std.specs.Option.{is_some}
use Rattle.lock_manager.specs.Asked.{asks_for}
use Rattle.lock_manager.proofs.AskedLemmas.{passed_starts, passed_all, passed_next, passed_found, past_line}
use Rattle.lock_manager.proofs.asked.asker_in_way.Goals as goal

pub each-init : goal.each-init
each-init c = record { within = omega arith; passed = passed_starts c.args.line.now c.args.r }

pub returns-in_default : goal.returns-in_default
returns-in_default c =
    let none : is_some (slice_get (asks_for c.args.r.name c.args.line.now) c.each.i) ≡ false = ap is_some (sym (c.requires c.args.r.name c.each.i) ∙ sym c.in_default.ensures.exact) in
    record { found = passed_all c.args.line.now c.args.r c.each.i none c.each.invariant.passed }

pub returns-then-is_in_way : goal.returns-then-is_in_way
returns-then-is_in_way c = record { found = passed_found c.args.line.now c.args.r c.each.i c.in-Some.q (c.in-Some.ensures.exact ∙ c.requires c.args.r.name c.each.i) (sym c.is_in_way.ensures.exact ∙ c.if-is_in_way.true) c.each.invariant.passed }

pub each-preserved : goal.each-preserved
each-preserved c = record {
  within = omega arith;
  passed = passed_next c.args.line.now c.args.r c.each.i c.in-Some.q (c.in-Some.ensures.exact ∙ c.requires c.args.r.name c.each.i) (sym c.is_in_way.ensures.exact ∙ c.if-is_in_way.false) c.each.invariant.passed;
}

pub returns : goal.returns
returns c = record { found = passed_all c.args.line.now c.args.r c.each.i (past_line c.args.r.name c.args.line.now c.each.i (omega arith)) c.each.invariant.passed }

use Rattle.std.proofs.Common.{◌≡◌, ◌∙◌, ap, sym, arith, false}
use Rattle.std.specs.List.{slice_get}
use Rattle.std.specs.Option.{is_some}
use Rattle.lock_manager.specs.Asked.{asks_for}
use Rattle.lock_manager.proofs.AskedLemmas.{contests_only, contest_next, contest_found, contest_none, past_line}
use Rattle.lock_manager.proofs.asked.is_contested.Goals as goal

pub each-init : goal.each-init
each-init c = record { within = omega arith; passed = sym (contests_only c.args.name c.args.mode c.args.line.now) }

pub returns-in_default : goal.returns-in_default
returns-in_default c =
    let none : is_some (slice_get (asks_for c.args.name c.args.line.now) c.each.i) ≡ false = ap is_some (sym (c.requires c.args.name c.each.i) ∙ sym c.in_default.ensures.exact) in
    record { exact = sym (c.each.invariant.passed ∙ contest_none c.args.name c.args.mode (asks_for c.args.name c.args.line.now) c.each.i none) }

pub returns-then-contests : goal.returns-then-contests
returns-then-contests c = record { exact = sym (c.each.invariant.passed ∙ contest_found c.args.name c.args.mode (asks_for c.args.name c.args.line.now) c.each.i c.in-Some.q (c.in-Some.ensures.exact ∙ c.requires c.args.name c.each.i) (sym c.contests.ensures.exact ∙ c.if-contests.true)) }

pub each-preserved : goal.each-preserved
each-preserved c = record {
  within = omega arith;
  passed = c.each.invariant.passed ∙ contest_next c.args.name c.args.mode (asks_for c.args.name c.args.line.now) c.each.i c.in-Some.q (c.in-Some.ensures.exact ∙ c.requires c.args.name c.each.i) (sym c.contests.ensures.exact ∙ c.if-contests.false);
}

pub returns : goal.returns
returns c = record { exact = sym (c.each.invariant.passed ∙ contest_none c.args.name c.args.mode (asks_for c.args.name c.args.line.now) c.each.i (past_line c.args.name c.args.line.now c.each.i (omega arith))) }

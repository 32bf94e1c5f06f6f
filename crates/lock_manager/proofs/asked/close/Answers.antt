use Rattle.std.proofs.Common.{◌≡◌, ◌∙◌, ◌+◌, ℕ, None, ap, subst, arith}
use Rattle.std.specs.Option.{is_some}
use Rattle.lock_manager.specs.Asked.{Closing}
use Rattle.lock_manager.specs.Places.{place}
use Rattle.lock_manager.proofs.AskedLemmas.{closing_starts, closing_next, closing_ends}
use Rattle.lock_manager.proofs.PlacesLemmas.{changed}
use Rattle.lock_manager.proofs.asked.close.Goals as goal

pub each-init : goal.each-init
each-init c = record {
  above = omega arith;
  within = c.requires.within;
  moved = closing_starts c.args.asked.now c.args.name c.args.first;
  room = omega arith;
}

pub each-preserved : goal.each-preserved
each-preserved c = record {
  above = omega (arith, c.each.invariant.above);
  within = omega arith;
  moved = closing_next c.args.asked.now c.each.asked c.put.new.asked c.args.name c.args.first c.each.i c.each.invariant.above c.each.invariant.moved c.put.ensures.exact;
  room = omega (arith, c.each.invariant.room, c.put.ensures.room);
}

pub returns-clause-exact : goal.returns-clause-exact
returns-clause-exact c =
    let all : c.each.i ≡ c.args.last = omega (arith, c.each.invariant.within) in
    closing_ends c.args.asked.now c.each.asked c.remove.new.self c.args.name c.args.first c.args.last c.requires.within
    (subst (λ (k : ℕ). Closing c.args.asked.now c.each.asked c.args.name c.args.first k) all c.each.invariant.moved) c.requires.free
    (changed c.each.asked c.remove.new.self (place c.args.name c.args.last) None c.remove.ensures.updates.0)

pub put-requires-clause-from : goal.put-requires-clause-from
put-requires-clause-from c = ap is_some (c.each.invariant.moved.ahead (c.each.i + 1) (omega arith)) ∙ c.requires.taken (c.each.i + 1) (omega arith)

pub put-requires-clause-to : goal.put-requires-clause-to
put-requires-clause-to c = ap is_some (c.each.invariant.moved.ahead c.each.i (omega arith)) ∙ c.requires.taken c.each.i (omega arith)

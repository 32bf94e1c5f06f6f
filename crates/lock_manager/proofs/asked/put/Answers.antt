use Rattle.std.proofs.Common.{ap, sym, cond, ◌∙◌, Some}
use Rattle.std.proofs.lemmas.Bool.{both_ways}
use Rattle.std.specs.HashMap.{get}
use Rattle.std.specs.Option.{is_some}
use Rattle.lock_manager.specs.Places.{place, same_place}
use Rattle.lock_manager.proofs.PlacesLemmas.{changed, not_there}
use Rattle.lock_manager.proofs.asked.put.Goals as goal

pub returns-in_default-clause-exact : goal.returns-in_default-clause-exact
returns-in_default-clause-exact c = absurd (both_ways _ (ap is_some (sym c.in_default.ensures.exact)) c.requires.from)

pub returns-in-Some-get_mut-clause-exact : goal.returns-in-Some-get_mut-clause-exact
returns-in-Some-get_mut-clause-exact c = λ p.
    let m = c.args.asked.now in
    let through = c.get_mut.follows.holds c.in-Some.moved in
    let put = (through.3 (ap is_some (sym c.in-Some-get_mut.ensures.value))).0 in
    changed m (c.get_mut.follows.lender c.in-Some.moved) (place c.args.name c.args.to) (Some c.in-Some.moved) put p
    ∙ ap (λ v. cond (same_place (place c.args.name c.args.to) p) v (get same_place m p)) c.in-Some.ensures.exact

pub returns-in_default-get_mut-clause-exact : goal.returns-in_default-get_mut-clause-exact
returns-in_default-get_mut-clause-exact c = absurd (not_there c.args.asked.now (place c.args.name c.args.to) c.requires.to c.in_default-get_mut.ensures.value)

use Rattle.std.proofs.Common.{arith}
use Rattle.std.proofs.lemmas.Bool.Decides.{nat_tests}
use Rattle.change_binder.proofs.Rows.{some_takes, none_takes}
use Rattle.change_binder.proofs.insert.one_value.Goals as goal

pub returns-in_ok-push-in-Some : goal.returns-in_ok-push-in-Some
returns-in_ok-push-in-Some c =
    some_takes c.args.spots.now c.args.i c.in-Some.spot.now c.args.item.now _ _ _ _ _ (grind (arith, nat_tests, c.in-Some.ensures.lookup)) c.in-Some.ensures.lookup.1 c.in_ok-x-in-Some.ensures
    c.in_ok-push-in-Some.ensures.items

pub returns-in_ok-value-in-None : goal.returns-in_ok-value-in-None
returns-in_ok-value-in-None c = none_takes c.args.spots.now c.args.i c.args.item.now _ _ _ _ (grind (arith, nat_tests, c.in-None.ensures.lookup)) c.in_ok-value-in-None.ensures

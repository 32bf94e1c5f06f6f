use Rattle.std.proofs.Common.{List, Bool, subst, sym}
use Rattle.store_trials.specs.Sent.{IsOver, seen_over}
use Rattle.store_trials.proofs.OverLemmas.{new_over}
use Rattle.store_trials.proofs.onward.OnwardStore.new.Goals as goal

pub returns : goal.returns
returns g c =
    let v = g.S.RowStore.view c.args.store in
    subst (λ (marks : List Bool). IsOver v (seen_over v marks)) (sym c.nobody.ensures) (new_over v)

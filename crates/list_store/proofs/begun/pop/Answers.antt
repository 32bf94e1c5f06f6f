use Rattle.std.specs.Option.{is_some, IfSome, option_to_list}
use Rattle.std.proofs.Common.{◌≡◌, Option, Some, None, sym, ap, refl, ◌∙◌, ◌++◌}
use Rattle.store_api.specs.declared.slot.Item.{Item}
use Rattle.list_store.specs.Begun.{Pops}
use Rattle.list_store.proofs.BegunLemmas.{popped}
use Rattle.list_store.proofs.begun.pop.Goals as goal

pub returns-in-Some-clause-some : goal.returns-in-Some-clause-some
returns-in-Some-clause-some c = each c.pop.result refl
  where
    each : (r : Option Item) → c.pop.result ≡ r → IfSome r (Pops c.args.begun.now.entries (c.get_mut.follows.lender (record { items = c.pop.new.self })).entries c.args.t.0)
    each None e = tt
    each (Some item) e =
        let through = c.get_mut.follows.holds (record { items = c.pop.new.self }) in
        popped c.args.begun.now.entries (c.get_mut.follows.lender (record { items = c.pop.new.self })).entries c.args.t c.in-Some.open.now (record { items = c.pop.new.self }) item
        (through.3 (ap is_some (sym c.in-Some.ensures.value))).0 (sym c.in-Some.ensures.value) (c.pop.ensures.items ∙ ap (λ r. c.pop.new.self.items ++ option_to_list r) e)

use Rattle.std.proofs.Common.{ap, sym, ◌∙◌, subst, None, Some, BuildHasherDefault, FoldHasher}
use Rattle.std.specs.HashMap.{HashMap}
use Rattle.dby_types.specs.declared.number.TxnNo.{TxnNo}
use Rattle.lock_manager.specs.declared.places.Place.{Place}
use Rattle.std.specs.Option.{is_some}
use Rattle.lock_manager.specs.Places.{place, IsFilled}
use Rattle.lock_manager.proofs.PlacesLemmas.{changed, get_same, not_there, filled_none, filled_some}
use Rattle.lock_manager.proofs.places.fill.Goals as goal

pub returns-in_default-clause-exact : goal.returns-in_default-clause-exact
returns-in_default-clause-exact c = absurd (not_there c.args.places.now (place c.args.name c.args.last) c.requires.taken.1 c.in_default.ensures.value)

pub returns-in-Some-get_mut-clause-exact : goal.returns-in-Some-get_mut-clause-exact
returns-in-Some-get_mut-clause-exact c =
    let through = c.get_mut.follows.holds c.in-Some.moved in
    let put = (through.3 (ap is_some (sym c.in-Some-get_mut.ensures.value))).0 in
    let m = c.args.places.now in
    let n = c.remove.new.self in
    let o = c.get_mut.follows.lender c.in-Some.moved in
    filled_some m n o c.args.name c.args.number c.args.last c.in-Some.moved c.in-Some-get_mut.txn.now
    (changed m n (place c.args.name c.args.last) None c.remove.ensures.updates.0)
    (changed n o (place c.args.name c.args.number) (Some c.in-Some.moved) put)
    (c.in-Some.ensures.value ∙ get_same m (place c.args.name c.args.last))
    (c.in-Some-get_mut.ensures.value ∙ get_same n (place c.args.name c.args.number))

pub returns-in_default-get_mut-clause-exact : goal.returns-in_default-get_mut-clause-exact
returns-in_default-get_mut-clause-exact c =
    let m = c.args.places.now in
    let n = c.remove.new.self in
    subst (λ (w : HashMap Place TxnNo (BuildHasherDefault FoldHasher)). IsFilled m w c.args.name c.args.number c.args.last) (sym c.get_mut.follows.holds-at-none)
    (filled_none m n c.args.name c.args.number c.args.last (changed m n (place c.args.name c.args.last) None c.remove.ensures.updates.0) c.requires.taken.0
    (c.in_default-get_mut.ensures.value ∙ get_same n (place c.args.name c.args.number)))

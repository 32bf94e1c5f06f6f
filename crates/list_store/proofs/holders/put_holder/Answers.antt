use Rattle.std.proofs.Common.{◌≡◌, ◌<◌, ◌∙◌, sym, refl, ap, arith, length, slice_set, rules}
use Rattle.list_store.specs.Holders.{place_from}
use Rattle.std.proofs.lemmas.List.{length-set}
use Rattle.list_store.proofs.HolderLemmas.{found, missing, refilled}
use Rattle.list_store.proofs.holders.put_holder.Goals as goal

pub bounds-as_mut_slice-i : goal.bounds-as_mut_slice-i
bounds-as_mut_slice-i c =
    let f = found c.args.new.actor c.args.holders.now.items c.in-Some.i (ap (place_from 0 c.args.new.actor) (sym c.as_slice.ensures.value) ∙ sym c.place_of.ensures ∙ c.in-Some.is) in
    let lt : c.in-Some.i < length c.args.holders.now.items = f.within in
    let same : length c.as_mut_slice.result.now ≡ length c.args.holders.now.items = ap length c.as_mut_slice.ensures.value in
    omega arith

pub offset_bounds-as_mut_slice-i : goal.offset_bounds-as_mut_slice-i
offset_bounds-as_mut_slice-i c =
    let f = found c.args.new.actor c.args.holders.now.items c.in-Some.i (ap (place_from 0 c.args.new.actor) (sym c.as_slice.ensures.value) ∙ sym c.place_of.ensures ∙ c.in-Some.is) in
    let lt : c.in-Some.i < length c.args.holders.now.items = f.within in
    let same : length c.as_mut_slice.result.now ≡ length c.args.holders.now.items = ap length c.as_mut_slice.ensures.value in
    let fits = c.as_mut_slice.ensures.fits in
    search (rules, arith)

pub returns-in-Some : goal.returns-in-Some
returns-in-Some c =
    let f = found c.args.new.actor c.args.holders.now.items c.in-Some.i (ap (place_from 0 c.args.new.actor) (sym c.as_slice.ensures.value) ∙ sym c.place_of.ensures ∙ c.in-Some.is) in
    refilled c.args.holders.now.items _ (length-set c.as_mut_slice.result.now c.in-Some.i c.args.new ∙ ap length c.as_mut_slice.ensures.value)
    ∙ ap (λ xs. slice_set xs c.in-Some.i c.args.new) c.as_mut_slice.ensures.value ∙ f.set c.args.new refl

pub push-requires : goal.push-requires
push-requires c =
    let none = ap (place_from 0 c.args.new.actor) (sym c.as_slice.ensures.value) ∙ sym c.place_of.ensures ∙ c.in-None.is in
    (omega arith, c.requires none)

pub returns-in-None : goal.returns-in-None
returns-in-None c =
    c.push.ensures.items ∙ (missing 0 c.args.new.actor c.args.holders.now.items (ap (place_from 0 c.args.new.actor) (sym c.as_slice.ensures.value) ∙ sym c.place_of.ensures ∙ c.in-None.is)).pushed c.args.new refl

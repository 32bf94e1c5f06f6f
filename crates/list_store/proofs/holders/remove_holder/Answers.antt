use Rattle.std.proofs.Common.{◌∙◌, sym, ap, arith}
use Rattle.list_store.specs.Holders.{place_from}
use Rattle.list_store.proofs.HolderLemmas.{found, missing}
use Rattle.list_store.proofs.holders.remove_holder.Goals as goal

pub remove-requires : goal.remove-requires
remove-requires c =
    (omega arith, (found c.args.a c.args.holders.now.items c.in-Some.i (ap (place_from 0 c.args.a) (sym c.as_slice.ensures.value) ∙ sym c.place_of.ensures ∙ c.in-Some.is)).within)

pub returns-in-Some : goal.returns-in-Some
returns-in-Some c =
    c.remove.ensures.items ∙ (found c.args.a c.args.holders.now.items c.in-Some.i (ap (place_from 0 c.args.a) (sym c.as_slice.ensures.value) ∙ sym c.place_of.ensures ∙ c.in-Some.is)).removed

pub returns-in_default : goal.returns-in_default
returns-in_default c =
    (missing 0 c.args.a c.args.holders.now.items (ap (place_from 0 c.args.a) (sym c.as_slice.ensures.value) ∙ sym c.place_of.ensures ∙ c.in_default.is)).unchanged

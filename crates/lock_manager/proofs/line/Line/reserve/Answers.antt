use Rattle.std.proofs.Common.{◌∙◌, ap, sym, List}
use Rattle.std.specs.List.{slice_get}
use Rattle.lock_modes.specs.declared.entry.Request.{Request}
use Rattle.lock_manager.specs.Asked.{asks_for, is_apart}
use Rattle.lock_manager.specs.Places.{place}
use Rattle.lock_manager.proofs.PlacesLemmas.{reordered}
use Rattle.lock_manager.proofs.line.Line.reserve.Goals as goal

pub invariant_of-self-2 : goal.invariant_of-self-2
invariant_of-self-2 c =
    let s = c.args.self.now in
    record { by_name = λ n i. reordered s.asked c.reserve-2.new.self c.reserve-2.ensures.entries.2 (place n i) ∙ s.by_name n i ∙ ap (λ (rs : List Request). slice_get (asks_for n rs) i) (sym c.reserve.ensures.items); apart = ap is_apart c.reserve.ensures.items ∙ s.apart }

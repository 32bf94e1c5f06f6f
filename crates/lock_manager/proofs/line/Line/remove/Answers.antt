use Rattle.std.proofs.Common.{◌≡◌, List, Some, arith, subst, sym}
use Rattle.std.proofs.lemmas.Option.{slice_get_read}
use Rattle.std.specs.List.{slice_get}
use Rattle.std.specs.Vec.{vec_len}
use Rattle.lock_modes.specs.declared.entry.Request.{Request}
use Rattle.lock_manager.proofs.line.Line.remove.Goals as goal

pub strike-requires-clause-there : goal.strike-requires-clause-there
strike-requires-clause-there c =
    let here = slice_get_read c.args.self.now.line.items (vec_len c.args.self.now.line) c.args.i c.index-r.result.now (omega arith) c.requires c.index-r.ensures in
    subst (λ (l : List Request). slice_get l c.args.i ≡ Some c.index-r.result.now) (sym c.deref.ensures.value) here

use Rattle.std.proofs.Common.{List, subst}
use Rattle.lock_modes.specs.declared.entry.Request.{Request}
use Rattle.lock_manager.specs.Freed.{frees, Skips}
use Rattle.lock_manager.proofs.SkipLemmas.{skips_on}
use Rattle.lock_manager.proofs.next.next_freed.Goals as goal

pub returns : goal.returns
returns c =
    let near = subst (λ (rs : List Request). Skips (frees c.args.freed.now) rs c.args.i c.walk-near.result) c.deref.ensures.value c.walk-near.ensures.skips in
    record { skips = skips_on (frees c.args.freed.now) c.args.line.now.line.items c.args.i c.walk-near.result c.next_listed.result near c.next_listed.ensures.skips }

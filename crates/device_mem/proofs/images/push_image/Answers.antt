use Rattle.std.proofs.Common.{List, reverse, subst, sym}
use Rattle.device_mem.specs.declared.call.Call.{Call}
use Rattle.device_mem.specs.Images.{Holds, IsDurable}
use Rattle.device_mem.proofs.ImagesLemmas.{adds_one}
use Rattle.device_mem.proofs.images.push_image.Goals as goal

pub returns : goal.returns
returns c =
    adds_one c.args.keeps_pages c.args.left (reverse c.args.calls.now) c.args.images.now.items _ c.made-disk.result c.in_ok-push.ensures.items
    (subst (λ (x : List Call). Holds c.args.keeps_pages c.args.left (reverse c.args.calls.now) x) (sym c.made-disk.ensures.exact) c.in_ok-image.ensures.holds)
    (subst (λ (x : List Call). IsDurable x) (sym c.made-disk.ensures.exact) c.in_ok-image.ensures.durable) c.made-disk.ensures.well

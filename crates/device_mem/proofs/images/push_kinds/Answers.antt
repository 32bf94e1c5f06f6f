use Rattle.std.proofs.Common.{reverse}
use Rattle.device_mem.proofs.ImagesLemmas.{kinds_ok}
use Rattle.device_mem.proofs.images.push_kinds.Goals as goal

pub returns : goal.returns
returns c =
    kinds_ok c.push_image-2.result c.args.keeps_pages (reverse c.args.calls.now) c.args.images.now.items c.push_image.new.images.items c.push_cuts.new.images.items c.push_image-2.new.images.items c.in_ok-push_image.ensures c.in_ok-push_cuts.ensures
    c.push_image-2.ensures

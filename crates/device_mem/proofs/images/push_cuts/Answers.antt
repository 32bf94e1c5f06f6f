use Rattle.std.proofs.Common.{◌≡◌, ℕ, reverse, subst, arith}
use Rattle.device_mem.specs.Cuts.{cuts_of}
use Rattle.device_mem.specs.Images.{Adds, IsBelow}
use Rattle.device_mem.proofs.ImagesLemmas.{cut-image}
use Rattle.device_mem.proofs.images.push_cuts.Goals as goal

pub loop-n-preserved : goal.loop-n-preserved
loop-n-preserved c = cut-image c.args.keeps_pages (reverse c.args.calls.now) c.loop-n.n c.args.images.now.items c.loop-n.images.items c.push_image.new.images.items c.loop-n.invariant c.in_ok-push_image.ensures

pub returns : goal.returns
returns c =
    let all : c.loop-n.n ≡ cuts_of (reverse c.args.calls.now) = omega (arith, c.loop-n-test.false, c.loop-n.auto.n-end, c.cuts-n-end.ensures) in
    subst (λ (n : ℕ). Adds c.args.keeps_pages (reverse c.args.calls.now) (IsBelow n) c.args.images.now.items c.loop-n.images.items) all c.loop-n.invariant

use Rattle.std.proofs.Common.{reverse}
use Rattle.device_mem.specs.Images.{Adds, IsBelow}
use Rattle.device_mem.proofs.images.push_cuts.Given as goal

abbrev pub invariant-loop-n : goal.invariant-loop-n
invariant-loop-n l = Adds l.keeps_pages (reverse l.calls) (IsBelow l.n) l.initial.images.items l.images.items

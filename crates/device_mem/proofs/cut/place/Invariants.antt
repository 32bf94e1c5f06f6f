use Rattle.std.proofs.Common.{◌≡◌, take, reverse}
use Rattle.device_mem.specs.Cuts.{last_write}
use Rattle.device_mem.proofs.cut.place.Given as goal

abbrev pub invariant-loop-i : goal.invariant-loop-i
invariant-loop-i l = l.place ≡ last_write (reverse (take l.i l.calls))

use Rattle.std.proofs.Common.{◌≡◌, take, reverse}
use Rattle.device_mem.specs.Cuts.{cuts_of}
use Rattle.device_mem.proofs.cut.cuts.Given as goal

abbrev pub invariant-loop-call : goal.invariant-loop-call
invariant-loop-call l = l.count ≡ cuts_of (reverse (take l.call-index l.calls))

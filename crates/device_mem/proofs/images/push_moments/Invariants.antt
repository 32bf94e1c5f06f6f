use Rattle.std.proofs.Common.{◌≡◌, ◌≤◌, []}
use Rattle.device_mem.specs.Images.{AreLeft}
use Rattle.device_mem.proofs.images.push_moments.Given as goal

abbrev pub invariant-loop-m : goal.invariant-loop-m
invariant-loop-m l = (l.since ≤ l.m) × (l.initial.images.items ≡ [] → AreLeft l.calls l.since l.m l.images.items)

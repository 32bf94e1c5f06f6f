use Rattle.std.proofs.Common.{◌≡◌, ◌≤◌, take, reverse}
use Rattle.device_mem.specs.Images.{synced}
use Rattle.device_mem.proofs.images.count_synced.Given as goal

abbrev pub invariant-loop-i : goal.invariant-loop-i
invariant-loop-i l = (l.count ≤ l.i) × (reverse (take l.count l.calls) ≡ synced l.of_pages (reverse (take l.i l.calls)))

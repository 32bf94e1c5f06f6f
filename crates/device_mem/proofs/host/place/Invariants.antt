use Rattle.std.proofs.Common.{◌≡◌, drop}
use Rattle.device_mem.specs.Databases.{disk_of}
use Rattle.device_mem.proofs.host.place.Given as goal

abbrev pub invariant-loop-i : goal.invariant-loop-i
invariant-loop-i l = disk_of (drop l.i l.databases) l.name ≡ disk_of l.databases l.name

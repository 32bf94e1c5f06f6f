use Rattle.std.proofs.Common.{◌≡◌, drop}
use Rattle.device_mem.specs.Scripts.{bytes_of}
use Rattle.device_mem.proofs.host.opened.Given as goal

abbrev pub invariant-loop-script : goal.invariant-loop-script
invariant-loop-script l = bytes_of (drop l.script-index l.scripts) l.name ≡ bytes_of l.scripts l.name

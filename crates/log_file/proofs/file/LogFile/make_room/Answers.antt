use Rattle.std.proofs.Common.{arith}
use Rattle.log_file.specs.List.{forced_of}
use Rattle.log_file.proofs.Crashing.{after_none}
use Rattle.log_file.proofs.Growing.{room_after}
use Rattle.log_file.proofs.Steps.{holds}
use Rattle.log_file.proofs.file.LogFile.make_room.Goals as goal

pub returns-clause-list : goal.returns-clause-list
returns-clause-list g c told = (λ from rs n h. (n, omega arith, h), tt)

pub returns-clause-crash : goal.returns-clause-crash
returns-clause-crash g c told = after_none g.D.Disk.moment g.D.Disk.left_since g.D.Disk.may_log g.D.Disk.may_hold (forced_of c.args.self.now) c.args.disk.now (λ i l. g.met.D.Disk.only_now c.args.disk.now i told l)

pub returns-then-needs_force-clause-list : goal.returns-then-needs_force-clause-list
returns-then-needs_force-clause-list g c told = (holds c.force.result _ _ _ _ _ _ (c.force.ensures.list told).0, (c.force.ensures.list told).1)

pub returns-then-needs_force-clause-room : goal.returns-then-needs_force-clause-room
returns-then-needs_force-clause-room g c = room_after c.force.result c.args.self.now c.force.new.self c.args.size c.requires.0 c.force.ensures.all

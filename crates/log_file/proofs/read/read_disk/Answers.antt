use Rattle.log_file.proofs.Crashing.{after_quiet}
use Rattle.log_file.proofs.read.read_disk.Goals as goal

pub returns-clause-crash : goal.returns-clause-crash
returns-clause-crash g c told end =
    after_quiet g.D.Disk.moment g.D.Disk.left_since g.D.Disk.may_log g.D.Disk.may_hold end c.args.disk.now c.log_read.new.self (λ i l. g.met.D.Disk.only_now c.args.disk.now i told l) (c.log_read.ensures.crash told).1 (c.log_read.ensures.crash told).0 (c.log_read.ensures.time told)

use Rattle.log_file.specs.List.{forced_of}
use Rattle.log_file.proofs.Crashing.{after_raise}
use Rattle.log_file.proofs.Steps.{same, stays}
use Rattle.log_file.proofs.file.LogFile.write_control.Goals as goal

pub returns-clause-list : goal.returns-clause-list
returns-clause-list g c told =
    stays c.args.self.now c.args.self.now _ _ _ _ (same c.args.self.now) (after_raise g.D.Disk.moment g.D.Disk.left_since g.D.Disk.may_log g.D.Disk.may_hold (forced_of c.args.self.now) c.args.disk.now c.raise.new.disk _ (c.raise.ensures.crash told).1 (c.raise.ensures.crash told).0 (c.raise.ensures.moments told)).log_now
    (λ s. g.met.D.Disk.reads_log c.raise.new.disk s told)

pub returns-clause-crash : goal.returns-clause-crash
returns-clause-crash g c told =
    after_raise g.D.Disk.moment g.D.Disk.left_since g.D.Disk.may_log g.D.Disk.may_hold (forced_of c.args.self.now) c.args.disk.now c.raise.new.disk _ (c.raise.ensures.crash told).1 (c.raise.ensures.crash told).0 (c.raise.ensures.moments told)

use Rattle.std.proofs.Common.{refl}
use Rattle.log_records.specs.View.{record_of}
use Rattle.log_file.specs.List.{forced_of}
use Rattle.log_file.proofs.Crashing.{left_and_raised}
use Rattle.log_file.proofs.Steps.{gains_next, stays}
use Rattle.log_file.proofs.file.LogFile.change.Goals as goal

pub returns-in-Err-clause-stays : goal.returns-in-Err-clause-stays
returns-in-Err-clause-stays g c told = stays c.args.self.now c.leave.new.self _ _ _ _ c.leave.ensures.same.0 (c.leave.ensures.crash told).log_now (λ s. g.met.D.Disk.reads_log c.leave.new.disk s told)

pub returns-in-Err-raise-clause-crash : goal.returns-in-Err-raise-clause-crash
returns-in-Err-raise-clause-crash g c told =
    left_and_raised g.D.Disk.moment g.D.Disk.left_since g.D.Disk.may_log g.D.Disk.may_hold (forced_of c.args.self.now) c.args.disk.now c.leave.new.disk c.raise.new.disk _ _ (c.leave.ensures.crash told) (c.raise.ensures.crash told) (c.raise.ensures.moments told)

pub returns-in-Err-raise-clause-stays : goal.returns-in-Err-raise-clause-stays
returns-in-Err-raise-clause-stays g c told =
    stays c.args.self.now c.leave.new.self _ _ _ _ c.leave.ensures.same.0
    (left_and_raised g.D.Disk.moment g.D.Disk.left_since g.D.Disk.may_log g.D.Disk.may_hold (forced_of c.args.self.now) c.args.disk.now c.leave.new.disk c.raise.new.disk _ _ (c.leave.ensures.crash told) (c.raise.ensures.crash told) (c.raise.ensures.moments told)).log_now
    (λ s. g.met.D.Disk.reads_log c.raise.new.disk s told)

pub returns-clause-list : goal.returns-clause-list
returns-clause-list g c told =
    gains_next (record_of c.args.r.now) c.args.next c.args.self.now _ _ _ _ _ _ _ c.requires.named (c.in-Ok.ensures.left told) (c.in-Ok-raise.ensures.log told) (c.raise.ensures.crash told).1
    (record { segment_is = refl; forced_is = refl; used_is = refl; point_is = c.leave.ensures.same.0.point_is; at_is = c.leave.ensures.same.1 })

pub returns-clause-crash : goal.returns-clause-crash
returns-clause-crash g c told =
    left_and_raised g.D.Disk.moment g.D.Disk.left_since g.D.Disk.may_log g.D.Disk.may_hold (forced_of c.args.self.now) c.args.disk.now c.leave.new.disk c.raise.new.disk _ _ (c.leave.ensures.crash told) (c.raise.ensures.crash told) (c.raise.ensures.moments told)

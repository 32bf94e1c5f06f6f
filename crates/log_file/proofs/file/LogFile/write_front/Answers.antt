use Rattle.log_file.specs.List.{forced_of}
use Rattle.log_file.proofs.Crashing.{after_write, written}
use Rattle.log_file.proofs.file.LogFile.write_front.Goals as goal

pub returns-in-Err-clause-crash : goal.returns-in-Err-clause-crash
returns-in-Err-clause-crash g c told =
    after_write g.D.Disk.moment g.D.Disk.left_since g.D.Disk.may_log g.D.Disk.may_hold (forced_of c.args.self.now) c.args.disk.now c.log_write.new.self _ (λ i l. g.met.D.Disk.only_now c.args.disk.now i told l) (c.log_write.ensures.crash told).1 (c.log_write.ensures.crash told).0 (c.log_write.ensures.time told)

pub returns-in-Ok-log_sync-clause-crash : goal.returns-in-Ok-log_sync-clause-crash
returns-in-Ok-log_sync-clause-crash g c told =
    written g.D.Disk.moment g.D.Disk.left_since g.D.Disk.may_log g.D.Disk.may_hold (forced_of c.args.self.now) c.args.disk.now c.log_write.new.self c.log_sync.new.self _ (λ i l. g.met.D.Disk.only_now c.args.disk.now i told l) (λ i l. g.met.D.Disk.only_now c.log_write.new.self i told l)
    (c.log_write.ensures.crash told) (c.log_write.ensures.time told) (c.log_sync.ensures.crash told) (c.log_sync.ensures.time told)

pub returns-in-Err-log_sync-clause-crash : goal.returns-in-Err-log_sync-clause-crash
returns-in-Err-log_sync-clause-crash g c told =
    written g.D.Disk.moment g.D.Disk.left_since g.D.Disk.may_log g.D.Disk.may_hold (forced_of c.args.self.now) c.args.disk.now c.log_write.new.self c.log_sync.new.self _ (λ i l. g.met.D.Disk.only_now c.args.disk.now i told l) (λ i l. g.met.D.Disk.only_now c.log_write.new.self i told l)
    (c.log_write.ensures.crash told) (c.log_write.ensures.time told) (c.log_sync.ensures.crash told) (c.log_sync.ensures.time told)

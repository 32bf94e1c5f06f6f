use Rattle.std.proofs.Common.{refl}
use Rattle.log_file.proofs.Growing.{forced_grows}
use Rattle.log_file.proofs.Steps.{forces, stays}
use Rattle.log_file.proofs.file.LogFile.force.Goals as goal

pub returns-in-Err-clause-list : goal.returns-in-Err-clause-list
returns-in-Err-clause-list g c told = (tt, stays c.args.self.now c.args.self.now _ _ _ _ (record { segment_is = refl; forced_is = refl; used_is = refl; pending_is = refl; point_is = refl }) (c.write_front.ensures.crash told).log_now (λ s. g.met.D.Disk.reads_log c.write_front.new.disk s told))

pub returns-clause-forced : goal.returns-clause-forced
returns-clause-forced g c = λ told on. (forced_grows c.args.self.now _ _ _ _ on refl (c.in-Ok.ensures.written told).0 refl refl refl, (c.in-Ok.ensures.written told).1)

pub returns-clause-list : goal.returns-clause-list
returns-clause-list g c told = (forces c.args.self.now _ _ _ _ _ (λ on. (forced_grows c.args.self.now _ _ _ _ on refl (c.in-Ok.ensures.written told).0 refl refl refl, (c.in-Ok.ensures.written told).1)) refl refl, tt)

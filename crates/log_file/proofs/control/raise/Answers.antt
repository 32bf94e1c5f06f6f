use Rattle.std.proofs.Common.{List, ℕ, subst}
use Rattle.std.specs.Prelude.{Some}
use Rattle.device.specs.Disk.{NewPage, NoNewLog}
use Rattle.log_file.proofs.Crashing.{raise_begun, raised}
use Rattle.log_file.proofs.control.raise.Goals as goal

pub returns-in-Err-clause-moments : goal.returns-in-Err-clause-moments
returns-in-Err-clause-moments g c told =
    raise_begun g.D.Disk.moment g.D.Disk.left_since g.D.Disk.may_log g.D.Disk.may_hold (record { segment = 0; offset = 0 }) c.args.disk.now c.page_write.new.self c.args.next c.args.point (λ i l. g.met.D.Disk.only_now c.args.disk.now i told l)
    (subst (λ (b : List ℕ). NewPage 0 0 (Some b) (g.D.Disk.may_hold c.args.disk.now) (g.D.Disk.may_hold c.page_write.new.self) × NoNewLog (g.D.Disk.may_log c.args.disk.now) (g.D.Disk.may_log c.page_write.new.self)) c.put_control.ensures (c.page_write.ensures.crash told))
    (c.page_write.ensures.time told)

pub returns-in-Ok-page_sync-clause-moments : goal.returns-in-Ok-page_sync-clause-moments
returns-in-Ok-page_sync-clause-moments g c told =
    raised g.D.Disk.moment g.D.Disk.left_since g.D.Disk.may_log g.D.Disk.may_hold (record { segment = 0; offset = 0 }) c.args.disk.now c.page_write.new.self c.page_sync.new.self c.args.next c.args.point (λ i l. g.met.D.Disk.only_now c.args.disk.now i told l) (λ i l. g.met.D.Disk.only_now c.page_write.new.self i told l)
    (subst (λ (b : List ℕ). NewPage 0 0 (Some b) (g.D.Disk.may_hold c.args.disk.now) (g.D.Disk.may_hold c.page_write.new.self) × NoNewLog (g.D.Disk.may_log c.args.disk.now) (g.D.Disk.may_log c.page_write.new.self)) c.put_control.ensures (c.page_write.ensures.crash told))
    (c.page_write.ensures.time told) (c.page_sync.ensures.crash told) (c.page_sync.ensures.time told)

pub returns-in-Err-page_sync-clause-moments : goal.returns-in-Err-page_sync-clause-moments
returns-in-Err-page_sync-clause-moments g c told =
    raised g.D.Disk.moment g.D.Disk.left_since g.D.Disk.may_log g.D.Disk.may_hold (record { segment = 0; offset = 0 }) c.args.disk.now c.page_write.new.self c.page_sync.new.self c.args.next c.args.point (λ i l. g.met.D.Disk.only_now c.args.disk.now i told l) (λ i l. g.met.D.Disk.only_now c.page_write.new.self i told l)
    (subst (λ (b : List ℕ). NewPage 0 0 (Some b) (g.D.Disk.may_hold c.args.disk.now) (g.D.Disk.may_hold c.page_write.new.self) × NoNewLog (g.D.Disk.may_log c.args.disk.now) (g.D.Disk.may_log c.page_write.new.self)) c.put_control.ensures (c.page_write.ensures.crash told))
    (c.page_write.ensures.time told) (c.page_sync.ensures.crash told) (c.page_sync.ensures.time told)

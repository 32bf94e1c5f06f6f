use Rattle.std.proofs.Common.{inl}
use Rattle.log_file.specs.List.{forced_of}
use Rattle.log_file.proofs.Crashing.{after_none, with_pages}
use Rattle.log_file.proofs.file.LogFile.append_named.Goals as goal

pub returns-then-next-eq4294967295-clause-crash : goal.returns-then-next-eq4294967295-clause-crash
returns-then-next-eq4294967295-clause-crash g c told =
    with_pages g.D.Disk.moment g.D.Disk.left_since g.D.Disk.may_log g.D.Disk.may_hold (forced_of c.args.self.now) c.args.disk.now c.args.disk.now _ _
    (after_none g.D.Disk.moment g.D.Disk.left_since g.D.Disk.may_log g.D.Disk.may_hold (forced_of c.args.self.now) c.args.disk.now (λ i l. g.met.D.Disk.only_now c.args.disk.now i told l)) (λ n p x m. inl m)

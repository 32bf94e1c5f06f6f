use Rattle.std.proofs.Common.{◌≡◌, length, arith}
use Rattle.std.proofs.lemmas.List.{with_items_is}
use Rattle.log_file.specs.List.{forced_of}
use Rattle.log_file.proofs.Crashing.{after_none}
use Rattle.log_file.proofs.Records.{fetched}
use Rattle.log_file.proofs.file.LogFile.fetch.Goals as goal

pub returns-then-at-self-clause-crash : goal.returns-then-at-self-clause-crash
returns-then-at-self-clause-crash g c told = c.read_disk.ensures.crash told (forced_of c.args.self.now)

pub returns-then-offset-self-clause-bytes : goal.returns-then-offset-self-clause-bytes
returns-then-offset-self-clause-bytes g c = λ told on.
    let len : length c.read_disk-then-offset-self.new.into ≡ c.args.self.now.window.len = omega (arith, c.as_mut_slice-then-offset-self.ensures.len) in
    fetched c.read_disk-then-offset-self.result c.args.self.now (g.D.Disk.log c.args.disk.now) c.args.at c.read_disk-then-offset-self.new.into _ c.args.n _ on (omega (arith, c.if-at-self.false)) c.if-offset-self.true (omega (arith, c.min-m.ensures)) (with_items_is c.args.self.now.window c.read_disk-then-offset-self.new.into len)
    (c.read_disk-then-offset-self.ensures.bytes told)

pub returns-then-offset-self-clause-crash : goal.returns-then-offset-self-clause-crash
returns-then-offset-self-clause-crash g c told = c.read_disk-then-offset-self.ensures.crash told (forced_of c.args.self.now)

pub returns-clause-crash : goal.returns-clause-crash
returns-clause-crash g c told = after_none g.D.Disk.moment g.D.Disk.left_since g.D.Disk.may_log g.D.Disk.may_hold (forced_of c.args.self.now) c.args.disk.now (λ i l. g.met.D.Disk.only_now c.args.disk.now i told l)

use Rattle.std.proofs.Common.{◌≡◌, ◌∙◌, take, ap, subst}
use Rattle.dby_types.specs.declared.number.Lsn.{Lsn}
use Rattle.device.specs.Disk.{Segments, SameLog}
use Rattle.log_file.specs.Crash.{Crashes}
use Rattle.log_file.specs.List.{forced_of, in_log}
use Rattle.log_file.proofs.Crashing.{then_after}
use Rattle.log_file.specs.Tail.{Same}
use Rattle.log_file.proofs.Records.{finds, gives, gives_same, part_same, same_bytes, told_front}
use Rattle.log_file.proofs.Steps.{same_again, same_forced, stays, still_on}
use Rattle.log_file.proofs.file.LogFile.advance.Goals as goal

pub returns-in-Err-clause-list : goal.returns-in-Err-clause-list
returns-in-Err-clause-list g c told = stays c.args.self.now c.fetch.new.self _ _ _ _ c.fetch.ensures.same (c.fetch.ensures.crash told).log_now (λ s. g.met.D.Disk.reads_log c.fetch.new.disk s told)

pub returns-in-Err-fetch-clause-crash : goal.returns-in-Err-fetch-clause-crash
returns-in-Err-fetch-clause-crash g c told =
    then_after g.D.Disk.moment g.D.Disk.left_since g.D.Disk.may_log g.D.Disk.may_hold (forced_of c.args.self.now) c.args.disk.now c.fetch.new.disk c.fetch-2.new.disk _ _ (c.fetch.ensures.crash told)
    (subst (λ (end : Lsn). Crashes g.D.Disk.moment g.D.Disk.left_since g.D.Disk.may_log g.D.Disk.may_hold end c.fetch.new.disk c.fetch-2.new.disk (g.D.Disk.may_hold c.fetch.new.disk)) (same_forced c.args.self.now c.fetch.new.self c.fetch.ensures.same) (c.fetch-2.ensures.crash told))
    (c.fetch.ensures.crash told).pages_now

pub returns-in-Err-fetch-clause-list : goal.returns-in-Err-fetch-clause-list
returns-in-Err-fetch-clause-list g c told =
    let crash : Crashes g.D.Disk.moment g.D.Disk.left_since g.D.Disk.may_log g.D.Disk.may_hold (forced_of c.args.self.now) c.args.disk.now c.fetch-2.new.disk (g.D.Disk.may_hold c.args.disk.now) =
    then_after g.D.Disk.moment g.D.Disk.left_since g.D.Disk.may_log g.D.Disk.may_hold (forced_of c.args.self.now) c.args.disk.now c.fetch.new.disk c.fetch-2.new.disk _ _ (c.fetch.ensures.crash told)
    (subst (λ (end : Lsn). Crashes g.D.Disk.moment g.D.Disk.left_since g.D.Disk.may_log g.D.Disk.may_hold end c.fetch.new.disk c.fetch-2.new.disk (g.D.Disk.may_hold c.fetch.new.disk)) (same_forced c.args.self.now c.fetch.new.self c.fetch.ensures.same) (c.fetch-2.ensures.crash told))
    (c.fetch.ensures.crash told).pages_now in
    stays c.args.self.now c.fetch-2.new.self _ _ _ _ (same_again c.args.self.now c.fetch.new.self c.fetch-2.new.self c.fetch.ensures.same c.fetch-2.ensures.same) crash.log_now (λ s. g.met.D.Disk.reads_log c.fetch-2.new.disk s told)

pub returns-clause-found : goal.returns-clause-found
returns-clause-found g c = λ told on.
    let log : Segments = g.D.Disk.log c.args.disk.now in
    let at : Lsn = c.args.self.now.at in
    let still = c.in-Ok.ensures.seen told in
    let again : in_log c.fetch.new.self (g.D.Disk.log c.fetch.new.disk) c.args.self.now.at ≡ in_log c.args.self.now (g.D.Disk.log c.args.disk.now) c.args.self.now.at =
    same_bytes c.args.self.now c.fetch.new.self (g.D.Disk.log c.args.disk.now) (g.D.Disk.log c.fetch.new.disk) c.fetch.ensures.same still c.args.self.now.at in
    let part = part_same _ _ c.fetch-2.new.self.window.items c.told_size-size.result c.in-Ok-fetch.n again
    (c.in-Ok-fetch.ensures.bytes told (still_on c.args.self.now c.fetch.new.self (g.D.Disk.log c.args.disk.now) (g.D.Disk.log c.fetch.new.disk) c.fetch.ensures.same still on)) in
    let front : take c.in-Ok.n c.deref.result.now ≡ take 40 (in_log c.args.self.now (g.D.Disk.log c.args.disk.now) c.args.self.now.at) =
    ap (take c.in-Ok.n) c.deref.ensures.value ∙ told_front c.args.self.now.at (in_log c.args.self.now (g.D.Disk.log c.args.disk.now) c.args.self.now.at) c.fetch.new.self.window.items c.in-Ok.n (c.in-Ok.ensures.bytes told on) in
    finds (in_log c.args.self.now (g.D.Disk.log c.args.disk.now)) c.args.self.now.at c.fetch-2.new.self c.judge.new.self c.told_size-size.result c.in-Ok-fetch.n part (λ r rest h. c.told_size-size.ensures.told c.args.self.now.at _ rest r front h)
    c.judge.ensures.judges c.judge.ensures.from c.judge.ensures.same.1

pub returns-clause-order : goal.returns-clause-order
returns-clause-order g c = λ told on.
    let same : Same c.args.self.now c.judge.new.self =
    same_again c.args.self.now c.fetch-2.new.self c.judge.new.self (same_again c.args.self.now c.fetch.new.self c.fetch-2.new.self c.fetch.ensures.same c.fetch-2.ensures.same) c.judge.ensures.same.0 in
    let still : SameLog (g.D.Disk.log c.args.disk.now) (g.D.Disk.log c.fetch-2.new.disk) = λ s. c.in-Ok-fetch.ensures.seen told s ∙ c.in-Ok.ensures.seen told s in (
      still_on c.args.self.now c.judge.new.self (g.D.Disk.log c.args.disk.now) (g.D.Disk.log c.fetch-2.new.disk) same still on,
      λ rs h. gives_same (in_log c.args.self.now (g.D.Disk.log c.args.disk.now)) (in_log c.judge.new.self (g.D.Disk.log c.fetch-2.new.disk)) rs c.judge.new.self
          (same_bytes c.args.self.now c.judge.new.self (g.D.Disk.log c.args.disk.now) (g.D.Disk.log c.fetch-2.new.disk) same still)
          (gives (in_log c.args.self.now (g.D.Disk.log c.args.disk.now)) c.args.self.now.at c.judge.new.self (returns-clause-found g c told on) rs h),
    )

pub returns-clause-crash : goal.returns-clause-crash
returns-clause-crash g c told =
    then_after g.D.Disk.moment g.D.Disk.left_since g.D.Disk.may_log g.D.Disk.may_hold (forced_of c.args.self.now) c.args.disk.now c.fetch.new.disk c.fetch-2.new.disk _ _ (c.fetch.ensures.crash told)
    (subst (λ (end : Lsn). Crashes g.D.Disk.moment g.D.Disk.left_since g.D.Disk.may_log g.D.Disk.may_hold end c.fetch.new.disk c.fetch-2.new.disk (g.D.Disk.may_hold c.fetch.new.disk)) (same_forced c.args.self.now c.fetch.new.self c.fetch.ensures.same) (c.fetch-2.ensures.crash told))
    (c.fetch.ensures.crash told).pages_now

pub returns-clause-list : goal.returns-clause-list
returns-clause-list g c told =
    let crash : Crashes g.D.Disk.moment g.D.Disk.left_since g.D.Disk.may_log g.D.Disk.may_hold (forced_of c.args.self.now) c.args.disk.now c.fetch-2.new.disk (g.D.Disk.may_hold c.args.disk.now) =
    then_after g.D.Disk.moment g.D.Disk.left_since g.D.Disk.may_log g.D.Disk.may_hold (forced_of c.args.self.now) c.args.disk.now c.fetch.new.disk c.fetch-2.new.disk _ _ (c.fetch.ensures.crash told)
    (subst (λ (end : Lsn). Crashes g.D.Disk.moment g.D.Disk.left_since g.D.Disk.may_log g.D.Disk.may_hold end c.fetch.new.disk c.fetch-2.new.disk (g.D.Disk.may_hold c.fetch.new.disk)) (same_forced c.args.self.now c.fetch.new.self c.fetch.ensures.same) (c.fetch-2.ensures.crash told))
    (c.fetch.ensures.crash told).pages_now in
    stays c.args.self.now c.judge.new.self _ _ _ _
    (same_again c.args.self.now c.fetch-2.new.self c.judge.new.self (same_again c.args.self.now c.fetch.new.self c.fetch-2.new.self c.fetch.ensures.same c.fetch-2.ensures.same) c.judge.ensures.same.0) crash.log_now
    (λ s. g.met.D.Disk.reads_log c.fetch-2.new.disk s told)

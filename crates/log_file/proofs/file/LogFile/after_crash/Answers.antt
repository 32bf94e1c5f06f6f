use Rattle.std.proofs.Common.{List, [], drop, subst, sym, append-nil}
use Rattle.log_records.specs.Content.{LogRecord}
use Rattle.log_file.specs.Crash.{OnlyAppended, ReadsFront}
use Rattle.log_file.specs.List.{forced_of, on_disk}
use Rattle.log_file.proofs.Prefix.{kept_left, prefix}
use Rattle.log_file.proofs.file.LogFile.after_crash.Goals as goal

pub returns-clause-now : goal.returns-clause-now
returns-clause-now g c = λ told from rs n h i image only.
    subst (λ (xs : List LogRecord). ReadsFront (on_disk i.log) from xs n) (append-nil rs)
    (prefix c.args.self.now _ i.log from rs [] n h.list (λ s. h.safe s (i.log s) (image.1 s)) tt (subst (λ (xs : List LogRecord). OnlyAppended (on_disk i.log) (forced_of c.args.self.now) xs) (sym (append-nil (drop n rs))) only))

pub returns-clause-within : goal.returns-clause-within
returns-clause-within g c = λ told from rs more n h i keeps are only. prefix c.args.self.now _ i.log from rs more n h.list (λ s. kept_left c.args.self.now _ _ from rs n h s (i.log s) (keeps s)) are only

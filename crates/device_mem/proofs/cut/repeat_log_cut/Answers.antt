use Rattle.std.proofs.Common.{ℕ, [], ◌≡◌, reverse, sym, ◌∙◌}
use Rattle.device_mem.specs.Calls.{log_of}
use Rattle.device_mem.proofs.CutLemmas.{ok-cut, ok-none}
use Rattle.device_mem.proofs.cut.repeat_log_cut.Goals as goal

pub returns-in-Some-clause-log : goal.returns-in-Some-clause-log
returns-in-Some-clause-log c = ok-cut c.repeat_cut_at.result c.args.n (reverse c.args.calls.now) c.in-Some.at (log_of c.repeat_cut_at.new.to) ((s : ℕ) → log_of c.args.to.now s ≡ []) (sym c.place.ensures ∙ c.in-Some.is) c.repeat_cut_at.ensures.log

pub returns-in-None-clause-log : goal.returns-in-None-clause-log
returns-in-None-clause-log c = ok-none c.repeat_log.result c.args.n (reverse c.args.calls.now) (log_of c.repeat_log.new.to) ((s : ℕ) → log_of c.args.to.now s ≡ []) (sym c.place.ensures ∙ c.in-None.is) c.repeat_log.ensures.log

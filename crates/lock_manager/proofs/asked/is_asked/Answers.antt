use Rattle.std.proofs.Common.{◌∙◌, ap}
use Rattle.std.specs.Option.{is_some}
use Rattle.lock_manager.proofs.AskedLemmas.{first_asks}
use Rattle.lock_manager.proofs.asked.is_asked.Goals as goal

pub returns : goal.returns
returns c = record { exact = c.is_some.ensures ∙ ap is_some (c.request_at.ensures.exact ∙ c.requires c.args.name 0) ∙ first_asks c.args.name c.args.line.now }

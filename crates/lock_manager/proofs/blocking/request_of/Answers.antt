use Rattle.std.proofs.Common.{◌∙◌, sym}
use Rattle.lock_modes.specs.declared.entry.Request.{Request}
use Rattle.lock_modes.specs.Names.{same_txn}
use Rattle.lock_manager.proofs.BlockingLemmas.{found_first, found_second}
use Rattle.lock_manager.proofs.blocking.request_of.Goals as goal

pub returns-in-Some : goal.returns-in-Some
returns-in-Some c = record { exact = sym (found_first (λ (r : Request). same_txn r.txn c.args.t) c.args.conversions.now c.args.requests.now c.in-Some.r (sym c.in-Some.ensures.exact)) }

pub returns-in-None : goal.returns-in-None
returns-in-None c = record { exact = c.request_in-in-None.ensures.exact ∙ sym (found_second (λ (r : Request). same_txn r.txn c.args.t) c.args.conversions.now c.args.requests.now (sym c.in-None.ensures.exact)) }

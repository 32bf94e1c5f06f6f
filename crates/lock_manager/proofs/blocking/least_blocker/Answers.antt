use Rattle.std.proofs.Common.{◌∙◌, ◌++◌, sym, subst, Option}
use Rattle.dby_types.specs.declared.number.TxnNo.{TxnNo}
use Rattle.lock_modes.specs.Waits.{ahead, blocks}
use Rattle.lock_manager.specs.Blocking.{IsLeast}
use Rattle.lock_manager.specs.Owners.{grants_in}
use Rattle.lock_manager.proofs.BlockingLemmas.{least_first, least_second}
use Rattle.lock_manager.proofs.blocking.least_blocker.Goals as goal

pub returns-then-has_request : goal.returns-then-has_request
returns-then-has_request c =
    let g = grants_in c.args.ledger.now.owners.entries in
    record {
      exact = subst (λ (o : Option TxnNo). IsLeast (λ h. blocks g (ahead c.args.r.txn (c.args.conversions.now ++ c.args.requests.now)) c.args.r h) c.args.above o) (sym c.least_asker-asker.ensures.exact)
          (least_first g c.args.conversions.now c.args.requests.now c.args.r c.args.above c.least_in_way-holder.result (sym c.has_request.ensures.exact ∙ c.if-has_request.true) c.least_in_way-holder.ensures.exact);
    }

pub returns : goal.returns
returns c =
    let g = grants_in c.args.ledger.now.owners.entries in
    record {
      exact = subst (λ (o : Option TxnNo). IsLeast (λ h. blocks g (ahead c.args.r.txn (c.args.conversions.now ++ c.args.requests.now)) c.args.r h) c.args.above o) (sym c.least_asker.ensures.exact)
          (least_second g c.args.conversions.now c.args.requests.now c.args.r c.args.above c.least_in_way-holder.result c.least_asker-asker.result (sym c.has_request.ensures.exact ∙ c.if-has_request.false) c.least_in_way-holder.ensures.exact c.least_asker-asker.ensures.exact);
    }

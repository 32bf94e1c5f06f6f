use Rattle.std.proofs.Common.{◌∙◌, ap, ◌++◌, List, append-nil}
use Rattle.dby_types.specs.declared.number.TxnNo.{TxnNo}
use Rattle.lock_modes.specs.declared.mode.Mode.{Mode}
use Rattle.std.proofs.Common.{subst}
use Rattle.lock_manager.specs.Holders.{holders_in, IsHolders}
use Rattle.lock_manager.specs.Owners.{Owners, grants_in}
use Rattle.lock_manager.proofs.HoldersLemmas.{all_listed}
use Rattle.lock_manager.proofs.holders.holders.Goals as goal

pub returns : goal.returns
returns c =
    let all = c.loop-txn.invariant ∙ ap (λ (es : Owners). c.loop-txn.out ++ holders_in c.args.name es) c.in-None.ensures.steps.0 ∙ append-nil c.loop-txn.out in
    record {
      ok = subst (λ (hs : List (TxnNo × Mode)). IsHolders (grants_in c.args.owners.now.entries) c.args.name hs) all (all_listed c.args.name c.args.owners.now.entries c.len.ensures.unique);
    }

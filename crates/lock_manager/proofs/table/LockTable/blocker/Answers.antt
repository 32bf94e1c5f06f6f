use Rattle.std.proofs.Common.{◌≡◌, ◌++◌, ◌∙◌, sym, subst, refl, List, Some, None}
use Rattle.std.specs.List.{find}
use Rattle.lock_modes.specs.declared.entry.Request.{Request}
use Rattle.lock_modes.specs.Names.{same_txn}
use Rattle.lock_modes.specs.Waits.{ahead, blocks, waiting}
use Rattle.lock_manager.specs.Blocking.{IsLeast}
use Rattle.lock_manager.specs.Owners.{grants_in}
use Rattle.lock_manager.specs.Table.{lock}
use Rattle.lock_manager.proofs.BlockingLemmas.{unblocked_by, blocked_by, edge_waits, edge_request}
use Rattle.lock_manager.proofs.table.LockTable.blocker.Goals as goal

pub returns-in_default-least_blocker : goal.returns-in_default-least_blocker
returns-in_default-least_blocker c =
    let l = lock c.args.self.now in
    let r = c.in-Some.r in
    let found : waiting l c.args.t ≡ Some r = sym (c.in-Some.ensures.exact ∙ (λ i. find (λ q. same_txn q.txn c.args.t) (c.deref.ensures.value i ++ c.deref-2.ensures.value i))) in
    let least = subst (λ (q : List Request). IsLeast (λ h. blocks (grants_in c.args.self.now.ledger.owners.entries) (ahead r.txn q) r h) c.args.above None) (λ i. c.deref-3.ensures.value i ++ c.deref-4.ensures.value i) c.in_default-least_blocker.ensures.exact in
    record { edge = unblocked_by l c.args.t c.args.above r found least }

pub returns : goal.returns
returns c =
    let l = lock c.args.self.now in
    let r = c.in-Some.r in
    let holder = c.in-Some-least_blocker.holder in
    let found : waiting l c.args.t ≡ Some r = sym (c.in-Some.ensures.exact ∙ (λ i. find (λ q. same_txn q.txn c.args.t) (c.deref.ensures.value i ++ c.deref-2.ensures.value i))) in
    let least = subst (λ (q : List Request). IsLeast (λ h. blocks (grants_in c.args.self.now.ledger.owners.entries) (ahead r.txn q) r h) c.args.above (Some holder)) (λ i. c.deref-3.ensures.value i ++ c.deref-4.ensures.value i) c.in-Some-least_blocker.ensures.exact in
    record {
      edge = blocked_by l c.args.t c.args.above r holder _ found least
          (record { waits = edge_request l c.args.t r found; blocked = edge_waits l c.args.t holder c.args.above r found least; number = c.count-locks.ensures.exact }) refl refl;
    }

use Rattle.std.proofs.Common.{◌≡◌, None, Option, sym, ◌∙◌, subst}
use Rattle.std.specs.HashMap.{PutsEntry}
use Rattle.dby_types.specs.contracts.number.TxnNoPartialEq.TheImpl.{eq-value}
use Rattle.lock_manager.specs.declared.owner.Owner.{Owner}
use Rattle.lock_manager.specs.Owners.{owner_of}
use Rattle.lock_manager.proofs.OwnersLemmas.{opened, nobody}
use Rattle.lock_manager.proofs.owners.open.Goals as goal

pub returns-clause-same : goal.returns-clause-same
returns-clause-same c =
    let none : owner_of c.args.owners.now.entries c.args.txn ≡ None = nobody (owner_of c.args.owners.now.entries c.args.txn) (sym c.contains_key.ensures ∙ c.if-contains_key.false) in
    let old : c.in_ok-insert.field-0 ≡ None = c.in_ok-insert.ensures.old ∙ none in
    let put = subst (λ (x : Option Owner). PutsEntry eq-value.it c.args.owners.now c.insert.new.self c.args.txn c.new.result x) old c.in_ok-insert.ensures.entries in
    opened c.args.owners.now.entries c.insert.new.self.entries c.args.txn c.new.result c.new.ensures.modes c.new.ensures.left c.new.ensures.waits c.new.ensures.victim none c.in_ok-insert.ensures.updates.0 put

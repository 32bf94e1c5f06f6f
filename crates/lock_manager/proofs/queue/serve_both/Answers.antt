use Rattle.std.proofs.Common.{◌++◌, List, [], sym, subst}
use Rattle.lock_manager.specs.Freed.{frees, StillBlocked}
use Rattle.lock_manager.specs.Owners.{grants_in}
use Rattle.lock_manager.proofs.FreedLemmas.{all_still, still_front}
use Rattle.lock_modes.specs.declared.entry.Request.{Request}
use Rattle.lock_manager.specs.Serve.{Served}
use Rattle.lock_manager.proofs.BothLemmas.{waiters_front, waiters_second, served_both, unserved}
use Rattle.lock_manager.proofs.queue.serve_both.Goals as goal

pub serve-requires-clause-waiters : goal.serve-requires-clause-waiters
serve-requires-clause-waiters c = waiters_front c.args.ledger.now.owners.entries c.args.conversions.now.line.items c.args.requests.now.line.items c.requires.waiters

pub serve-requires-2-clause-waiters : goal.serve-requires-2-clause-waiters
serve-requires-2-clause-waiters c =
    let first = subst (λ (x : List Request). Served c.args.ledger.now.owners.entries c.serve.new.ledger.owners.entries x c.args.conversions.now.line.items c.serve.new.line.line.items c.args.woken.now.items c.serve.new.woken.items) c.new-nobody.ensures.none c.serve.ensures.served in
    waiters_second c.args.ledger.now.owners.entries c.serve.new.ledger.owners.entries c.args.conversions.now.line.items c.args.requests.now.line.items c.serve.new.line.line.items c.args.woken.now.items c.serve.new.woken.items c.requires.waiters first

pub returns-clause-served : goal.returns-clause-served
returns-clause-served c =
    let first = subst (λ (x : List Request). Served c.args.ledger.now.owners.entries c.serve.new.ledger.owners.entries x c.args.conversions.now.line.items c.serve.new.line.line.items c.args.woken.now.items c.serve.new.woken.items) c.new-nobody.ensures.none c.serve.ensures.served in
    served_both c.args.ledger.now.owners.entries c.serve.new.ledger.owners.entries c.serve-2.new.ledger.owners.entries c.args.conversions.now.line.items c.args.requests.now.line.items c.serve.new.line.line.items c.serve-2.new.line.line.items c.args.woken.now.items c.serve.new.woken.items c.serve-2.new.woken.items
    c.requires.waiters first c.serve-2.ensures.served

pub serve-requires-clause-still : goal.serve-requires-clause-still
serve-requires-clause-still c =
    subst (λ (x : List Request). StillBlocked (frees c.args.freed.now) (grants_in c.args.ledger.now.owners.entries) x c.args.conversions.now.line.items) (sym c.new-nobody.ensures.none)
    (still_front (frees c.args.freed.now) (grants_in c.args.ledger.now.owners.entries) [] c.args.conversions.now.line.items c.args.requests.now.line.items c.requires.still)

pub serve-requires-2-clause-still : goal.serve-requires-2-clause-still
serve-requires-2-clause-still c =
    let os' = c.serve.new.ledger.owners.entries in
    let rs = c.args.requests.now.line.items in
    let none = c.new-nobody.ensures.none in
    let whole = subst (λ (x : List Request). StillBlocked (frees c.args.freed.now) (grants_in c.args.ledger.now.owners.entries) x (c.args.conversions.now.line.items ++ rs)) (sym none) c.requires.still in
    subst (λ (x : List Request). StillBlocked (frees c.args.freed.now) (grants_in os') (x ++ c.serve.new.line.line.items) rs) none (c.serve.ensures.still rs whole)

pub returns-then-not-may_wake-clause-served : goal.returns-then-not-may_wake-clause-served
returns-then-not-may_wake-clause-served c =
    let cs = c.args.conversions.now.line.items in
    let rs = c.args.requests.now.line.items in
    let os = c.args.ledger.now.owners.entries in
    unserved os cs rs c.args.woken.now.items c.requires.waiters
    (all_still (frees c.args.freed.now) (grants_in os) [] (cs ++ rs) (c.may_wake.ensures.none c.if-not-may_wake.true) c.requires.still)

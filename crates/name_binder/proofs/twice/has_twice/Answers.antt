use Rattle.name_binder.proofs.Seen.{saw_new, saw_twice}
use Rattle.name_binder.proofs.twice.has_twice.Goals as goal

pub returns-then-not-branch : goal.returns-then-not-branch
returns-then-not-branch c = saw_twice _ _ _ _ _ _ c.names-test.true c.names.invariant c.in_ok-is_new.ensures c.if-not-branch.true

pub names-preserved : goal.names-preserved
names-preserved c = saw_new _ _ _ _ _ _ c.names-test.true c.names.invariant c.in_ok-is_new.ensures c.if-not-branch.false

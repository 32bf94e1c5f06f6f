use Rattle.std.proofs.Common.{◌≡◌, ◌∙◌, ap, cond, true}
use Rattle.std.specs.Prelude.{◌&&◌}
use Rattle.dby_types.specs.declared.number.TxnNo.{TxnNo}
use Rattle.lock_modes.specs.declared.event.LockEvent.TheVariants.{Granted}
use Rattle.lock_modes.specs.declared.mode.Mode.{Mode}
use Rattle.lock_modes.specs.declared.mode.Mode.TheVariants.{TIs}
use Rattle.lock_modes.specs.declared.name.LockName.{LockName}
use Rattle.lock_modes.specs.declared.name.LockName.TheVariants.{Table}
use Rattle.lock_modes.specs.Lock.{Lock, apply, has_grant}
use Rattle.lock_modes.specs.Modes.{is_held, with_mode}
use Rattle.lock_modes.specs.Names.{same_name}
use Rattle.lock_modes.proofs.ModesLemmas.{held_with}
use Rattle.lock_modes.proofs.NamesLemmas.{txn_refl, name_refl}
use Rattle.lock_manager.specs.Table.{lock}
use Rattle.lock_manager.proofs.tests.escalates.Goals as goal

-- who was granted a mode on a name has something on it
held_then : (l : Lock) (t : TxnNo) (n : LockName) (m : Mode) → has_grant (apply l (Granted t n m)).grants t n ≡ true
held_then l t n m =
    ap (λ b. is_held (cond (b && same_name n n) (with_mode (l.grants t n) m) (l.grants t n))) (txn_refl t)
    ∙ ap (λ b. is_held (cond b (with_mode (l.grants t n) m) (l.grants t n))) (name_refl n) ∙ held_with (l.grants t n) m

pub escalate-requires-clause-held : goal.escalate-requires-clause-held
escalate-requires-clause-held c =
    ap (λ (x : Lock). has_grant x.grants c.args.t (Table 16)) (c.try_lock.ensures.ok c.in-Granted.is) ∙ held_then (lock c.args.l.now) c.args.t (Table 16) TIs

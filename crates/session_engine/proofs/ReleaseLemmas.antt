-- How many events a release makes.
use Rattle.std.proofs.Common.{◌≡◌, ◌+◌, ◌≤◌, List, [], ◌∷◌, ◌++◌, length, Bool, true, false, sym, ◌∙◌, ap, subst, arith, inl, inr}
use Rattle.std.specs.Prelude.{cond, not}
use Rattle.std.specs.List.{filter}
use Rattle.dby_types.specs.declared.number.TxnNo.{TxnNo}
use Rattle.lock_modes.specs.declared.entry.Request.{Request}
use Rattle.lock_modes.specs.declared.event.LockEvent.TheVariants.{ReleasedAll}
use Rattle.lock_modes.specs.Lock.{Lock, Grants, queue, apply, granted}
use Rattle.lock_modes.specs.Names.{same_txn}
use Rattle.lock_modes.specs.Serving.{Serves}
use Rattle.lock_manager.specs.declared.table.LockTable.{LockTable}
use Rattle.lock_manager.specs.Table.{lock, woken_of, Gives}
use Rattle.session_engine.proofs.QueueLemmas.{queue_released}

serves_length : (g : Grants) (before rs woken left : List Request) → Serves g before rs woken left → length woken + length left ≡ length rs
serves_length g before [] woken left s = (let w : length woken ≡ 0 = ap length s.0 in let l : length left ≡ 0 = ap length s.1 in omega (arith, w, l))
serves_length g before (r ∷ rs) woken left (inl s) =
    let rest = serves_length (granted g r) before rs s.0 left s.3 in
    let w : length woken ≡ length s.0 + 1 = ap length s.1 ∙ omega arith in omega (arith, rest, w)
serves_length g before (r ∷ rs) woken left (inr s) =
    let rest = serves_length g (before ++ r ∷ []) rs woken s.0 s.3 in
    let l : length left ≡ length s.0 + 1 = ap length s.1 ∙ omega arith in omega (arith, rest, l)

fewer : (p : Request → Bool) (rs : List Request) → length (filter p rs) ≤ length rs
fewer p [] = omega arith
fewer p (r ∷ rs) = by (p r) (fewer p rs)
  where
    by : (b : Bool) → length (filter p rs) ≤ length rs → length (cond b (r ∷ filter p rs) (filter p rs)) ≤ length (r ∷ rs)
    by true h = omega (arith, h)
    by false h = omega (arith, h)

-- the grants and those that still wait are no more than those that waited
pub given_length : (old new : LockTable) (txn : TxnNo) → (g : Gives old new (ReleasedAll txn ∷ [])) → length g.given + length (queue (lock new)) ≤ length (queue (lock old))
given_length old new txn g =
    let after : Lock = apply (lock old) (ReleasedAll txn) in
    let sum = serves_length after.grants [] (queue after) g.given (queue (lock new)) g.order in
    let less : length (queue after) ≤ length (queue (lock old)) = subst (λ rs. length rs ≤ length (queue (lock old))) (sym (queue_released (lock old) txn)) (fewer (λ r. not (same_txn r.txn txn)) (queue (lock old))) in
    omega (arith, sum, less)

pub given_are : (old new : LockTable) (txn : TxnNo) → (g : Gives old new (ReleasedAll txn ∷ [])) → woken_of old ≡ [] → woken_of new ≡ g.given
given_are old new txn g none = g.noted ∙ ap (λ rs. rs ++ g.given) none

-- Lists of edges in which nobody waits twice.
use Rattle.std.proofs.Common.{◌≡◌, Bool, true, false, refl, sym, ◌∙◌, List, [], ◌∷◌, ◌++◌}
use Rattle.std.specs.Prelude.{◌||◌}
use Rattle.std.proofs.lemmas.List.Folds.{list_any-append}
use Rattle.dby_types.specs.declared.number.TxnNo.{TxnNo}
use Rattle.lock_modes.specs.declared.cycle.Edge.{Edge}
use Rattle.lock_modes.specs.Names.{same_txn}
use Rattle.lock_modes.proofs.NamesLemmas.{txn_equiv}
use Rattle.deadlock_cycle.specs.Search.{is_on}
use Rattle.deadlock_cycle.specs.First.{IsOnce}
use Rattle.deadlock_cycle.proofs.SearchLemmas.{or_none}

-- what isn't true is false
pub not_so : (b : Bool) → (b ≡ true → ⊥) → b ≡ false
not_so true k = absurd (k refl)
not_so false k = refl

flip : (a b : TxnNo) → same_txn a b ≡ false → same_txn b a ≡ false
flip a b h = txn_equiv.symm b a ∙ h

-- who waits in no edge of a list, nor in one more
pub off_push : (s : TxnNo) (path : List Edge) (e : Edge) → is_on s path ≡ false → same_txn e.waiter s ≡ false → is_on s (path ++ e ∷ []) ≡ false
off_push s path e a b = list_any-append (λ e. same_txn e.waiter s) path (e ∷ []) ∙ (λ i. a i || (b i || false))

off_parts : (s : TxnNo) (path : List Edge) (e : Edge) → is_on s (path ++ e ∷ []) ≡ false → (is_on s path ≡ false) × (same_txn e.waiter s ≡ false)
off_parts s path e k =
    let both : (is_on s path || (same_txn e.waiter s || false)) ≡ false = sym (list_any-append (λ e. same_txn e.waiter s) path (e ∷ [])) ∙ k in
    let p = or_none (is_on s path) (same_txn e.waiter s || false) both in
    (p.0, (or_none (same_txn e.waiter s) false p.1).0)

-- one edge more, of somebody new
pub once_push : (path : List Edge) (e : Edge) → IsOnce path → is_on e.waiter path ≡ false → IsOnce (path ++ e ∷ [])
once_push [] e k off = (refl, tt)
once_push (p ∷ path) e k off =
    let q = or_none (same_txn p.waiter e.waiter) (is_on e.waiter path) off in
    (off_push p.waiter path e k.0 (flip p.waiter e.waiter q.0), once_push path e k.1 q.1)

-- without the last edge
pub once_front : (path : List Edge) (e : Edge) → IsOnce (path ++ e ∷ []) → IsOnce path
once_front [] e k = tt
once_front (p ∷ path) e k = ((off_parts p.waiter path e k.0).0, once_front path e k.1)

pub off_last : (path : List Edge) (e : Edge) → IsOnce (path ++ e ∷ []) → is_on e.waiter path ≡ false
off_last [] e k = refl
off_last (p ∷ path) e k =
    let a = flip e.waiter p.waiter (off_parts p.waiter path e k.0).1 in
    let b = off_last path e k.1 in
    λ i. a i || b i

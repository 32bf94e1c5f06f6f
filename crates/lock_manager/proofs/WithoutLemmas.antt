-- Taking a transaction's requests out of a line.
use Rattle.std.proofs.Common.{◌≡◌, ℕ, suc, ◌+◌, ◌<◌, ◌≤◌, Bool, true, false, refl, sym, ◌∙◌, ap, cond, List, [], ◌∷◌, ◌++◌, length, take, drop, get_or, arith, append_assoc, append-nil}
use Rattle.std.specs.Prelude.{◌||◌, not}
use Rattle.std.specs.List.{remove}
use Rattle.std.proofs.lemmas.Bool.{both_ways}
use Rattle.std.proofs.lemmas.List.{take_more, drop_more, take_all, drop_all, take_at, drop_at, length-take-le}
use Rattle.dby_types.specs.declared.number.TxnNo.{TxnNo}
use Rattle.lock_modes.specs.declared.entry.Request.{Request}
use Rattle.lock_modes.specs.Names.{same_txn}
use Rattle.lock_modes.specs.Lock.{without}
use Rattle.lock_manager.specs.Serve.{is_among}

or_none : (a b : Bool) → (a || b) ≡ false → (a ≡ false) × (b ≡ false)
or_none true b h = absurd (both_ways true h refl)
or_none false b h = (refl, h)

suc_is : (k : ℕ) → suc k ≡ k + 1
suc_is k = omega arith

-- nothing is taken from a line in which a transaction has no request
pub without_nobody : (t : TxnNo) (rs : List Request) → is_among t rs ≡ false → rs ≡ without t rs
without_nobody t [] h = refl
without_nobody t (r ∷ rs) h =
    let p = or_none (same_txn r.txn t) (is_among t rs) h in
    ap (λ xs. r ∷ xs) (without_nobody t rs p.1) ∙ ap (λ b. cond (not b) (r ∷ without t rs) (without t rs)) (sym p.0)

-- what stands from a place on, without a transaction's requests
from_place : (t : TxnNo) (line : List Request) (i : ℕ) (r : Request) (b : Bool) → i < length line → r ≡ get_or line i r → same_txn r.txn t ≡ b
    → without t (drop i line) ≡ cond (not b) (r ∷ without t (drop (i + 1) line)) (without t (drop (i + 1) line))
from_place t line i r b within read is =
    ap (without t) (drop_more line i r within ∙ ap (λ q. q ∷ drop (i + 1) line) (sym read))
    ∙ ap (λ w. cond (not w) (r ∷ without t (drop (i + 1) line)) (without t (drop (i + 1) line))) is

pub drop_starts : (t : TxnNo) (line : List Request) → without t line ≡ take 0 line ++ without t (drop 0 line)
drop_starts t line = refl

-- a request of another transaction stays
pub drop_stays : (t : TxnNo) (xs line : List Request) (i : ℕ) (r : Request) → i < length line → r ≡ get_or line i r → same_txn r.txn t ≡ false
    → xs ≡ take i line ++ without t (drop i line) → xs ≡ take (i + 1) line ++ without t (drop (i + 1) line)
drop_stays t xs line i r within read is rest =
    let one : List Request = r ∷ [] in
    rest ∙ ap (λ ys. take i line ++ ys) (from_place t line i r false within read is)
    ∙ sym (append_assoc (take i line) one (without t (drop (i + 1) line)))
    ∙ ap (λ ys. ys ++ without t (drop (i + 1) line)) (sym (take_more line i r within ∙ ap (λ q. take i line ++ q ∷ []) (sym read)))

-- a request of the transaction goes
pub drop_goes : (t : TxnNo) (xs line : List Request) (i : ℕ) (r : Request) → i < length line → r ≡ get_or line i r → same_txn r.txn t ≡ true
    → xs ≡ take i line ++ without t (drop i line) → xs ≡ take i (remove line i) ++ without t (drop i (remove line i))
drop_goes t xs line i r within read is rest =
    let long : length (take i line) ≡ i = length-take-le i line (omega (arith, within)) in
    rest ∙ ap (λ ys. take i line ++ ys) (from_place t line i r true within read is)
    ∙ ap (λ k. take i line ++ without t (drop k line)) (sym (suc_is i))
    ∙ sym (λ j. take_at (take i line) (drop (suc i) line) i long j ++ without t (drop_at (take i line) (drop (suc i) line) i long j))

pub drop_ends : (t : TxnNo) (xs line : List Request) (i : ℕ) → length line ≤ i → xs ≡ take i line ++ without t (drop i line) → line ≡ xs
drop_ends t xs line i end rest = sym (rest ∙ (λ j. take_all i line end j ++ without t (drop_all i line end j)) ∙ append-nil line)

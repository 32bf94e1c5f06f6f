-- Requests for names of which nothing was given back still wait.
use Rattle.std.proofs.Common.{◌≡◌, ℕ, Bool, true, false, refl, sym, ◌∙◌, ap, cond, List, [], ◌∷◌, ◌++◌, subst, Option, Some}
use Rattle.std.specs.Prelude.{◌&&◌, ◌||◌, not}
use Rattle.std.specs.List.{find}
use Rattle.std.proofs.lemmas.List.Folds.{list_any-append}
use Rattle.std.proofs.lemmas.List.Elements.{filter-append}
use Rattle.std.proofs.lemmas.Bool.{both_ways}
use Rattle.dby_types.specs.declared.number.TxnNo.{TxnNo}
use Rattle.lock_modes.specs.declared.entry.Request.{Request}
use Rattle.lock_modes.specs.declared.name.LockName.{LockName}
use Rattle.lock_modes.specs.Lock.{Grants, granted, released, released_all, without}
use Rattle.lock_modes.specs.Escalation.{released_rows}
use Rattle.lock_modes.specs.Modes.{compatible, hinders, is_held, no_modes, with_mode}
use Rattle.lock_modes.specs.Names.{same_name, same_txn, is_row_name}
use Rattle.lock_modes.specs.Waits.{asks_before, opposes, IsBlocked, AllBlocked}
use Rattle.lock_modes.proofs.NamesLemmas.{name_eq, name_refl, txn_eq}
use Rattle.lock_modes.proofs.TablesLemmas.{not_held}
use Rattle.lock_manager.specs.Asked.{is_asked}
use Rattle.lock_manager.specs.Freed.{asks, name_of, StillBlocked}
use Rattle.lock_manager.specs.Owners.{Owners, owner_of, modes_of, grants_in}
use Rattle.lock_manager.specs.Serve.{is_among, Waiters}

or_none : (a b : Bool) → (a || b) ≡ false → (a ≡ false) × (b ≡ false)
or_none true b h = absurd (both_ways true h refl)
or_none false b h = (refl, h)

or_no : (a : Bool) → (a || false) ≡ a
or_no true = refl
or_no false = refl

and_no : (a : Bool) → (a && false) ≡ false
and_no true = refl
and_no false = refl

-- the grants agree on each name that doesn't pass a test
abbrev pub Agrees : (LockName → Bool) → Grants → Grants → Type 0
Agrees p g g' = (u : TxnNo) (k : LockName) → p k ≡ false → g' u k ≡ g u k

-- so do two lists of requests
abbrev pub AsksAlike : (LockName → Bool) → List Request → List Request → Type 0
AsksAlike p b b' = (q : Request) (h : TxnNo) → p q.name ≡ false → asks_before b' q h ≡ asks_before b q h

pub alike : (p : LockName → Bool) (b : List Request) → AsksAlike p b b
alike p b q h none = refl

alike_both : (p : LockName → Bool) (b b' : List Request) (r : Request) → AsksAlike p b b' → AsksAlike p (b ++ r ∷ []) (b' ++ r ∷ [])
alike_both p b b' r same q h none =
    list_any-append (λ s. same_txn s.txn h && opposes s q) b' (r ∷ [])
    ∙ ap (λ x. x || asks_before (r ∷ []) q h) (same q h none)
    ∙ sym (list_any-append (λ s. same_txn s.txn h && opposes s q) b (r ∷ []))

other_name : (p : LockName → Bool) (a b : LockName) → p a ≡ true → p b ≡ false → same_name a b ≡ false
other_name p a b passes none =
    let cases = λ (x : Bool) (s : same_name a b ≡ x).
    (elim x as (λ w. same_name a b ≡ w → w ≡ false) [ true ↦ λ s. absurd (both_ways _ none (ap p (sym (name_eq a b s)) ∙ passes)) | false ↦ λ _. refl ]) s in
    cases (same_name a b) refl

-- a request for a name that passes counts for no other
alike_less : (p : LockName → Bool) (b b' : List Request) (r : Request) → p r.name ≡ true → AsksAlike p b b' → AsksAlike p (b ++ r ∷ []) b'
alike_less p b b' r passes same q h none =
    same q h none ∙ sym (list_any-append (λ s. same_txn s.txn h && opposes s q) b (r ∷ []) ∙ ap (λ x. asks_before b q h || x) nothing ∙ or_no (asks_before b q h))
  where
    nothing : asks_before (r ∷ []) q h ≡ false
    nothing = or_no (same_txn r.txn h && opposes r q) ∙ ap (λ x. same_txn r.txn h && x) (ap (λ x. x && not (compatible r.mode q.mode)) (other_name p r.name q.name passes none)) ∙ and_no (same_txn r.txn h)

blocked_alike : (p : LockName → Bool) (g g' : Grants) (b b' : List Request) (r : Request) → Agrees p g g' → AsksAlike p b b' → p r.name ≡ false → IsBlocked g b r → IsBlocked g' b' r
blocked_alike p g g' b b' r agrees same none k free =
    k (λ h. sym (λ i. not (same_txn h r.txn) && (hinders (agrees h r.name none i) r.mode || same r h none i)) ∙ free h)

-- where grants and requests for all other names are the same, these requests still wait
pub still_moves : (p : LockName → Bool) (g g' : Grants) (b b' rs : List Request) → Agrees p g g' → AsksAlike p b b' → StillBlocked p g b rs → StillBlocked p g' b' rs
still_moves p g g' b b' [] agrees same k = tt
still_moves p g g' b b' (r ∷ rs) agrees same k =
    ((λ none. blocked_alike p g g' b b' r agrees same none (k.0 none)), still_moves p g g' (b ++ r ∷ []) (b' ++ r ∷ []) rs agrees (alike_both p b b' r same) k.1)

pub still_settled : (p : LockName → Bool) (g g' : Grants) (b rs : List Request) → Agrees p g g' → AllBlocked g b rs → StillBlocked p g' b rs
still_settled p g g' b [] agrees k = tt
still_settled p g g' b (r ∷ rs) agrees k = ((λ none. blocked_alike p g g' b b r agrees (alike p b) none k.0), still_settled p g g' (b ++ r ∷ []) rs agrees k.1)

pub still_front : (p : LockName → Bool) (g : Grants) (b xs ys : List Request) → StillBlocked p g b (xs ++ ys) → StillBlocked p g b xs
still_front p g b [] ys k = tt
still_front p g b (x ∷ xs) ys k = (k.0, still_front p g (b ++ x ∷ []) xs ys k.1)

-- a request was granted, whose name passes
pub still_granted : (p : LockName → Bool) (g g' : Grants) (b rs : List Request) (r : Request) → p r.name ≡ true → ((u : TxnNo) (k : LockName) → g' u k ≡ granted g r u k)
    → StillBlocked p g (b ++ r ∷ []) rs → StillBlocked p g' b rs
still_granted p g g' b rs r passes is k = still_moves p g g' (b ++ r ∷ []) b rs agrees (alike_less p b b r passes (alike p b)) k
  where
    agrees : Agrees p g g'
    agrees u n none =
        is u n ∙ ap (λ x. cond (same_txn r.txn u && x) (with_mode (g u n) r.mode) (g u n)) (other_name p r.name n passes none)
        ∙ ap (λ x. cond x (with_mode (g u n) r.mode) (g u n)) (and_no (same_txn r.txn u))

-- each request of a transaction is for a name that passes
abbrev pub AllPass : (LockName → Bool) → TxnNo → List Request → Type 0
AllPass p t [] = Unit {0}
AllPass p t (r ∷ rs) = (same_txn r.txn t ≡ true → p r.name ≡ true) × AllPass p t rs

-- a transaction's requests were taken away
still_without : (p : LockName → Bool) (g g' : Grants) (t : TxnNo) (b b' rs : List Request) → Agrees p g g' → AsksAlike p b b' → AllPass p t rs → AllBlocked g b rs → StillBlocked p g' b' (without t rs)
still_without p g g' t b b' [] agrees same all k = tt
still_without p g g' t b b' (r ∷ rs) agrees same all k =
    let cases = λ (x : Bool) (s : same_txn r.txn t ≡ x).
    (elim x as (λ w. same_txn r.txn t ≡ w → StillBlocked p g' b' (cond (not w) (r ∷ without t rs) (without t rs))) [
      | true ↦ λ s. still_without p g g' t (b ++ r ∷ []) b' rs agrees (alike_less p b b' r (all.0 s) same) all.1 k.1
      | false ↦ λ _. ((λ none. blocked_alike p g g' b b' r agrees same none k.0), still_without p g g' t (b ++ r ∷ []) (b' ++ r ∷ []) rs agrees (alike_both p b b' r same) all.1 k.1)
    ]) s in
    cases (same_txn r.txn t) refl

pub still_gone : (p : LockName → Bool) (g g' : Grants) (t : TxnNo) (cs rs : List Request) → Agrees p g g' → AllPass p t (cs ++ rs) → AllBlocked g [] (cs ++ rs) → StillBlocked p g' [] (without t cs ++ without t rs)
still_gone p g g' t cs rs agrees all k =
    subst (λ (x : List Request). StillBlocked p g' [] x) (filter-append (λ r. not (same_txn r.txn t)) cs rs) (still_without p g g' t [] [] (cs ++ rs) agrees (alike p []) all k)

-- what a transaction gave back
pub released_agrees : (g g' : Grants) (t : TxnNo) (n : LockName) → ((u : TxnNo) (k : LockName) → g' u k ≡ released g t n u k) → Agrees (same_name n) g g'
released_agrees g g' t n is u k none = is u k ∙ ap (λ x. cond (same_txn t u && x) no_modes (g u k)) none ∙ ap (λ x. cond x no_modes (g u k)) (and_no (same_txn t u))

pub rows_agree : (g g' : Grants) (t : TxnNo) (table : ℕ) → ((u : TxnNo) (k : LockName) → g' u k ≡ released_rows g t table u k) → Agrees (is_row_name table) g g'
rows_agree g g' t table is u k none = is u k ∙ ap (λ x. cond (same_txn t u && x) no_modes (g u k)) none ∙ ap (λ x. cond x no_modes (g u k)) (and_no (same_txn t u))

pub gone_agrees : (os : Owners) (g' : Grants) (t : TxnNo) (asked : Option LockName) → ((u : TxnNo) (k : LockName) → g' u k ≡ released_all (grants_in os) t u k)
    → Agrees (λ k. is_held (modes_of (owner_of os t) k) || asks asked k) (grants_in os) g'
gone_agrees os g' t asked is u k none =
    let nothing : grants_in os t k ≡ no_modes = not_held (grants_in os t k) (or_none (is_held (modes_of (owner_of os t) k)) (asks asked k) none).0 in
    let cases = λ (x : Bool) (s : same_txn t u ≡ x).
    (elim x as (λ w. same_txn t u ≡ w → cond w no_modes (grants_in os u k) ≡ grants_in os u k) [
      | true ↦ λ s. sym nothing ∙ ap (λ (v : TxnNo). grants_in os v k) (txn_eq t u s)
      | false ↦ λ _. refl
    ]) s in
    is u k ∙ cases (same_txn t u) refl

or_right : (a b : Bool) → b ≡ true → (a || b) ≡ true
or_right true b h = refl
or_right false b h = h

no_request : (p : LockName → Bool) (t : TxnNo) (rs : List Request) → is_among t rs ≡ false → AllPass p t rs
no_request p t [] none = tt
no_request p t (r ∷ rs) none = let q = or_none (same_txn r.txn t) (is_among t rs) none in ((λ s. absurd (both_ways _ q.0 s)), no_request p t rs q.1)

-- what a transaction asked for is the one request of it that is found
pub one_request : (held : LockName → Bool) (os : Owners) (t : TxnNo) (rs : List Request) → Waiters os rs
    → AllPass (λ k. held k || asks (name_of (find (λ r. same_txn r.txn t) rs)) k) t rs
one_request held os t [] w = tt
one_request held os t (r ∷ rs) w =
    let rest = one_request held os t rs w.2 in
    let cases = λ (x : Bool) (s : same_txn r.txn t ≡ x).
    (elim x as (λ y. same_txn r.txn t ≡ y → (y ≡ true → (held r.name || asks (name_of (cond y (Some r) (find (λ q. same_txn q.txn t) rs))) r.name) ≡ true)
    × AllPass (λ k. held k || asks (name_of (cond y (Some r) (find (λ q. same_txn q.txn t) rs))) k) t rs) [
      | true ↦ λ s. (
        (λ _. or_right (held r.name) (same_name r.name r.name) (name_refl r.name)),
        no_request (λ k. held k || same_name r.name k) t rs (ap (λ (u : TxnNo). is_among u rs) (sym (txn_eq r.txn t s)) ∙ w.1),
      )
      | false ↦ λ _. ((λ s. absurd (both_ways _ refl s)), rest)
    ]) s in
    let both = cases (same_txn r.txn t) refl in
    (both.0, both.1)

-- where nobody asks for a name that passes, each request still has somebody in its way
pub all_still : (p : LockName → Bool) (g : Grants) (b rs : List Request) → ((n : LockName) → p n ≡ true → is_asked n rs ≡ false) → StillBlocked p g b rs → AllBlocked g b rs
all_still p g b [] none k = tt
all_still p g b (r ∷ rs) none k = (k.0 (fails (p r.name) refl), all_still p g (b ++ r ∷ []) rs (λ n h. (or_none (same_name r.name n) (is_asked n rs) (none n h)).1) k.1)
  where
    fails : (w : Bool) → p r.name ≡ w → p r.name ≡ false
    fails true h = absurd (both_ways _ (or_none (same_name r.name r.name) (is_asked r.name rs) (none r.name h)).0 (name_refl r.name))
    fails false h = h

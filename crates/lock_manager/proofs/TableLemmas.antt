-- What a call keeps of a lock table.
use Rattle.std.proofs.Common.{◌≡◌, ℕ, ◌+◌, ◌-◌, ◌<◌, ◌≤◌, Bool, true, false, refl, sym, ◌∙◌, ap, cond, List, [], ◌∷◌, ◌++◌, subst, ◌⊎◌, inl, inr, arith, Some, None, append_assoc, append-nil}
use Rattle.std.specs.Prelude.{◌&&◌, ◌||◌, not, if◌then◌else◌, IsTrue, ◌↔◌}
use Rattle.std.specs.List.{list_any, find}
use Rattle.std.specs.Map.{lookup}
use Rattle.std.proofs.lemmas.List.Folds.{list_any-append}
use Rattle.std.proofs.lemmas.Bool.{both_ways}
use Rattle.dby_types.specs.declared.number.TxnNo.{TxnNo}
use Rattle.lock_modes.specs.declared.entry.Request.{Request}
use Rattle.lock_modes.specs.declared.name.LockName.{LockName}
use Rattle.lock_modes.specs.Names.{same_txn}
use Rattle.lock_modes.specs.Lock.{Lock, Grants, queue, queued}
use Rattle.lock_modes.specs.Modes.{is_held}
use Rattle.lock_modes.specs.Waits.{IsBlocked, AllBlocked, waiting}
use Rattle.lock_modes.specs.Proper.{IsRefused}
use Rattle.lock_modes.specs.Apart.{IsApart}
use Rattle.lock_modes.proofs.NamesLemmas.{txn_refl, txn_equiv}
use Rattle.lock_manager.specs.Freed.{name_of}
use Rattle.lock_manager.specs.Owners.{Owners, grants_in, left_in, left_of, victim_in, waits_in, left_sum, Changes}
use Rattle.lock_manager.specs.Serve.{is_among, Waiters}
use Rattle.lock_manager.proofs.ServeLemmas.{everywhere, waiters_keep}

or_none : (a b : Bool) → (a || b) ≡ false → (a ≡ false) × (b ≡ false)
or_none true b h = absurd (both_ways true h refl)
or_none false b h = (refl, h)

-- nothing is found where none passes, and the other way round
pub find_none : (p : Request → Bool) (rs : List Request) → list_any p rs ≡ false → find p rs ≡ None
find_none p [] h = refl
find_none p (r ∷ rs) h = let q = or_none (p r) (list_any p rs) h in ap (λ b. cond b (Some r) (find p rs)) q.0 ∙ find_none p rs q.1

any_none : (p : Request → Bool) (rs : List Request) → find p rs ≡ None → list_any p rs ≡ false
any_none p [] h = refl
any_none p (r ∷ rs) h =
    let cases = λ (b : Bool) (e : p r ≡ b).
    (elim b as (λ w. cond w (Some r) (find p rs) ≡ None → (w || list_any p rs) ≡ false) [ true ↦ λ s. absurd (cc s) | false ↦ λ s. any_none p rs s ]) in
    cases (p r) refl h

not_true : (b : Bool) → not b ≡ true → b ≡ false
not_true true h = absurd (both_ways _ refl h)
not_true false h = refl

-- who has no request asks for no name
pub asks_nothing : (t : TxnNo) (rs : List Request) (b : Bool) → b ≡ false → b ≡ is_among t rs → None ≡ name_of (find (λ r. same_txn r.txn t) rs)
asks_nothing t rs b h e = sym (ap name_of (find_none (λ r. same_txn r.txn t) rs (sym e ∙ h)))

pub idle : (l : Lock) (t : TxnNo) (b : Bool) → b ≡ is_among t (queue l) → IsTrue (not b) ↔ (waiting l t ≡ None)
idle l t b e = (λ h. find_none (λ r. same_txn r.txn t) (queue l) (sym e ∙ not_true b h), λ h. ap not (e ∙ any_none (λ r. same_txn r.txn t) (queue l) h))

pub not_among : (l : Lock) (t : TxnNo) → waiting l t ≡ None → is_among t (queue l) ≡ false
not_among l t h = any_none (λ r. same_txn r.txn t) (queue l) h

pub not_among_parts : (t : TxnNo) (xs ys : List Request) → is_among t (xs ++ ys) ≡ false → (is_among t xs ≡ false) × (is_among t ys ≡ false)
not_among_parts t xs ys h = or_none (is_among t xs) (is_among t ys) (sym (list_any-append (λ q. same_txn q.txn t) xs ys) ∙ h)

-- one transaction's record changed, but not what is told of its waiting
pub keep_waits : (os os' : Owners) (t : TxnNo) (g : Grants) → Changes os os' t g → waits_in os' t ≡ waits_in os t → (u : TxnNo) → waits_in os' u ≡ waits_in os u
keep_waits os os' t g c mine = everywhere (waits_in os') (waits_in os) t mine c.others_wait

pub keep_victims : (os os' : Owners) (t : TxnNo) (g : Grants) → Changes os os' t g → victim_in os' t ≡ victim_in os t → victim_in os' ≡ victim_in os
keep_victims os os' t g c mine = λ i u. everywhere (victim_in os') (victim_in os) t mine c.others_victims u i

pub keep_lefts : (os os' : Owners) (t : TxnNo) (g : Grants) → Changes os os' t g → left_in os' t ≡ left_in os t → (u : TxnNo) → left_in os' u ≡ left_in os u
keep_lefts os os' t g c mine = everywhere (left_in os') (left_in os) t mine c.others_left

pub keep_total : (os os' : Owners) (t : TxnNo) (g : Grants) (left : ℕ) → Changes os os' t g → left_in os' t ≡ left_in os t → left ≡ left_sum os → left ≡ left_sum os'
keep_total os os' t g left c mine was = let s = c.total in omega (arith, s, mine, was)

pub waiters_same : (os os' : Owners) → ((u : TxnNo) → waits_in os' u ≡ waits_in os u) → (rs : List Request) → Waiters os rs → Waiters os' rs
waiters_same os os' same [] w = tt
waiters_same os os' same (r ∷ rs) w = (same r.txn ∙ w.0, w.1, waiters_same os os' same rs w.2)

pub grants_path : (os' : Owners) (g : Grants) → ((u : TxnNo) (n : LockName) → grants_in os' u n ≡ g u n) → grants_in os' ≡ g
grants_path os' g same = λ i u n. same u n i

pub settled_as : (os' : Owners) (g : Grants) (b rs : List Request) → ((u : TxnNo) (n : LockName) → grants_in os' u n ≡ g u n) → AllBlocked g b rs → AllBlocked (grants_in os') b rs
settled_as os' g b rs same k = subst (λ (x : Grants). AllBlocked x b rs) (sym (grants_path os' g same)) k

pub apart_as : (os' : Owners) (g : Grants) → ((u : TxnNo) (n : LockName) → grants_in os' u n ≡ g u n) → IsApart g → IsApart (grants_in os')
apart_as os' g same k = subst (λ (x : Grants). IsApart x) (sym (grants_path os' g same)) k

-- two states with equal parts
pub lock_path : (a b : Lock) → a.grants ≡ b.grants → a.conversions ≡ b.conversions → a.requests ≡ b.requests → a.victims ≡ b.victims → a ≡ b
lock_path a b g c r v = λ i. record { grants = g i; conversions = c i; requests = r i; victims = v i }

-- what one may ask for is part of the whole
pub left_within : (os : Owners) (t : TxnNo) → left_in os t ≤ left_sum os
left_within [] t = omega arith
left_within (e ∷ es) t =
    let rest = left_within es t in
    let cases = λ (b : Bool) (q : same_txn t e.0 ≡ b).
    (elim b as (λ w. left_of (cond w (Some e.1) (lookup (same_txn t) es)) ≤ e.1.left + left_sum es)
    [ true ↦ (let g : e.1.left ≤ e.1.left + left_sum es = omega arith in g) | false ↦ (let g : left_in es t ≤ e.1.left + left_sum es = omega (arith, rest) in g) ]) in
    cases (same_txn t e.0) refl

-- what is left to each after a grant
pub spent : (os os' : Owners) (t : TxnNo) (g : Grants) (held : Bool) → Changes os os' t g
    → left_in os' t ≡ (if held then left_in os t else left_in os t - 1)
    → (u : TxnNo) → left_in os' u ≡ (if same_txn t u && not held then left_in os u - 1 else left_in os u)
spent os os' t g held c mine = everywhere (left_in os') (λ u. if same_txn t u && not held then left_in os u - 1 else left_in os u) t
    (mine ∙ at_itself held ∙ ap (λ b. if b && not held then left_in os t - 1 else left_in os t) (sym (txn_refl t)))
    (λ u other. c.others_left u other ∙ ap (λ b. if b && not held then left_in os u - 1 else left_in os u) (sym other))
  where
    at_itself : (h : Bool) → (if h then left_in os t else left_in os t - 1) ≡ (if true && not h then left_in os t - 1 else left_in os t)
    at_itself true = refl
    at_itself false = refl

pub spent_total : (os os' : Owners) (t : TxnNo) (g : Grants) (held : Bool) (left : ℕ) → Changes os os' t g
    → left_in os' t ≡ (if held then left_in os t else left_in os t - 1) → (held ≡ true) ⊎ (0 < left_in os t)
    → left ≡ left_sum os → (if held then left else left - 1) ≡ left_sum os'
spent_total os os' t g true left c mine some was = keep_total os os' t g left c mine was
spent_total os os' t g false left c mine some was =
    let within = left_within os t in
    let s = c.total in
    let positive : 0 < left_in os t = elim some [ inl h ↦ absurd (both_ways _ refl h) | inr p ↦ p ] in
    let e : left - 1 ≡ left_sum os' = omega (arith, s, mine, was, within, positive) in e

-- there is one to spend of where a new name is granted
pub some_left : (os : Owners) (t : TxnNo) (held : Bool) (left : ℕ) → (held ≡ true) ⊎ (0 < left_in os t) → left ≡ left_sum os → (held ≡ true) ⊎ (0 < left)
some_left os t held left h was = elim h [ inl k ↦ inl k | inr p ↦ inr (let w = left_within os t in omega (arith, w, p, was)) ]

pub less_le : (held : Bool) (left : ℕ) → (if held then left else left - 1) ≤ left
less_le true left = omega arith
less_le false left = omega arith

or_swap : (a s b : Bool) → (a || (s || b)) ≡ (s || (a || b))
or_swap true true b = refl
or_swap true false b = refl
or_swap false s b = refl

-- one request more in the midst
pub among_insert : (t : TxnNo) (a b : List Request) (r : Request) → is_among t ((a ++ r ∷ []) ++ b) ≡ (same_txn r.txn t || is_among t (a ++ b))
among_insert t [] b r = refl
among_insert t (q ∷ a) b r = ap (λ x. same_txn q.txn t || x) (among_insert t a b r) ∙ or_swap (same_txn q.txn t) (same_txn r.txn t) (is_among t (a ++ b))

txn_flip : (a b : TxnNo) → same_txn a b ≡ false → same_txn b a ≡ false
txn_flip a b h = txn_equiv.symm b a ∙ h

pub waiters_insert : (os os' : Owners) (r : Request) → ((u : TxnNo) → same_txn r.txn u ≡ false → waits_in os' u ≡ waits_in os u) → waits_in os' r.txn ≡ true
    → (a b : List Request) → Waiters os (a ++ b) → is_among r.txn (a ++ b) ≡ false → Waiters os' ((a ++ r ∷ []) ++ b)
waiters_insert os os' r same mine [] b w none = (mine, none, waiters_keep os os' r.txn same b none w)
waiters_insert os os' r same mine (q ∷ a) b w none =
    let p = or_none (same_txn q.txn r.txn) (is_among r.txn (a ++ b)) none in
    let other = txn_flip q.txn r.txn p.0 in
    (same q.txn other ∙ w.0, among_insert q.txn a b r ∙ ap (λ x. x || is_among q.txn (a ++ b)) other ∙ w.1, waiters_insert os os' r same mine a b w.2 p.1)

-- who waits after one request more was queued
pub only_insert : (os os' : Owners) (r : Request) → ((u : TxnNo) → same_txn r.txn u ≡ false → waits_in os' u ≡ waits_in os u) → waits_in os' r.txn ≡ true
    → (a b : List Request) → ((u : TxnNo) → waits_in os u ≡ is_among u (a ++ b)) → (u : TxnNo) → waits_in os' u ≡ is_among u ((a ++ r ∷ []) ++ b)
only_insert os os' r same mine a b only = everywhere (waits_in os') (λ u. is_among u ((a ++ r ∷ []) ++ b)) r.txn
    (mine ∙ sym (among_insert r.txn a b r ∙ ap (λ x. x || is_among r.txn (a ++ b)) (txn_refl r.txn)))
    (λ u other. same u other ∙ only u ∙ sym (among_insert u a b r ∙ ap (λ x. x || is_among u (a ++ b)) other))

-- behind all
pub behind_all : (a b : List Request) (r : Request) → ((a ++ b) ++ r ∷ []) ++ [] ≡ a ++ (b ++ r ∷ [])
behind_all a b r = let one : List Request = r ∷ [] in append-nil ((a ++ b) ++ one) ∙ append_assoc a b one

-- what is left once room was set aside
pub set_aside : (os os' : Owners) (t : TxnNo) (g : Grants) (left : ℕ) → Changes os os' t g → left_in os' t + 1 ≡ left_in os t → left ≡ left_sum os → (0 < left) × (left - 1 ≡ left_sum os')
set_aside os os' t g left c mine was =
    let within = left_within os t in
    let s = c.total in
    (omega (arith, within, mine, was), omega (arith, s, mine, was, within))

pub less_left : (os os' : Owners) (t : TxnNo) (g : Grants) → Changes os os' t g → left_in os' t + 1 ≡ left_in os t → (u : TxnNo) → left_in os' u ≡ (if same_txn t u then left_in os u - 1 else left_in os u)
less_left os os' t g c mine = everywhere (left_in os') (λ u. if same_txn t u then left_in os u - 1 else left_in os u) t
    ((let e : left_in os' t ≡ left_in os t - 1 = omega (arith, mine) in e) ∙ ap (λ b. if b then left_in os t - 1 else left_in os t) (sym (txn_refl t)))
    (λ u other. c.others_left u other ∙ ap (λ b. if b then left_in os u - 1 else left_in os u) (sym other))

pub earlier_held : (l : Lock) (r : Request) (b : Bool) → b ≡ is_held (l.grants r.txn r.name) → b ≡ true → IsRefused l r → IsBlocked l.grants l.conversions r
earlier_held l r b e h k = subst (λ (x : Bool). IsBlocked l.grants (cond x l.conversions (queue l)) r) (sym e ∙ h) k.blocked

pub earlier_none : (l : Lock) (r : Request) (b : Bool) → b ≡ is_held (l.grants r.txn r.name) → b ≡ false → IsRefused l r → IsBlocked l.grants (queue l) r
earlier_none l r b e h k = subst (λ (x : Bool). IsBlocked l.grants (cond x l.conversions (queue l)) r) (sym e ∙ h) k.blocked

pub queued_held : (l : Lock) (r : Request) (b : Bool) → b ≡ is_held (l.grants r.txn r.name) → b ≡ true → record l { conversions = l.conversions ++ r ∷ [] } ≡ queued l r
queued_held l r b e h = ap (λ x. cond x (record l { conversions = l.conversions ++ r ∷ [] }) (record l { requests = l.requests ++ r ∷ [] })) (sym h ∙ e)

pub queued_none : (l : Lock) (r : Request) (b : Bool) → b ≡ is_held (l.grants r.txn r.name) → b ≡ false → record l { requests = l.requests ++ r ∷ [] } ≡ queued l r
queued_none l r b e h = ap (λ x. cond x (record l { conversions = l.conversions ++ r ∷ [] }) (record l { requests = l.requests ++ r ∷ [] })) (sym h ∙ e)

-- grants and waiting as before, in lists as before
pub kept_waiters : (os os' : Owners) (cs rs cs' rs' : List Request) → ((u : TxnNo) → waits_in os' u ≡ waits_in os u) → cs' ≡ cs → rs' ≡ rs → Waiters os (cs ++ rs) → Waiters os' (cs' ++ rs')
kept_waiters os os' cs rs cs' rs' same c r w = subst (λ (x : List Request). Waiters os' x) (sym (λ i. c i ++ r i)) (waiters_same os os' same (cs ++ rs) w)

pub kept_only : (os os' : Owners) (cs rs cs' rs' : List Request) → ((u : TxnNo) → waits_in os' u ≡ waits_in os u) → cs' ≡ cs → rs' ≡ rs → ((u : TxnNo) → waits_in os u ≡ is_among u (cs ++ rs)) → (u : TxnNo) → waits_in os' u ≡ is_among u (cs' ++ rs')
kept_only os os' cs rs cs' rs' same c r only u = same u ∙ only u ∙ sym (λ i. is_among u (c i ++ r i))

pub kept_settled : (os os' : Owners) (cs rs cs' rs' : List Request) → ((u : TxnNo) (n : LockName) → grants_in os' u n ≡ grants_in os u n) → cs' ≡ cs → rs' ≡ rs → AllBlocked (grants_in os) [] (cs ++ rs) → AllBlocked (grants_in os') [] (cs' ++ rs')
kept_settled os os' cs rs cs' rs' same c r k = subst (λ (x : List Request). AllBlocked (grants_in os') [] x) (sym (λ i. c i ++ r i)) (settled_as os' (grants_in os) [] (cs ++ rs) same k)

-- the sum after one transaction may ask for more
pub more_total : (os os' : Owners) (t : TxnNo) (g : Grants) (left n : ℕ) → Changes os os' t g → left_in os' t ≡ n → left_in os t ≤ n → left ≡ left_sum os → left + (n - left_in os t) ≡ left_sum os'
more_total os os' t g left n c mine less was = let s = c.total in omega (arith, s, mine, less, was)

pub more_left : (os os' : Owners) (t : TxnNo) (g : Grants) (n : ℕ) → Changes os os' t g → left_in os' t ≡ n → (u : TxnNo) → left_in os' u ≡ (if same_txn t u then n else left_in os u)
more_left os os' t g n c mine = everywhere (left_in os') (λ u. if same_txn t u then n else left_in os u) t
    (mine ∙ ap (λ b. if b then n else left_in os t) (sym (txn_refl t)))
    (λ u other. c.others_left u other ∙ ap (λ b. if b then n else left_in os u) (sym other))

-- Who waits, before and behind each lock event.
use Rattle.std.proofs.Common.{◌≡◌, ℕ, ◌+◌, ◌≤◌, List, [], ◌∷◌, ◌++◌, Bool, true, false, refl, sym, ◌∙◌, ap, arith, inl, inr, Option, Some, None}
use Rattle.std.specs.Prelude.{◌&&◌, not, if◌then◌else◌, All, cond}
use Rattle.std.specs.List.{find, filter}
use Rattle.std.proofs.lemmas.List.Elements.{All-nil, All-cons, All-head, All-tail, filter-append}
use Rattle.std.proofs.lemmas.Bool.{cases_Bool}
use Rattle.dby_types.specs.declared.number.TxnNo.{TxnNo}
use Rattle.lock_modes.specs.declared.entry.Request.{Request}
use Rattle.lock_modes.specs.declared.mode.Mode.{Mode}
use Rattle.lock_modes.specs.declared.name.LockName.{LockName}
use Rattle.lock_modes.specs.declared.event.LockEvent.TheVariants.{Granted, ReleasedAll}
use Rattle.lock_modes.specs.Lock.{Lock, queue, apply}
use Rattle.lock_modes.specs.Names.{same_txn, same_name}
use Rattle.session_engine.specs.State.{times_in}

abbrev pub asks_of : TxnNo → Request → Bool
asks_of t r = same_txn r.txn t

pub find_here : (p : Request → Bool) (r : Request) (rs : List Request) → p r ≡ true → find p (r ∷ rs) ≡ Some r
find_here p r rs h = ap (λ b. cond b (Some r) (find p rs)) h

pub find_later : (p : Request → Bool) (r : Request) (rs : List Request) → p r ≡ false → find p (r ∷ rs) ≡ find p rs
find_later p r rs h = ap (λ b. cond b (Some r) (find p rs)) h

-- who waits for nothing has no request in the queue
pub none_asks : (t : TxnNo) (rs : List Request) → find (asks_of t) rs ≡ None → All (λ (r : Request). same_txn r.txn t ≡ false) rs
none_asks t [] h = All-nil (λ (r : Request). same_txn r.txn t ≡ false)
none_asks t (r ∷ rs) h = elim (cases_Bool (same_txn r.txn t)) [
  | inl hit ↦ (let e : Some r ≡ None = sym (find_here (asks_of t) r rs hit) ∙ h in cc)
  | inr miss ↦ All-cons (λ (r : Request). same_txn r.txn t ≡ false) r rs miss (none_asks t rs (sym (find_later (asks_of t) r rs miss) ∙ h))
]

-- requests of others can go without one's own being touched
pub find_kept : (t : TxnNo) (keep : Request → Bool) (rs : List Request) → ((r : Request) → same_txn r.txn t ≡ true → keep r ≡ true) → find (asks_of t) (filter keep rs) ≡ find (asks_of t) rs
find_kept t keep [] h = refl
find_kept t keep (r ∷ rs) h = elim (cases_Bool (same_txn r.txn t)) [
  | inl hit ↦ ap (λ b. find (asks_of t) (cond b (r ∷ filter keep rs) (filter keep rs))) (h r hit)
      ∙ find_here (asks_of t) r (filter keep rs) hit ∙ sym (find_here (asks_of t) r rs hit)
  | inr miss ↦ elim (cases_Bool (keep r)) [
    | inl stays ↦ ap (λ b. find (asks_of t) (cond b (r ∷ filter keep rs) (filter keep rs))) stays ∙ find_later (asks_of t) r (filter keep rs) miss
    | inr goes ↦ ap (λ b. find (asks_of t) (cond b (r ∷ filter keep rs) (filter keep rs))) goes
  ] ∙ find_kept t keep rs h ∙ sym (find_later (asks_of t) r rs miss)
]

-- and come
pub find_without_one : (t : TxnNo) (front : List Request) (r : Request) (back : List Request) → same_txn r.txn t ≡ false → find (asks_of t) ((front ++ r ∷ []) ++ back) ≡ find (asks_of t) (front ++ back)
find_without_one t [] r back h = find_later (asks_of t) r back h
find_without_one t (x ∷ front) r back h = ap (λ (q : Option Request). cond (same_txn x.txn t) (Some x) q) (find_without_one t front r back h)

-- HOW OFTEN a transaction asks
more_if : (b : Bool) (x y z : ℕ) → x ≡ y + z → (if b then x + 1 else x) ≡ (if b then y + 1 else y) + z
more_if true x y z h = omega arith
more_if false x y z h = h

pub times_append : (t : TxnNo) (xs ys : List Request) → times_in t (xs ++ ys) ≡ times_in t xs + times_in t ys
times_append t [] ys = omega arith
times_append t (x ∷ xs) ys = more_if (same_txn x.txn t) (times_in t (xs ++ ys)) (times_in t xs) (times_in t ys) (times_append t xs ys)

pub times_none : (t : TxnNo) (rs : List Request) → All (λ (r : Request). same_txn r.txn t ≡ false) rs → times_in t rs ≡ 0
times_none t [] h = refl
times_none t (r ∷ rs) h = ap (λ b. if b then times_in t rs + 1 else times_in t rs) (All-head (λ (q : Request). same_txn q.txn t ≡ false) r rs h) ∙ times_none t rs (All-tail (λ (q : Request). same_txn q.txn t ≡ false) r rs h)

fewer_if : (keep b : Bool) (r : Request) (t : TxnNo) (xs rs : List Request) → same_txn r.txn t ≡ b → times_in t xs ≤ times_in t rs → times_in t (cond keep (r ∷ xs) xs) ≤ times_in t (r ∷ rs)
fewer_if true true r t xs rs e h =
    let here : times_in t (r ∷ xs) ≡ times_in t xs + 1 = ap (λ b. if b then times_in t xs + 1 else times_in t xs) e in
    let there : times_in t (r ∷ rs) ≡ times_in t rs + 1 = ap (λ b. if b then times_in t rs + 1 else times_in t rs) e in
    omega (arith, here, there, h)
fewer_if true false r t xs rs e h =
    let here : times_in t (r ∷ xs) ≡ times_in t xs = ap (λ b. if b then times_in t xs + 1 else times_in t xs) e in
    let there : times_in t (r ∷ rs) ≡ times_in t rs = ap (λ b. if b then times_in t rs + 1 else times_in t rs) e in
    omega (arith, here, there, h)
fewer_if false true r t xs rs e h =
    let there : times_in t (r ∷ rs) ≡ times_in t rs + 1 = ap (λ b. if b then times_in t rs + 1 else times_in t rs) e in
    omega (arith, there, h)
fewer_if false false r t xs rs e h =
    let there : times_in t (r ∷ rs) ≡ times_in t rs = ap (λ b. if b then times_in t rs + 1 else times_in t rs) e in
    omega (arith, there, h)

pub times_fewer : (t : TxnNo) (keep : Request → Bool) (rs : List Request) → times_in t (filter keep rs) ≤ times_in t rs
times_fewer t keep [] = omega arith
times_fewer t keep (r ∷ rs) = fewer_if (keep r) (same_txn r.txn t) r t (filter keep rs) rs refl (times_fewer t keep rs)

pub zero_none : (t : TxnNo) (rs : List Request) → times_in t rs ≡ 0 → All (λ (r : Request). same_txn r.txn t ≡ false) rs
zero_none t [] h = All-nil (λ (r : Request). same_txn r.txn t ≡ false)
zero_none t (r ∷ rs) h = elim (cases_Bool (same_txn r.txn t)) [
  | inl hit ↦ (let e : times_in t rs + 1 ≡ 0 = ap (λ b. if b then times_in t rs + 1 else times_in t rs) (sym hit) ∙ h in absurd (omega (arith, e)))
  | inr miss ↦ All-cons (λ (r : Request). same_txn r.txn t ≡ false) r rs miss (zero_none t rs (ap (λ b. if b then times_in t rs + 1 else times_in t rs) (sym miss) ∙ h))
]

-- THE QUEUE behind an event
pub queue_granted : (l : Lock) (t : TxnNo) (n : LockName) (m : Mode) → queue (apply l (Granted t n m)) ≡ filter (λ r. not (same_txn r.txn t && same_name r.name n)) (queue l)
queue_granted l t n m = sym (filter-append (λ (r : Request). not (same_txn r.txn t && same_name r.name n)) l.conversions l.requests)

pub queue_released : (l : Lock) (t : TxnNo) → queue (apply l (ReleasedAll t)) ≡ filter (λ r. not (same_txn r.txn t)) (queue l)
queue_released l t = sym (filter-append (λ (r : Request). not (same_txn r.txn t)) l.conversions l.requests)

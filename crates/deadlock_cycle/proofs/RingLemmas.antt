-- Cycles that a search finds, and those that it can't miss.
use Rattle.std.proofs.Common.{◌≡◌, Bool, true, false, refl, sym, ◌∙◌, ap, List, [], ◌∷◌, ◌++◌, length, subst, arith, Option, inl, inr}
use Rattle.std.specs.Prelude.{◌||◌, not, All}
use Rattle.std.proofs.lemmas.Bool.{both_ways, and_parts, or_cases}
use Rattle.std.proofs.lemmas.List.Folds.{list_any_at}
use Rattle.std.proofs.lemmas.List.Elements.{All-head, All-tail}
use Rattle.dby_types.specs.declared.number.TxnNo.{TxnNo}
use Rattle.lock_modes.specs.declared.cycle.Edge.{Edge}
use Rattle.lock_modes.specs.Lock.{Lock}
use Rattle.lock_modes.specs.Names.{same_txn}
use Rattle.lock_modes.specs.Waits.{IsEdge, waiting, LeadsTo, IsRing, IsThrough, NoneIs}
use Rattle.lock_modes.proofs.NamesLemmas.{txn_eq, txn_refl}
use Rattle.lock_manager.specs.Blocking.{IsBlocker, IsUnblocked}
use Rattle.deadlock_cycle.specs.Search.{is_seen, is_none, is_passed, IsPath, IsClosed, is_on, Searching, IsCycleThrough, NoCycle}
use Rattle.deadlock_cycle.proofs.PathLemmas.{each_all, each_push, path_closes}
use Rattle.deadlock_cycle.proofs.SearchLemmas.{closed_now}

-- the path and one edge more are a cycle
pub closes : (l : Lock) (t : TxnNo) (path path' : List Edge) (seen : List TxnNo) (node : TxnNo) (above : Option TxnNo) (e : Edge)
    → Searching l t path seen node above → IsBlocker l node above e → same_txn e.holder t ≡ true → path' ≡ path ++ e ∷ [] → IsCycleThrough l t path'
closes l t path path' seen node above e s b same is = subst (λ (p : List Edge). IsCycleThrough l t p) (sym is) (record {
  standing = record { edges = each_all (λ e. IsEdge l e) (path ++ e ∷ []) (each_push (λ e. IsEdge l e) path e s.edges b.edge); ring = ring path s.path_is };
  through = through path s.path_is;
  unchosen = each_all (λ e. l.victims e.waiter ≡ false) (path ++ e ∷ []) (each_push (λ e. l.victims e.waiter ≡ false) path e s.path_unchosen (ap (λ u. l.victims u) b.waiter ∙ s.unchosen));
})
  where
    to : e.holder ≡ t
    to = txn_eq e.holder t same

    ring : (p : List Edge) → IsPath t p node → IsRing (p ++ e ∷ [])
    ring [] k = to ∙ k ∙ sym b.waiter
    ring (x ∷ p) k = path_closes x.waiter t node (x ∷ p) e k b.waiter (to ∙ sym k.0)

    through : (p : List Edge) → IsPath t p node → IsThrough t (p ++ e ∷ [])
    through [] k = (0, e, omega arith, refl, b.waiter ∙ sym k)
    through (x ∷ p) k = (0, x, omega arith, refl, k.0)

-- everybody who was come to is closed
abbrev AllClosed : Lock → TxnNo → List TxnNo → Type 0
AllClosed l t seen = (s : TxnNo) → is_seen s seen ≡ true → IsClosed l t seen s

-- for whom one of these waits is one of these too, and isn't the first
next_is : (l : Lock) (t : TxnNo) (seen : List TxnNo) (e : Edge) → AllClosed l t seen → IsEdge l e → is_seen e.waiter seen ≡ true
    → l.victims e.holder ≡ false → is_none (waiting l e.holder) ≡ false → (is_seen e.holder seen ≡ true) × (same_txn e.holder t ≡ false)
next_is l t seen e closed edge at unchosen waits =
    let k = and_parts (not (same_txn e.holder t)) (is_passed l seen e.holder) (closed e.waiter at e.holder edge.blocked) in (
      elim (or_cases (l.victims e.holder) (is_none (waiting l e.holder) || is_seen e.holder seen) k.1) [
        | inl v ↦ absurd (both_ways _ unchosen v)
        | inr w ↦ elim (or_cases (is_none (waiting l e.holder)) (is_seen e.holder seen) w) [ inl i ↦ absurd (both_ways _ waits i) | inr s ↦ s ]
      ],
      not_true (same_txn e.holder t) k.0,
    )
  where
    not_true : (b : Bool) → not b ≡ true → b ≡ false
    not_true true h = absurd (both_ways _ refl h)
    not_true false h = refl

-- an edge's waiter waits
edge_waits : (l : Lock) (e : Edge) → IsEdge l e → is_none (waiting l e.waiter) ≡ false
edge_waits l e edge = ap is_none edge.waits

-- from one who was come to, an edge list leads only over such, none of whom is the first
walk : (l : Lock) (t first : TxnNo) (seen : List TxnNo) (e : Edge) (es : List Edge) → AllClosed l t seen → LeadsTo first (e ∷ es)
    → All (λ e. IsEdge l e) (e ∷ es) → NoneIs l.victims (e ∷ es) → l.victims first ≡ false → is_none (waiting l first) ≡ false → is_seen e.waiter seen ≡ true
    → (is_seen first seen ≡ true) × ((same_txn first t ≡ false) × (is_on t es ≡ false))
walk l t first seen e [] closed leads edges unchosen victim waits at =
    let edge = All-head (λ e. IsEdge l e) e [] edges in
    let n = next_is l t seen e closed edge at (ap (λ u. l.victims u) leads ∙ victim) (ap (λ u. is_none (waiting l u)) leads ∙ waits) in
    (ap (λ u. is_seen u seen) (sym leads) ∙ n.0, (ap (λ u. same_txn u t) (sym leads) ∙ n.1, refl))
walk l t first seen e (f ∷ es) closed leads edges unchosen victim waits at =
    let edge = All-head (λ e. IsEdge l e) e (f ∷ es) edges in
    let edges' = All-tail (λ e. IsEdge l e) e (f ∷ es) edges in
    let unchosen' = All-tail (λ e. l.victims e.waiter ≡ false) e (f ∷ es) unchosen in
    let other = All-head (λ e. IsEdge l e) f es edges' in
    let n = next_is l t seen e closed edge at (ap (λ u. l.victims u) leads.0 ∙ All-head (λ e. l.victims e.waiter ≡ false) f es unchosen') (ap (λ u. is_none (waiting l u)) leads.0 ∙ edge_waits l f other) in
    let at' : is_seen f.waiter seen ≡ true = ap (λ u. is_seen u seen) (sym leads.0) ∙ n.0 in
    let rest = walk l t first seen f es closed leads.1 edges' unchosen' victim waits at' in
    (rest.0, (rest.1.0, ap (λ b. b || is_on t es) (ap (λ u. same_txn u t) (sym leads.0) ∙ n.1) ∙ rest.1.1))

-- an edge list with an edge of the first leads to one who was come to
reaches : (l : Lock) (t first : TxnNo) (seen : List TxnNo) (e : Edge) (es : List Edge) → AllClosed l t seen → is_seen t seen ≡ true → LeadsTo first (e ∷ es)
    → All (λ e. IsEdge l e) (e ∷ es) → NoneIs l.victims (e ∷ es) → l.victims first ≡ false → is_none (waiting l first) ≡ false → is_on t (e ∷ es) ≡ true
    → is_seen first seen ≡ true
reaches l t first seen e [] closed start leads edges unchosen victim waits on = elim (or_cases (same_txn e.waiter t) false on) [
  | inl here ↦ (walk l t first seen e [] closed leads edges unchosen victim waits (ap (λ u. is_seen u seen) (txn_eq e.waiter t here) ∙ start)).0
  | inr later ↦ absurd (both_ways _ refl later)
]
reaches l t first seen e (f ∷ es) closed start leads edges unchosen victim waits on = elim (or_cases (same_txn e.waiter t) (is_on t (f ∷ es)) on) [
  | inl here ↦ (walk l t first seen e (f ∷ es) closed leads edges unchosen victim waits (ap (λ u. is_seen u seen) (txn_eq e.waiter t here) ∙ start)).0
  | inr later ↦ reaches l t first seen f es closed start leads.1 (All-tail (λ e. IsEdge l e) e (f ∷ es) edges) (All-tail (λ e. l.victims e.waiter ≡ false) e (f ∷ es) unchosen) victim waits later
]

on_through : (t : TxnNo) (c : List Edge) → IsThrough t c → is_on t c ≡ true
on_through t c x = list_any_at (λ e. same_txn e.waiter t) c x.0 x.1 x.2 (ap (λ e. same_txn e.waiter t) x.3 ∙ ap (λ u. same_txn u t) x.4 ∙ txn_refl t)

-- where all are closed there is no cycle
none_stands : (l : Lock) (t : TxnNo) (seen : List TxnNo) → AllClosed l t seen → is_seen t seen ≡ true → NoCycle l t
none_stands l t seen closed start [] c = c.standing.ring
none_stands l t seen closed start (e ∷ es) c =
    let on = on_through t (e ∷ es) c.through in
    let victim = All-head (λ e. l.victims e.waiter ≡ false) e es c.unchosen in
    let waits = edge_waits l e (All-head (λ e. IsEdge l e) e es c.standing.edges) in
    let first = reaches l t e.waiter seen e es closed start c.standing.ring c.standing.edges c.unchosen victim waits on in
    let round = walk l t e.waiter seen e es closed c.standing.ring c.standing.edges c.unchosen victim waits first in
    both_ways _ (ap (λ b. b || is_on t es) round.1.0 ∙ round.1.1) on

-- the search is over
pub ends : (l : Lock) (t : TxnNo) (path : List Edge) (seen : List TxnNo) (node : TxnNo) (above : Option TxnNo)
    → Searching l t path seen node above → IsUnblocked l node above → length path ≡ 0 → NoCycle l t
ends l t [] seen node above s none empty = none_stands l t seen all s.start
  where
    all : AllClosed l t seen
    all u k = elim (s.all_seen u k) [
      | inl c ↦ c
      | inr still ↦ elim still [ inl at ↦ subst (λ (x : TxnNo). IsClosed l t seen x) (sym at) (closed_now l t node seen above s.tried none) | inr on ↦ absurd (both_ways _ refl on) ]
    ]
ends l t (e ∷ path) seen node above s none empty = absurd (omega (arith, empty))

-- who was chosen, or waits for nothing, is in no such cycle
pub no_cycle_of : (l : Lock) (t : TxnNo) → is_passed l [] t ≡ true → NoCycle l t
no_cycle_of l t passed c k = elim (or_cases (l.victims t) (is_none (waiting l t) || false) passed) [
  | inl v ↦ both_ways _ (unchosen_at c k.unchosen (on_through t c k.through)) v
  | inr w ↦ elim (or_cases (is_none (waiting l t)) false w) [ inl i ↦ both_ways _ (waits_at c k.standing.edges (on_through t c k.through)) i | inr x ↦ both_ways _ refl x ]
]
  where
    unchosen_at : (c : List Edge) → NoneIs l.victims c → is_on t c ≡ true → l.victims t ≡ false
    unchosen_at [] n h = absurd (both_ways _ refl h)
    unchosen_at (e ∷ es) n h = elim (or_cases (same_txn e.waiter t) (is_on t es) h) [
      | inl x ↦ ap (λ u. l.victims u) (sym (txn_eq e.waiter t x)) ∙ All-head (λ e. l.victims e.waiter ≡ false) e es n
      | inr y ↦ unchosen_at es (All-tail (λ e. l.victims e.waiter ≡ false) e es n) y
    ]

    waits_at : (c : List Edge) → All (λ e. IsEdge l e) c → is_on t c ≡ true → is_none (waiting l t) ≡ false
    waits_at [] n h = absurd (both_ways _ refl h)
    waits_at (e ∷ es) n h = elim (or_cases (same_txn e.waiter t) (is_on t es) h) [
      | inl x ↦ ap (λ u. is_none (waiting l u)) (sym (txn_eq e.waiter t x)) ∙ edge_waits l e (All-head (λ e. IsEdge l e) e es n)
      | inr y ↦ waits_at es (All-tail (λ e. IsEdge l e) e es n) y
    ]

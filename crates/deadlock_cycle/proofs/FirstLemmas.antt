-- A search goes by the lowest numbers: no cycle lies where it has been.
use Rattle.std.proofs.Common.{◌≡◌, ◌<◌, ◌≤◌, Bool, true, false, refl, sym, ◌∙◌, ap, List, [], ◌∷◌, ◌++◌, subst, arith, Option, Some, None, ◌⊎◌, inl, inr}
use Rattle.std.specs.Prelude.{◌||◌, not, nat_lt, All}
use Rattle.std.proofs.lemmas.Bool.{both_ways, and_parts, or_cases, or_left, ltb-true, ltb-false, lt-ltb}
use Rattle.std.proofs.lemmas.List.Elements.{All-head, All-tail}
use Rattle.dby_types.specs.declared.number.TxnNo.{TxnNo}
use Rattle.lock_modes.specs.declared.cycle.Edge.{Edge}
use Rattle.lock_modes.specs.Lock.{Lock}
use Rattle.lock_modes.specs.Names.{same_txn}
use Rattle.lock_modes.specs.Waits.{IsEdge, waiting, waits_for, LeadsTo, NoneIs}
use Rattle.lock_modes.proofs.NamesLemmas.{txn_eq, txn_refl}
use Rattle.lock_manager.specs.Blocking.{is_above, IsBlocker, IsUnblocked}
use Rattle.deadlock_cycle.specs.Search.{is_seen, is_none, is_passed, IsPath, IsClosed, is_on, Searching, IsCycleThrough}
use Rattle.deadlock_cycle.specs.First.{BeginsWith, IsOnce, IsWalk, GoesLower, IsFirst}
use Rattle.deadlock_cycle.specs.Ordered.{IsBeside, GoesAbove, Ordered}
use Rattle.deadlock_cycle.proofs.PathLemmas.{path_front}
use Rattle.deadlock_cycle.proofs.SearchLemmas.{or_none, on_more, on_last, on_cases, seen_more, seen_now}
use Rattle.deadlock_cycle.proofs.OnceLemmas.{not_so, off_push, once_push, once_front, off_last}

-- what is left of a walk that has come to a transaction
record Leaves (l : Lock) (t u : TxnNo) (d : List Edge) : Type 0 where
  begins : BeginsWith u d
  leads : LeadsTo t d
  edges : All (λ e. IsEdge l e) d
  unchosen : NoneIs l.victims d
  once : IsOnce d

at_first : (l : Lock) (t : TxnNo) (d : List Edge) → IsCycleThrough l t d → IsWalk t d → Leaves l t t d
at_first l t [] c w = absurd w.begins
at_first l t (e ∷ es) c w = record {
  begins = w.begins;
  leads = subst (λ (u : TxnNo). LeadsTo u (e ∷ es)) w.begins c.standing.ring;
  edges = c.standing.edges;
  unchosen = c.unchosen;
  once = w.once;
}

-- a walk that goes on by one edge
goes_on : (l : Lock) (t u : TxnNo) (f g : Edge) (gs : List Edge) → Leaves l t u (f ∷ g ∷ gs) → Leaves l t f.holder (g ∷ gs)
goes_on l t u f g gs w = record {
  begins = sym w.leads.0;
  leads = w.leads.1;
  edges = All-tail (λ e. IsEdge l e) f (g ∷ gs) w.edges;
  unchosen = All-tail (λ e. l.victims e.waiter ≡ false) f (g ∷ gs) w.unchosen;
  once = w.once.1;
}

-- its first wait
first_waits : (l : Lock) (t u : TxnNo) (f : Edge) (fs : List Edge) → Leaves l t u (f ∷ fs) → waits_for l u f.holder ≡ true
first_waits l t u f fs w = subst (λ (x : TxnNo). waits_for l x f.holder ≡ true) w.begins (All-head (λ e. IsEdge l e) f fs w.edges).blocked

nothing_left : (P : List Edge → Type 0) → (P [] → ⊥) → (path : List Edge) → IsBeside P path [] → ⊥
nothing_left P none [] k = none k
nothing_left P none (e ∷ path) k = k

-- what follows for the rest of a walk follows for the walk: nobody of the path waits in the rest
beside : (l : Lock) (t node : TxnNo) (P Q : List Edge → Type 0) → (P [] → ⊥) → (u : TxnNo) (path d : List Edge) → IsPath u path node → Leaves l t u d → IsBeside P path d
    → ((r : Edge) (rs : List Edge) → Leaves l t node (r ∷ rs) → ((s : TxnNo) → is_on s path ≡ true → is_on s (r ∷ rs) ≡ false) → ((s : TxnNo) → is_on s d ≡ false → is_on s (r ∷ rs) ≡ false) → P (r ∷ rs) → Q (r ∷ rs))
    → IsBeside Q path d
beside l t node P Q none u [] [] at w k rest = absurd w.begins
beside l t node P Q none u [] (r ∷ rs) at w k rest = rest r rs (subst (λ (x : TxnNo). Leaves l t x (r ∷ rs)) at w) (λ s h. absurd (both_ways _ refl h)) (λ s h. h) k
beside l t node P Q none u (e ∷ es) [] at w k rest = absurd k
beside l t node P Q none u (e ∷ es) (f ∷ []) at w k rest = elim k [ inl less ↦ inl less | inr x ↦ absurd (nothing_left P none es x.1) ]
beside l t node P Q none u (e ∷ es) (f ∷ g ∷ gs) at w k rest = elim k [
  | inl less ↦ inl less
  | inr x ↦
      let onward = subst (λ (y : TxnNo). Leaves l t y (g ∷ gs)) (sym x.0) (goes_on l t u f g gs w) in
      let off : is_on e.waiter (g ∷ gs) ≡ false = ap (λ y. is_on y (g ∷ gs)) (at.0 ∙ sym w.begins) ∙ w.once.0 in
      inr (
        x.0,
        beside l t node P Q none e.holder es (g ∷ gs) at.1 onward x.1 (λ r rs left on less p.
            rest r rs left
            (λ s h. elim (or_cases (same_txn e.waiter s) (is_on s es) h) [
              | inl same ↦ less s (ap (λ y. is_on y (g ∷ gs)) (sym (txn_eq e.waiter s same)) ∙ off)
              | inr back ↦ on s back
            ])
            (λ s h. less s (or_none (same_txn f.waiter s) (is_on s (g ∷ gs)) h).1)
            p),
      )
]

-- paths that grow and shrink
beside_push : (P : List Edge → Type 0) (path more d : List Edge) → IsBeside (λ r. IsBeside P more r) path d → IsBeside P (path ++ more) d
beside_push P [] more d k = k
beside_push P (e ∷ path) more [] k = absurd k
beside_push P (e ∷ path) more (f ∷ fs) k = elim k [ inl less ↦ inl less | inr x ↦ inr (x.0, beside_push P path more fs x.1) ]

beside_pop : (P : List Edge → Type 0) (path more d : List Edge) → IsBeside P (path ++ more) d → IsBeside (λ r. IsBeside P more r) path d
beside_pop P [] more d k = k
beside_pop P (e ∷ path) more [] k = absurd k
beside_pop P (e ∷ path) more (f ∷ fs) k = elim k [ inl less ↦ inl less | inr x ↦ inr (x.0, beside_pop P path more fs x.1) ]

lower_push : (path more d : List Edge) → IsBeside (λ r. GoesLower more r) path d → GoesLower (path ++ more) d
lower_push [] more d k = k
lower_push (e ∷ path) more [] k = absurd k
lower_push (e ∷ path) more (f ∷ fs) k = elim k [ inl less ↦ inl less | inr x ↦ inr (x.0, lower_push path more fs x.1) ]

-- the least for whom a transaction waits is no greater than another
not_below : (l : Lock) (node : TxnNo) (above : Option TxnNo) (e : Edge) (h : TxnNo) → IsBlocker l node above e → is_above above h ≡ true → waits_for l node h ≡ true → (e.holder.0 < h.0) ⊎ (e.holder ≡ h)
not_below l node above e h b up waits =
    let upto : e.holder.0 ≤ h.0 = (let cases = λ (x : Bool) (q : nat_lt h.0 e.holder.0 ≡ x).
    (elim x as (λ y. nat_lt h.0 e.holder.0 ≡ y → e.holder.0 ≤ h.0) [ true ↦ λ k. absurd (both_ways _ (b.least h up (ltb-true _ _ k)) waits) | false ↦ λ k. ltb-false _ _ k ]) q in
    cases (nat_lt h.0 e.holder.0) refl) in
    let cases = λ (x : Bool) (q : nat_lt e.holder.0 h.0 ≡ x).
    (elim x as (λ y. nat_lt e.holder.0 h.0 ≡ y → (e.holder.0 < h.0) ⊎ (e.holder ≡ h)) [
      | true ↦ λ k. inl (ltb-true _ _ k)
      | false ↦ λ k. (let down : h.0 ≤ e.holder.0 = ltb-false _ _ k in let same : e.holder.0 ≡ h.0 = omega (arith, upto, down) in inr (λ i. record { 0 = same i }))
    ]) q in
    cases (nat_lt e.holder.0 h.0) refl

-- who is passed by though waiting and unchosen was come to
was_seen : (l : Lock) (seen : List TxnNo) (h : TxnNo) → is_passed l seen h ≡ true → l.victims h ≡ false → is_none (waiting l h) ≡ false → is_seen h seen ≡ true
was_seen l seen h passed free waits = elim (or_cases (l.victims h) (is_none (waiting l h) || is_seen h seen) passed) [
  | inl v ↦ absurd (both_ways _ free v)
  | inr w ↦ elim (or_cases (is_none (waiting l h)) (is_seen h seen) w) [ inl i ↦ absurd (both_ways _ waits i) | inr s ↦ s ]
]

-- whom a walk comes to next was come to by the search, if it was passed by
next_seen : (l : Lock) (t u : TxnNo) (seen : List TxnNo) (g : Edge) (gs : List Edge) → Leaves l t u (g ∷ gs) → is_passed l seen u ≡ true → is_seen g.waiter seen ≡ true
next_seen l t u seen g gs w passed = was_seen l seen g.waiter (ap (λ y. is_passed l seen y) w.begins ∙ passed)
    (All-head (λ e. l.victims e.waiter ≡ false) g gs w.unchosen) (ap is_none (All-head (λ e. IsEdge l e) g gs w.edges).waits)

not_first : (t h : TxnNo) → h ≡ t → same_txn h t ≡ false → ⊥
not_first t h same other = both_ways _ other (ap (λ y. same_txn y t) same ∙ txn_refl t)

not_true : (b : Bool) → not b ≡ true → b ≡ false
not_true true h = absurd (both_ways _ refl h)
not_true false h = refl

-- who was come to and isn't on the path is closed
is_closed : (l : Lock) (t : TxnNo) (path : List Edge) (seen : List TxnNo) (node : TxnNo) (above : Option TxnNo) (g : Edge) (gs : List Edge)
    → Searching l t path seen node above → ((s : TxnNo) → (s ≡ node) ⊎ (is_on s path ≡ true) → is_on s (g ∷ gs) ≡ false) → is_seen g.waiter seen ≡ true → IsClosed l t seen g.waiter
is_closed l t path seen node above g gs s off at = elim (s.all_seen g.waiter at) [
  | inl c ↦ c
  | inr still ↦ absurd (both_ways _ (off g.waiter still) (or_left (same_txn g.waiter g.waiter) (is_on g.waiter gs) (txn_refl g.waiter)))
]

-- a walk that leaves the path for one who was come to never comes to its end
closed_end : (l : Lock) (t : TxnNo) (path : List Edge) (seen : List TxnNo) (node : TxnNo) (above : Option TxnNo) (u : TxnNo) (g : Edge) (gs : List Edge)
    → Searching l t path seen node above → Leaves l t u (g ∷ gs) → ((s : TxnNo) → (s ≡ node) ⊎ (is_on s path ≡ true) → is_on s (g ∷ gs) ≡ false)
    → is_seen g.waiter seen ≡ true → ⊥
closed_end l t path seen node above u g [] s w off at =
    let closed = is_closed l t path seen node above g [] s off at in
    let k = and_parts (not (same_txn g.holder t)) (is_passed l seen g.holder) (closed g.holder (All-head (λ e. IsEdge l e) g [] w.edges).blocked) in
    not_first t g.holder w.leads (not_true _ k.0)
closed_end l t path seen node above u g (h ∷ hs) s w off at =
    let closed = is_closed l t path seen node above g (h ∷ hs) s off at in
    let k = and_parts (not (same_txn g.holder t)) (is_passed l seen g.holder) (closed g.holder (All-head (λ e. IsEdge l e) g (h ∷ hs) w.edges).blocked) in
    let onward = goes_on l t u g h hs w in
    closed_end l t path seen node above g.holder h hs s onward (λ x still. (or_none (same_txn g.waiter x) (is_on x (h ∷ hs)) (off x still)).1) (next_seen l t g.holder seen h hs onward k.1)

-- nor does one that goes on to somebody who is passed by
dead_end : (l : Lock) (t : TxnNo) (path : List Edge) (seen : List TxnNo) (node : TxnNo) (above : Option TxnNo) (r : Edge) (rs : List Edge)
    → Searching l t path seen node above → Leaves l t node (r ∷ rs) → ((s : TxnNo) → is_on s path ≡ true → is_on s (r ∷ rs) ≡ false)
    → same_txn r.holder t ≡ false → is_passed l seen r.holder ≡ true → ⊥
dead_end l t path seen node above r [] s w off other passed = not_first t r.holder w.leads other
dead_end l t path seen node above r (g ∷ gs) s w off other passed =
    let onward = goes_on l t node r g gs w in
    closed_end l t path seen node above r.holder g gs s onward
    (λ x still. elim still [
      | inl at ↦ ap (λ y. is_on y (g ∷ gs)) (at ∙ sym w.begins) ∙ w.once.0
      | inr on ↦ (or_none (same_txn r.waiter x) (is_on x (g ∷ gs)) (off x on)).1
    ])
    (next_seen l t r.holder seen g gs onward passed)

-- a search begins
pub begins_ordered : (l : Lock) (t : TxnNo) (seen : List TxnNo) → seen ≡ t ∷ [] → Ordered l t [] seen t None
begins_ordered l t seen is = record {
  once = tt;
  off = refl;
  come = λ s on. absurd (both_ways _ refl on);
  here = ap (λ (x : List TxnNo). is_seen t x) is ∙ or_left _ _ (txn_refl t);
  ahead = λ d c w. some d w.begins;
}
  where
    some : (d : List Edge) → BeginsWith t d → IsBeside (GoesAbove None) [] d
    some [] b = absurd b
    some (f ∷ fs) b = refl

-- one was looked at and is passed by
pub skips_ordered : (l : Lock) (t : TxnNo) (path : List Edge) (seen : List TxnNo) (node : TxnNo) (above : Option TxnNo) (e : Edge)
    → Searching l t path seen node above → Ordered l t path seen node above → IsBlocker l node above e → same_txn e.holder t ≡ false → is_passed l seen e.holder ≡ true
    → Ordered l t path seen node (Some e.holder)
skips_ordered l t path seen node above e s o b other passed = record {
  once = o.once;
  off = o.off;
  come = o.come;
  here = o.here;
  ahead = λ d c w. beside l t node (GoesAbove above) (GoesAbove (Some e.holder)) (λ k. k) t path d s.path_is (at_first l t d c w) (o.ahead d c w) (λ r rs left off less up.
      elim (not_below l node above e r.holder b up (first_waits l t node r rs left)) [
        | inl lower ↦ lt-ltb _ _ lower
        | inr same ↦ absurd (dead_end l t path seen node above r rs s left off (ap (λ y. same_txn y t) (sym same) ∙ other) (ap (λ y. is_passed l seen y) (sym same) ∙ passed))
      ]);
}

-- one was looked at and is entered
pub enters_ordered : (l : Lock) (t : TxnNo) (path path' : List Edge) (seen seen' : List TxnNo) (node : TxnNo) (above : Option TxnNo) (e : Edge)
    → Searching l t path seen node above → Ordered l t path seen node above → IsBlocker l node above e → same_txn e.holder t ≡ false → is_passed l seen e.holder ≡ false
    → path' ≡ path ++ e ∷ [] → seen' ≡ seen ++ e.holder ∷ [] → Ordered l t path' seen' e.holder None
enters_ordered l t path path' seen seen' node above e s o b other fresh path_is seen_is =
    let free = (or_none (l.victims e.holder) (is_none (waiting l e.holder) || is_seen e.holder seen) fresh).1 in
    let new : is_seen e.holder seen ≡ false = (or_none (is_none (waiting l e.holder)) (is_seen e.holder seen) free).1 in
    subst (λ (p : List Edge). Ordered l t p seen' e.holder None) (sym path_is) (subst (λ (x : List TxnNo). Ordered l t (path ++ e ∷ []) x e.holder None) (sym seen_is) (record {
      once = once_push path e o.once (ap (λ u. is_on u path) b.waiter ∙ o.off);
      off = off_push e.holder path e (not_so _ (λ on. both_ways _ new (o.come e.holder on)))
          (not_so _ (λ same. both_ways _ new (ap (λ u. is_seen u seen) (sym (txn_eq e.waiter e.holder same) ∙ b.waiter) ∙ o.here)));
      come = λ u on. elim (on_cases u path e on) [
        | inl x ↦ seen_more u e.holder seen (o.come u x)
        | inr y ↦ seen_more u e.holder seen (ap (λ z. is_seen z seen) (sym (txn_eq e.waiter u y) ∙ b.waiter) ∙ o.here)
      ];
      here = seen_now e.holder seen;
      ahead = λ d c w. beside_push (GoesAbove None) path (e ∷ []) d (beside l t node (GoesAbove above) (λ r. IsBeside (GoesAbove None) (e ∷ []) r) (λ k. k) t path d s.path_is (at_first l t d c w) (o.ahead d c w) (λ r rs left off less up.
          elim (not_below l node above e r.holder b up (first_waits l t node r rs left)) [ inl lower ↦ inl lower | inr same ↦ inr (same, on r rs left same) ]));
    }))
  where
    on : (r : Edge) (rs : List Edge) → Leaves l t node (r ∷ rs) → e.holder ≡ r.holder → GoesAbove None rs
    on r [] left same = absurd (not_first t e.holder (same ∙ left.leads) other)
    on r (g ∷ gs) left same = refl

-- the last edge is gone back by
pub back_ordered : (l : Lock) (t : TxnNo) (path path' : List Edge) (seen : List TxnNo) (node : TxnNo) (above : Option TxnNo) (e : Edge)
    → Searching l t path seen node above → Ordered l t path seen node above → IsUnblocked l node above → path ≡ path' ++ e ∷ []
    → Ordered l t path' seen e.waiter (Some e.holder)
back_ordered l t path path' seen node above e s o none is =
    let once = subst IsOnce is o.once in
    let path_is = subst (λ (p : List Edge). IsPath t p node) is s.path_is in
    let come : (u : TxnNo) → is_on u (path' ++ e ∷ []) ≡ true → is_seen u seen ≡ true = λ u on. o.come u (ap (λ (p : List Edge). is_on u p) is ∙ on) in
    record {
      once = once_front path' e once;
      off = off_last path' e once;
      come = λ u on. come u (on_more u path' e on);
      here = come e.waiter (on_last e.waiter path' e (txn_refl e.waiter));
      ahead = λ d c w. beside l t e.waiter (λ r. IsBeside (GoesAbove above) (e ∷ []) r) (GoesAbove (Some e.holder)) (λ k. k) t path' d (path_front t node path' e path_is) (at_first l t d c w)
          (beside_pop (GoesAbove above) path' (e ∷ []) d (subst (λ (p : List Edge). IsBeside (GoesAbove above) p d) is (o.ahead d c w)))
          (λ r rs left off less p. elim p [ inl lower ↦ lt-ltb _ _ lower | inr x ↦ absurd (stuck (ends t path' path_is) r rs left x.0 x.1) ]);
    }
  where
    ends : (u : TxnNo) (p : List Edge) → IsPath u (p ++ e ∷ []) node → e.holder ≡ node
    ends u [] k = k.1
    ends u (x ∷ p) k = ends x.holder p k.1

    stuck : e.holder ≡ node → (r : Edge) (rs : List Edge) → Leaves l t e.waiter (r ∷ rs) → e.holder ≡ r.holder → GoesAbove above rs → ⊥
    stuck at r [] left same up = up
    stuck at r (g ∷ gs) left same up = both_ways _ (none g.holder up) (ap (λ u. waits_for l u g.holder) (sym at ∙ same) ∙ first_waits l t r.holder g gs (goes_on l t e.waiter r g gs left))

-- the path and one edge more are the first cycle
pub closes_first : (l : Lock) (t : TxnNo) (path path' : List Edge) (seen : List TxnNo) (node : TxnNo) (above : Option TxnNo) (e : Edge)
    → Searching l t path seen node above → Ordered l t path seen node above → IsBlocker l node above e → path' ≡ path ++ e ∷ [] → IsFirst l t path'
closes_first l t path path' seen node above e s o b is = subst (λ (p : List Edge). IsFirst l t p) (sym is) (record {
  walk = record { begins = begins path s.path_is; once = once_push path e o.once (ap (λ u. is_on u path) b.waiter ∙ o.off) };
  lowest = λ d c w. lower_push path (e ∷ []) d (beside l t node (GoesAbove above) (λ r. GoesLower (e ∷ []) r) (λ k. k) t path d s.path_is (at_first l t d c w) (o.ahead d c w) (λ r rs left off less up.
      elim (not_below l node above e r.holder b up (first_waits l t node r rs left)) [ inl lower ↦ inl lower | inr same ↦ inr (same, tt) ]));
})
  where
    begins : (p : List Edge) → IsPath t p node → BeginsWith t (p ++ e ∷ [])
    begins [] k = b.waiter ∙ sym k
    begins (x ∷ p) k = k.0

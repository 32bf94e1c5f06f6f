-- What each step keeps of a search.
use Rattle.std.proofs.Common.{◌≡◌, ℕ, ◌+◌, ◌<◌, ◌≤◌, Bool, true, false, refl, sym, ◌∙◌, ap, List, [], ◌∷◌, ◌++◌, length, length-append, subst, arith, Option, Some, None, ◌⊎◌, inl, inr, cond}
use Rattle.std.specs.Prelude.{◌||◌, not, nat_lt}
use Rattle.std.specs.List.{list_any, find, IsDistinct}
use Rattle.std.proofs.lemmas.Bool.{both_ways, and_parts, and_from, or_cases, or_left, or_right, ltb-true, ltb-false}
use Rattle.std.proofs.lemmas.List.Folds.{list_any-append}
use Rattle.std.proofs.lemmas.Map.Keys.{IsDistinct-push}
use Rattle.std.proofs.lemmas.Map.Made.{length-le_from_is_member}
use Rattle.dby_types.specs.declared.number.TxnNo.{TxnNo}
use Rattle.lock_modes.specs.declared.cycle.Edge.{Edge}
use Rattle.lock_modes.specs.declared.entry.Request.{Request}
use Rattle.lock_modes.specs.Lock.{Lock, queue}
use Rattle.lock_modes.specs.Names.{same_txn}
use Rattle.lock_modes.specs.Waits.{IsEdge, waiting}
use Rattle.lock_modes.proofs.NamesLemmas.{txn_eq, txn_refl, txn_equiv}
use Rattle.lock_manager.specs.Blocking.{is_above, IsBlocker, IsUnblocked}
use Rattle.lock_manager.specs.Serve.{is_among}
use Rattle.deadlock_cycle.specs.Search.{is_seen, is_none, is_passed, is_skipped, Each, IsPath, IsTried, IsClosed, is_on, Searching, room_above, rank}
use Rattle.deadlock_cycle.proofs.PathLemmas.{each_push, each_front, each_last, each_weaker, path_push, path_front}

pub or_none : (a b : Bool) → (a || b) ≡ false → (a ≡ false) × (b ≡ false)
or_none true b h = absurd (both_ways true h refl)
or_none false b h = (refl, h)

pub or_no : (a : Bool) → (a || false) ≡ a
or_no true = refl
or_no false = refl

-- who was come to before, or just now
seen_cases : (s h : TxnNo) (seen : List TxnNo) → is_seen s (seen ++ h ∷ []) ≡ true → (is_seen s seen ≡ true) ⊎ (s ≡ h)
seen_cases s h seen k =
    let parts : (is_seen s seen || (same_txn s h || false)) ≡ true = sym (list_any-append (λ u. same_txn s u) seen (h ∷ [])) ∙ k in
    elim (or_cases (is_seen s seen) (same_txn s h || false) parts) [ inl x ↦ inl x | inr y ↦ inr (txn_eq s h (sym (or_no (same_txn s h)) ∙ y)) ]

pub seen_more : (s h : TxnNo) (seen : List TxnNo) → is_seen s seen ≡ true → is_seen s (seen ++ h ∷ []) ≡ true
seen_more s h seen k = list_any-append (λ u. same_txn s u) seen (h ∷ []) ∙ or_left _ _ k

pub seen_now : (h : TxnNo) (seen : List TxnNo) → is_seen h (seen ++ h ∷ []) ≡ true
seen_now h seen = list_any-append (λ u. same_txn h u) seen (h ∷ []) ∙ or_right (is_seen h seen) _ (or_left _ _ (txn_refl h))

-- who is skipped stays so when more were come to
skipped_more : (l : Lock) (t u h : TxnNo) (seen : List TxnNo) → is_skipped l t seen h ≡ true → is_skipped l t (seen ++ u ∷ []) h ≡ true
skipped_more l t u h seen k =
    let p = and_parts (not (same_txn h t)) (is_passed l seen h) k in
    and_from _ _ p.0 (elim (or_cases (l.victims h) (is_none (waiting l h) || is_seen h seen) p.1) [
      | inl v ↦ or_left _ _ v
      | inr w ↦ or_right (l.victims h) _ (elim (or_cases (is_none (waiting l h)) (is_seen h seen) w) [ inl i ↦ or_left _ _ i | inr s ↦ or_right (is_none (waiting l h)) _ (seen_more h u seen s) ])
    ])

-- those looked at, once one more was
pub tried_next : (l : Lock) (t node : TxnNo) (seen more : List TxnNo) (above : Option TxnNo) (e : Edge)
    → IsBlocker l node above e → IsTried l t more node above → same_txn e.holder t ≡ false → is_passed l more e.holder ≡ true → IsTried l t more node (Some e.holder)
tried_next l t node seen more above e b tried other passed h waits below =
    let upto : h.0 ≤ e.holder.0 = ltb-false _ _ below in
    let cases = λ (x : Bool) (q : is_above above h ≡ x).
    (elim x as (λ y. is_above above h ≡ y → is_skipped l t more h ≡ true) [
      | true ↦ λ up.
          (let which = λ (z : Bool) (k : same_txn h e.holder ≡ z).
          (elim z as (λ y. same_txn h e.holder ≡ y → is_skipped l t more h ≡ true) [
            | true ↦ λ s. subst (λ (u : TxnNo). is_skipped l t more u ≡ true) (sym (txn_eq h e.holder s)) (and_from _ _ (ap not other) passed)
            | false ↦ λ s. absurd (both_ways _ (b.least h up (less h e.holder upto s)) waits)
          ]) k in
          which (same_txn h e.holder) refl)
      | false ↦ λ not_up. tried h waits not_up
    ]) q in
    cases (is_above above h) refl
  where
    less : (a b : TxnNo) → a.0 ≤ b.0 → same_txn a b ≡ false → a.0 < b.0
    less a b le differ =
        let cases = λ (x : Bool) (q : nat_lt a.0 b.0 ≡ x).
        (elim x as (λ y. nat_lt a.0 b.0 ≡ y → a.0 < b.0) [
          | true ↦ λ k. ltb-true _ _ k
          | false ↦ λ k. (let ge : b.0 ≤ a.0 = ltb-false _ _ k in let same : a.0 ≡ b.0 = omega (arith, le, ge) in
              let eq : a ≡ b = λ i. record { 0 = same i } in absurd (both_ways _ differ (ap (λ u. same_txn u b) eq ∙ txn_refl b)))
        ]) q in
        cases (nat_lt a.0 b.0) refl

-- nobody is left for whom the node waits
pub closed_now : (l : Lock) (t node : TxnNo) (seen : List TxnNo) (above : Option TxnNo) → IsTried l t seen node above → IsUnblocked l node above → IsClosed l t seen node
closed_now l t node seen above tried none h waits =
    let cases = λ (x : Bool) (q : is_above above h ≡ x).
    (elim x as (λ y. is_above above h ≡ y → is_skipped l t seen h ≡ true) [ true ↦ λ up. absurd (both_ways _ (none h up) waits) | false ↦ λ not_up. tried h waits not_up ]) q in
    cases (is_above above h) refl

-- who waits has a request in the queue
waits_among : (t : TxnNo) (rs : List Request) → is_none (find (λ r. same_txn r.txn t) rs) ≡ false → is_among t rs ≡ true
waits_among t [] h = absurd (both_ways _ h refl)
waits_among t (r ∷ rs) h = which (same_txn r.txn t) (waits_among t rs) h
  where
    which : (b : Bool) → (is_none (find (λ (q : Request). same_txn q.txn t) rs) ≡ false → is_among t rs ≡ true) → is_none (cond b (Some r) (find (λ (q : Request). same_txn q.txn t) rs)) ≡ false → (b || is_among t rs) ≡ true
    which true f k = refl
    which false f k = f k

distinct_nil : IsDistinct same_txn []
unfolding IsDistinct
distinct_nil = tt

-- a search begins
beginning : (l : Lock) (t : TxnNo) → length (queue l) ≤ 64 → is_passed l [] t ≡ false → Searching l t [] (t ∷ []) t None
beginning l t few free =
    let p = or_none (l.victims t) (is_none (waiting l t) || false) free in
    let among : is_among t (queue l) ≡ true = waits_among t (queue l) (sym (or_no (is_none (waiting l t))) ∙ p.1) in
    let itself : (s : TxnNo) → is_seen s (t ∷ []) ≡ true → s ≡ t = λ s k. txn_eq s t (sym (or_no (same_txn s t)) ∙ k) in
    record {
      path_is = refl;
      edges = tt;
      path_unchosen = tt;
      unchosen = p.0;
      path_tried = tt;
      tried = λ h waits below. absurd (both_ways _ below refl);
      all_seen = λ s k. inr (inl (itself s k));
      start = or_left _ _ (txn_refl t);
      waits = λ s k. ap (λ u. is_among u (queue l)) (itself s k) ∙ among;
      apart = IsDistinct-push txn_equiv [] t distinct_nil refl;
      deep = omega arith;
      few = few;
    }

pub begins : (l : Lock) (t : TxnNo) (seen : List TxnNo) → seen ≡ t ∷ [] → length (queue l) ≤ 64 → is_passed l [] t ≡ false → Searching l t [] seen t None
begins l t seen is few free = subst (λ (x : List TxnNo). Searching l t [] x t None) (sym is) (beginning l t few free)

-- the numbers above fall
room_falls : (above : Option TxnNo) (a : TxnNo) → is_above above a ≡ true → a.0 < 18446744073709551616 → room_above (Some a) < room_above above
room_falls None a up small = omega (arith, small)
room_falls (Some b) a up small = let less : b.0 < a.0 = ltb-true _ _ up in omega (arith, small, less)

room_most : (above : Option TxnNo) → room_above above ≤ 18446744073709551616
room_most None = omega arith
room_most (Some a) = omega arith

room_some : (a : TxnNo) → room_above (Some a) ≤ 18446744073709551615
room_some a = omega arith

-- one was looked at and is skipped
pub skips : (l : Lock) (t : TxnNo) (path : List Edge) (seen : List TxnNo) (node : TxnNo) (above : Option TxnNo) (e : Edge)
    → Searching l t path seen node above → IsBlocker l node above e → same_txn e.holder t ≡ false → is_passed l seen e.holder ≡ true → e.holder.0 < 18446744073709551616
    → Searching l t path seen node (Some e.holder) × (rank path seen (Some e.holder) < rank path seen above)
skips l t path seen node above e s b other passed small = (
  record {
    path_is = s.path_is;
    edges = s.edges;
    path_unchosen = s.path_unchosen;
    unchosen = s.unchosen;
    path_tried = s.path_tried;
    tried = tried_next l t node seen seen above e b s.tried other passed;
    all_seen = s.all_seen;
    start = s.start;
    waits = s.waits;
    apart = s.apart;
    deep = s.deep;
    few = s.few;
  },
  (let r = room_falls above e.holder b.above_it small in omega (arith, r)),
)

abbrev numbers : List Request → List TxnNo
numbers [] = []
numbers (r ∷ rs) = r.txn ∷ numbers rs

numbers_long : (rs : List Request) → length (numbers rs) ≡ length rs
numbers_long [] = refl
numbers_long (r ∷ rs) = let k = numbers_long rs in let g : length (r.txn ∷ numbers rs) ≡ length (r ∷ rs) = omega (arith, k) in g

numbers_has : (q : TxnNo) (rs : List Request) → is_among q rs ≡ true → list_any (same_txn q) (numbers rs) ≡ true
numbers_has q [] h = h
numbers_has q (r ∷ rs) h = elim (or_cases (same_txn r.txn q) (is_among q rs) h) [ inl x ↦ or_left _ _ (txn_equiv.symm q r.txn ∙ x) | inr y ↦ or_right (same_txn q r.txn) _ (numbers_has q rs y) ]

-- those come to are no more than those that wait
pub seen_fits : (l : Lock) (seen : List TxnNo) → IsDistinct same_txn seen → ((s : TxnNo) → is_seen s seen ≡ true → is_among s (queue l) ≡ true) → length seen ≤ length (queue l)
seen_fits l seen apart waits =
    subst (λ (n : ℕ). length seen ≤ n) (numbers_long (queue l))
    (length-le_from_is_member txn_equiv seen (numbers (queue l)) apart (λ q h. numbers_has q (queue l) (waits q h)))

-- the path is shorter than 64
pub path_fits : (l : Lock) (t : TxnNo) (path : List Edge) (seen : List TxnNo) (node : TxnNo) (above : Option TxnNo) → Searching l t path seen node above → length path < 64
path_fits l t path seen node above s = let k = seen_fits l seen s.apart s.waits in let d = s.deep in let f = s.few in omega (arith, k, d, f)

-- who waits on an edge's side of a path
pub on_more : (s : TxnNo) (path : List Edge) (e : Edge) → is_on s path ≡ true → is_on s (path ++ e ∷ []) ≡ true
on_more s path e k = list_any-append (λ e. same_txn e.waiter s) path (e ∷ []) ∙ or_left _ _ k

pub on_last : (s : TxnNo) (path : List Edge) (e : Edge) → same_txn e.waiter s ≡ true → is_on s (path ++ e ∷ []) ≡ true
on_last s path e k = list_any-append (λ e. same_txn e.waiter s) path (e ∷ []) ∙ or_right (is_on s path) _ (or_left _ _ k)

pub on_cases : (s : TxnNo) (path : List Edge) (e : Edge) → is_on s (path ++ e ∷ []) ≡ true → (is_on s path ≡ true) ⊎ (same_txn e.waiter s ≡ true)
on_cases s path e k =
    let parts : (is_on s path || (same_txn e.waiter s || false)) ≡ true = sym (list_any-append (λ e. same_txn e.waiter s) path (e ∷ [])) ∙ k in
    elim (or_cases (is_on s path) (same_txn e.waiter s || false) parts) [ inl x ↦ inl x | inr y ↦ inr (sym (or_no (same_txn e.waiter s)) ∙ y) ]

-- one was looked at and is entered
pub entered : (l : Lock) (t : TxnNo) (path : List Edge) (seen : List TxnNo) (node : TxnNo) (above : Option TxnNo) (e : Edge)
    → Searching l t path seen node above → IsBlocker l node above e → same_txn e.holder t ≡ false → is_passed l seen e.holder ≡ false
    → Searching l t (path ++ e ∷ []) (seen ++ e.holder ∷ []) e.holder None
entered l t path seen node above e s b other fresh =
    let free = or_none (l.victims e.holder) (is_none (waiting l e.holder) || is_seen e.holder seen) fresh in
    let rest = or_none (is_none (waiting l e.holder)) (is_seen e.holder seen) free.1 in
    let among : is_among e.holder (queue l) ≡ true = waits_among e.holder (queue l) rest.0 in
    let more : List TxnNo = seen ++ e.holder ∷ [] in
    let tried : IsTried l t more node above = λ h waits below. skipped_more l t e.holder h seen (s.tried h waits below) in
    let passed : is_passed l more e.holder ≡ true = or_right (l.victims e.holder) _ (or_right (is_none (waiting l e.holder)) _ (seen_now e.holder seen)) in
    let here : IsTried l t more node (Some e.holder) = tried_next l t node seen more above e b tried other passed in
    record {
      path_is = path_push t node path e s.path_is b.waiter;
      edges = each_push (λ e. IsEdge l e) path e s.edges b.edge;
      path_unchosen = each_push (λ e. l.victims e.waiter ≡ false) path e s.path_unchosen (ap (λ u. l.victims u) b.waiter ∙ s.unchosen);
      unchosen = free.0;
      path_tried = each_push (λ e. IsTried l t more e.waiter (Some e.holder)) path e
          (each_weaker (λ e. IsTried l t seen e.waiter (Some e.holder)) (λ e. IsTried l t more e.waiter (Some e.holder)) (λ f k h waits below. skipped_more l t e.holder h seen (k h waits below)) path s.path_tried)
          (subst (λ (u : TxnNo). IsTried l t more u (Some e.holder)) (sym b.waiter) here);
      tried = λ h waits below. absurd (both_ways _ below refl);
      all_seen = λ u k. elim (seen_cases u e.holder seen k) [
        | inl old ↦ elim (s.all_seen u old) [
          | inl closed ↦ inl (λ h waits. skipped_more l t e.holder h seen (closed h waits))
          | inr still ↦ elim still [
            | inl at ↦ inr (inr (on_last u path e (ap (λ x. same_txn x u) b.waiter ∙ ap (λ x. same_txn node x) at ∙ txn_refl node)))
            | inr on ↦ inr (inr (on_more u path e on))
          ]
        ]
        | inr new ↦ inr (inl new)
      ];
      start = seen_more t e.holder seen s.start;
      waits = λ u k. elim (seen_cases u e.holder seen k) [ inl old ↦ s.waits u old | inr new ↦ ap (λ x. is_among x (queue l)) new ∙ among ];
      apart = IsDistinct-push txn_equiv seen e.holder s.apart rest.1;
      deep = (let d = s.deep in omega (arith, d, length-append path (e ∷ []), length-append seen (e.holder ∷ [])));
      few = s.few;
    }

pub entered_fits : (l : Lock) (t : TxnNo) (path : List Edge) (seen : List TxnNo) (node : TxnNo) (above : Option TxnNo) (e : Edge)
    → Searching l t path seen node above → IsBlocker l node above e → same_txn e.holder t ≡ false → is_passed l seen e.holder ≡ false → length seen < 64
entered_fits l t path seen node above e s b other fresh =
    let n = entered l t path seen node above e s b other fresh in
    let k = seen_fits l (seen ++ e.holder ∷ []) n.apart n.waits in
    let f = s.few in
    omega (arith, k, f, length-append seen (e.holder ∷ []))

pub enters : (l : Lock) (t : TxnNo) (path path' : List Edge) (seen seen' : List TxnNo) (node : TxnNo) (above : Option TxnNo) (e : Edge)
    → Searching l t path seen node above → IsBlocker l node above e → same_txn e.holder t ≡ false → is_passed l seen e.holder ≡ false
    → path' ≡ path ++ e ∷ [] → seen' ≡ seen ++ e.holder ∷ []
    → Searching l t path' seen' e.holder None × (rank path' seen' None < rank path seen above)
enters l t path path' seen seen' node above e s b other fresh path_is seen_is =
    let n = entered l t path seen node above e s b other fresh in
    let fits = entered_fits l t path seen node above e s b other fresh in
    let lp : length path' ≡ length path + 1 = ap length path_is ∙ length-append path (e ∷ []) in
    let ls : length seen' ≡ length seen + 1 = ap length seen_is ∙ length-append seen (e.holder ∷ []) in (
      subst (λ (p : List Edge). Searching l t p seen' e.holder None) (sym path_is) (subst (λ (x : List TxnNo). Searching l t (path ++ e ∷ []) x e.holder None) (sym seen_is) n),
      omega (arith, lp, ls, fits),
    )

-- the last edge is gone back by
pub goes_back : (l : Lock) (t : TxnNo) (path path' : List Edge) (seen : List TxnNo) (node : TxnNo) (above : Option TxnNo) (e : Edge)
    → Searching l t path seen node above → IsUnblocked l node above → path ≡ path' ++ e ∷ []
    → Searching l t path' seen e.waiter (Some e.holder) × (rank path' seen (Some e.holder) < rank path seen above)
goes_back l t path path' seen node above e s none is =
    let lp : length path ≡ length path' + 1 = ap length is ∙ length-append path' (e ∷ []) in
    let m = room_some e.holder in
    let d = s.deep in
    let edges = subst (λ (p : List Edge). Each (λ e. IsEdge l e) p) is s.edges in
    let unchosen = subst (λ (p : List Edge). Each (λ e. l.victims e.waiter ≡ false) p) is s.path_unchosen in
    let tried = subst (λ (p : List Edge). Each (λ e. IsTried l t seen e.waiter (Some e.holder)) p) is s.path_tried in
    let closed = closed_now l t node seen above s.tried none in (
      record {
        path_is = path_front t node path' e (subst (λ (p : List Edge). IsPath t p node) is s.path_is);
        edges = each_front (λ e. IsEdge l e) path' e edges;
        path_unchosen = each_front (λ e. l.victims e.waiter ≡ false) path' e unchosen;
        unchosen = each_last (λ e. l.victims e.waiter ≡ false) path' e unchosen;
        path_tried = each_front (λ e. IsTried l t seen e.waiter (Some e.holder)) path' e tried;
        tried = each_last (λ e. IsTried l t seen e.waiter (Some e.holder)) path' e tried;
        all_seen = λ u k. elim (s.all_seen u k) [
          | inl c ↦ inl c
          | inr still ↦ elim still [
            | inl at ↦ inl (subst (λ (x : TxnNo). IsClosed l t seen x) (sym at) closed)
            | inr on ↦ elim (on_cases u path' e (subst (λ (p : List Edge). is_on u p ≡ true) is on)) [ inl x ↦ inr (inr x) | inr y ↦ inr (inl (sym (txn_eq e.waiter u y))) ]
          ]
        ];
        start = s.start;
        waits = s.waits;
        apart = s.apart;
        deep = omega (arith, d, lp);
        few = s.few;
      },
      omega (arith, lp, m),
    )

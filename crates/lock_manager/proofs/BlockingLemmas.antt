-- The least of those in the way.
use Rattle.std.proofs.Common.{◌≡◌, ◌<◌, ◌≤◌, Bool, true, false, refl, sym, ◌∙◌, ap, cond, List, [], ◌∷◌, ◌++◌, subst, arith, Option, Some, None}
use Rattle.std.specs.Prelude.{◌&&◌, ◌||◌, not, nat_lt}
use Rattle.std.specs.List.{list_any, find}
use Rattle.std.proofs.lemmas.Bool.{both_ways, and_parts, or_left, or_right, ltb-true, ltb-false}
use Rattle.std.proofs.lemmas.List.Folds.{list_any-append}
use Rattle.dby_types.specs.declared.number.TxnNo.{TxnNo}
use Rattle.lock_modes.specs.declared.cycle.Edge.{Edge}
use Rattle.lock_modes.specs.declared.entry.Request.{Request}
use Rattle.lock_modes.specs.Modes.{hinders}
use Rattle.lock_modes.specs.Names.{same_txn}
use Rattle.lock_modes.specs.Lock.{Lock, Grants, queue, request}
use Rattle.lock_modes.specs.Waits.{opposes, asks_before, blocks, ahead, waiting, waits_for, blocks_wait, IsEdge}
use Rattle.lock_modes.proofs.NamesLemmas.{txn_eq, txn_refl}
use Rattle.lock_manager.specs.Blocking.{is_above, is_below, better, least_by, IsLeast, IsBlocker, IsUnblocked}
use Rattle.lock_manager.specs.Serve.{is_among}

or_none : (a b : Bool) → (a || b) ≡ false → (a ≡ false) × (b ≡ false)
or_none true b h = absurd (both_ways true h refl)
or_none false b h = (refl, h)

and_no : (a : Bool) → (a && false) ≡ false
and_no true = refl
and_no false = refl

or_no : (a : Bool) → (a || false) ≡ a
or_no true = refl
or_no false = refl

or_assoc : (a b c : Bool) → ((a || b) || c) ≡ (a || (b || c))
or_assoc true b c = refl
or_assoc false b c = refl

-- a test may be said in other words
pub least_same : (p q : TxnNo → Bool) (above o : Option TxnNo) → ((h : TxnNo) → q h ≡ p h) → IsLeast p above o → IsLeast q above o
least_same p q above None same k = λ h a. same h ∙ k h a
least_same p q above (Some b) same k = (same b ∙ k.0, k.1, λ h a below. same h ∙ k.2 h a below)

-- the test with one more that passes, where it does
abbrev pub with_one : (TxnNo → Bool) → TxnNo → Bool → TxnNo → Bool
with_one p t passes h = p h || (same_txn t h && passes)

-- nothing new passes
with_none : (p : TxnNo → Bool) (t h : TxnNo) (passes : Bool) → (same_txn t h && passes) ≡ false → with_one p t passes h ≡ p h
with_none p t h passes none = ap (λ b. p h || b) none ∙ or_no (p h)

less_not : (t h : TxnNo) → h.0 < t.0 → same_txn t h ≡ false
less_not t h less =
    let cases = λ (b : Bool) (e : same_txn t h ≡ b).
    (elim b as (λ x. same_txn t h ≡ x → x ≡ false) [ true ↦ λ s. absurd (let n : t.0 ≡ h.0 = ap (λ (x : TxnNo). x.0) (txn_eq t h s) in omega (arith, n, less)) | false ↦ λ _. refl ]) e in
    let is = cases (same_txn t h) refl in
    twice (same_txn t h) is
  where
    twice : (b : Bool) → b ≡ false → b ≡ false
    twice b h = h

and_left : (a b : Bool) → a ≡ false → (a && b) ≡ false
and_left a b h = ap (λ x. x && b) h

-- one that isn't above, or doesn't pass, changes nothing
least_skips : (p : TxnNo → Bool) (above best : Option TxnNo) (t : TxnNo) (passes : Bool) → (passes && is_above above t) ≡ false → IsLeast p above best → IsLeast (with_one p t passes) above best
least_skips p above best t passes skip k = keep best k
  where
    other : (h : TxnNo) → is_above above h ≡ true → (same_txn t h && passes) ≡ false
    other h a =
        let cases = λ (b : Bool) (e : same_txn t h ≡ b).
        (elim b as (λ x. same_txn t h ≡ x → (x && passes) ≡ false) [
          | true ↦ λ s. let up : is_above above t ≡ true = ap (λ u. is_above above u) (txn_eq t h s) ∙ a in
              let q : passes ≡ (passes && is_above above t) = (let z = λ (b : Bool). (elim b as (λ y. y ≡ (y && true)) [ true ↦ refl | false ↦ refl ]) in z passes ∙ ap (λ y. passes && y) (sym up)) in
              q ∙ skip
          | false ↦ λ _. refl
        ]) e in
        cases (same_txn t h) refl

    keep : (o : Option TxnNo) → IsLeast p above o → IsLeast (with_one p t passes) above o
    keep None k = λ h a. with_none p t h passes (other h a) ∙ k h a
    keep (Some b) k = (or_left (p b) _ k.0, k.1, λ h a below. with_none p t h passes (other h a) ∙ k.2 h a below)

-- one more was looked at
pub least_next : (p : TxnNo → Bool) (above best : Option TxnNo) (t : TxnNo) (passes : Bool) → IsLeast p above best → IsLeast (with_one p t passes) above (better above best passes t)
least_next p above best t passes k =
    let cases = λ (b : Bool) (e : (passes && is_above above t) ≡ b).
    (elim b as (λ x. (passes && is_above above t) ≡ x → IsLeast (with_one p t passes) above (better above best passes t)) [
      | true ↦ λ s. let q = and_parts passes (is_above above t) s in
          subst (λ (b : Bool). IsLeast (with_one p t b) above (better above best b t)) (sym q.0)
          (subst (λ (b : Bool). IsLeast (with_one p t true) above (cond (b && is_below best t) (Some t) best)) (sym q.1) (takes best k q.1))
      | false ↦ λ s. subst (λ (b : Bool). IsLeast (with_one p t passes) above (cond b (Some t) best))
          (sym (and_assoc passes (is_above above t) (is_below best t) ∙ and_left (passes && is_above above t) (is_below best t) s)) (least_skips p above best t passes s k)
    ]) e in
    cases (passes && is_above above t) refl
  where
    and_assoc : (a b c : Bool) → (a && (b && c)) ≡ ((a && b) && c)
    and_assoc true b c = refl
    and_assoc false b c = refl

    itself : with_one p t true t ≡ true
    itself = or_right (p t) _ (ap (λ b. b && true) (txn_refl t))

    takes : (o : Option TxnNo) → IsLeast p above o → is_above above t ≡ true → IsLeast (with_one p t true) above (cond (is_below o t) (Some t) o)
    takes None k up = (itself, up, λ h a below. with_none p t h true (and_left _ _ (less_not t h below)) ∙ k h a)
    takes (Some b) k up =
        let which = λ (c : Bool) (e : nat_lt t.0 b.0 ≡ c).
        (elim c as (λ x. nat_lt t.0 b.0 ≡ x → IsLeast (with_one p t true) above (cond x (Some t) (Some b))) [
          | true ↦ λ s. (itself, up, λ h a below. with_none p t h true (and_left _ _ (less_not t h below)) ∙ k.2 h a (let l : t.0 < b.0 = ltb-true _ _ s in omega (arith, l, below)))
          | false ↦ λ s. (or_left (p b) _ k.0, k.1, λ h a below. with_none p t h true (and_left _ _ (less_not t h (let l : b.0 ≤ t.0 = ltb-false _ _ s in omega (arith, l, below)))) ∙ k.2 h a below)
        ]) e in
        which (nat_lt t.0 b.0) refl

-- all of a list were looked at
pub least_all : {X : Type 0} (test : X → Bool) (number : X → TxnNo) (p : TxnNo → Bool) (above best : Option TxnNo) (xs : List X) → IsLeast p above best
    → IsLeast (λ h. p h || list_any (λ x. same_txn (number x) h && test x) xs) above (least_by test number above best xs)
least_all test number p above best [] k = least_same p (λ h. p h || false) above best (λ h. or_no (p h)) k
least_all test number p above best (x ∷ xs) k =
    let first = least_next p above best (number x) (test x) k in
    let rest = least_all test number (with_one p (number x) (test x)) above (better above best (test x) (number x)) xs first in
    least_same (λ h. with_one p (number x) (test x) h || list_any (λ x. same_txn (number x) h && test x) xs) (λ h. p h || (same_txn (number x) h && test x || list_any (λ x. same_txn (number x) h && test x) xs)) above
    (least_by test number above (better above best (test x) (number x)) xs)
    (λ h. sym (or_assoc (p h) (same_txn (number x) h && test x) (list_any (λ x. same_txn (number x) h && test x) xs))) rest

-- who waits isn't among those ahead
ahead_others : (t : TxnNo) (rs : List Request) → is_among t (ahead t rs) ≡ false
ahead_others t [] = refl
ahead_others t (r ∷ rs) =
    let rest = ahead_others t rs in
    let cases = λ (b : Bool) (e : same_txn r.txn t ≡ b).
    (elim b as (λ x. same_txn r.txn t ≡ x → is_among t (cond x [] (r ∷ ahead t rs)) ≡ false) [ true ↦ λ _. refl | false ↦ λ s. ap (λ b. b || is_among t (ahead t rs)) s ∙ rest ]) e in
    cases (same_txn r.txn t) refl

not_asking : (r : Request) (qs : List Request) → is_among r.txn qs ≡ false → asks_before qs r r.txn ≡ false
not_asking r [] h = refl
not_asking r (q ∷ qs) h =
    let p = or_none (same_txn q.txn r.txn) (is_among r.txn qs) h in
    ap (λ b. (b && opposes q r) || asks_before qs r r.txn) p.0 ∙ not_asking r qs p.1

-- who asks ahead of a request is another transaction
other_asks : (r : Request) (qs : List Request) (h : TxnNo) → is_among r.txn qs ≡ false → (not (same_txn h r.txn) && asks_before qs r h) ≡ asks_before qs r h
other_asks r qs h none =
    let cases = λ (b : Bool) (e : same_txn h r.txn ≡ b).
    (elim b as (λ x. same_txn h r.txn ≡ x → (not x && asks_before qs r h) ≡ asks_before qs r h)
    [ true ↦ λ s. sym (ap (λ u. asks_before qs r u) (txn_eq h r.txn s) ∙ not_asking r qs none) | false ↦ λ _. refl ]) e in
    cases (same_txn h r.txn) refl

and_or : (n a b : Bool) → (n && (a || b)) ≡ ((n && a) || (n && b))
and_or true a b = refl
and_or false a b = refl

-- in the way: by what one has, or by a request ahead
blocks_ahead : (g : Grants) (t : TxnNo) (rs : List Request) (r : Request) (h : TxnNo) → r.txn ≡ t
    → blocks g (ahead t rs) r h ≡ ((not (same_txn h r.txn) && hinders (g h r.name) r.mode) || asks_before (ahead t rs) r h)
blocks_ahead g t rs r h mine =
    let qs = ahead t rs in
    let none : is_among r.txn qs ≡ false = ap (λ u. is_among u qs) mine ∙ ahead_others t rs in
    and_or (not (same_txn h r.txn)) (hinders (g h r.name) r.mode) (asks_before qs r h)
    ∙ ap (λ x. (not (same_txn h r.txn) && hinders (g h r.name) r.mode) || x) (other_asks r qs h none)

-- those ahead in two lists
ahead_first : (t : TxnNo) (a b : List Request) → is_among t a ≡ true → ahead t (a ++ b) ≡ ahead t a
ahead_first t [] b h = absurd (both_ways _ refl h)
ahead_first t (r ∷ a) b h =
    let cases = λ (x : Bool) (e : same_txn r.txn t ≡ x).
    (elim x as (λ y. same_txn r.txn t ≡ y → (y || is_among t a) ≡ true → cond y [] (r ∷ ahead t (a ++ b)) ≡ cond y [] (r ∷ ahead t a)) [ true ↦ λ _ k. refl | false ↦ λ _ k. ap (λ z. r ∷ z) (ahead_first t a b k) ]) e in
    cases (same_txn r.txn t) refl h

ahead_second : (t : TxnNo) (a b : List Request) → is_among t a ≡ false → ahead t (a ++ b) ≡ ahead t a ++ ahead t b
ahead_second t [] b h = refl
ahead_second t (r ∷ a) b h =
    let p = or_none (same_txn r.txn t) (is_among t a) h in
    ap (λ y. cond y [] (r ∷ ahead t (a ++ b))) p.0 ∙ ap (λ z. r ∷ z) (ahead_second t a b p.1) ∙ ap (λ y. cond y [] (r ∷ ahead t a) ++ ahead t b) (sym p.0)

asks_append : (a b : List Request) (r : Request) (h : TxnNo) → asks_before (a ++ b) r h ≡ (asks_before a r h || asks_before b r h)
asks_append a b r h = list_any-append (λ q. same_txn q.txn h && opposes q r) a b

-- the least after the conversions, where the request is one
pub least_first : (g : Grants) (cs rs : List Request) (r : Request) (above holder : Option TxnNo) → is_among r.txn cs ≡ true
    → IsLeast (λ h. not (same_txn h r.txn) && hinders (g h r.name) r.mode) above holder
    → IsLeast (λ h. blocks g (ahead r.txn (cs ++ rs)) r h) above (least_by (λ q. opposes q r) (λ q. q.txn) above holder (ahead r.txn cs))
least_first g cs rs r above holder among k =
    least_same (λ h. (not (same_txn h r.txn) && hinders (g h r.name) r.mode) || asks_before (ahead r.txn cs) r h) (λ h. blocks g (ahead r.txn (cs ++ rs)) r h) above
    (least_by (λ q. opposes q r) (λ q. q.txn) above holder (ahead r.txn cs))
    (λ h. ap (λ qs. blocks g qs r h) (ahead_first r.txn cs rs among) ∙ blocks_ahead g r.txn cs r h refl)
    (least_all (λ (q : Request). opposes q r) (λ (q : Request). q.txn) (λ h. not (same_txn h r.txn) && hinders (g h r.name) r.mode) above holder (ahead r.txn cs) k)

-- the least after all, where it is none
pub least_second : (g : Grants) (cs rs : List Request) (r : Request) (above holder asker : Option TxnNo) → is_among r.txn cs ≡ false
    → IsLeast (λ h. not (same_txn h r.txn) && hinders (g h r.name) r.mode) above holder
    → asker ≡ least_by (λ q. opposes q r) (λ q. q.txn) above holder (ahead r.txn cs)
    → IsLeast (λ h. blocks g (ahead r.txn (cs ++ rs)) r h) above (least_by (λ q. opposes q r) (λ q. q.txn) above asker (ahead r.txn rs))
least_second g cs rs r above holder asker among k is =
    let p : TxnNo → Bool = λ h. not (same_txn h r.txn) && hinders (g h r.name) r.mode in
    let first : IsLeast (λ h. p h || asks_before (ahead r.txn cs) r h) above asker =
    subst (λ (o : Option TxnNo). IsLeast (λ h. p h || asks_before (ahead r.txn cs) r h) above o) (sym is) (least_all (λ (q : Request). opposes q r) (λ (q : Request). q.txn) p above holder (ahead r.txn cs) k) in
    least_same (λ h. (p h || asks_before (ahead r.txn cs) r h) || asks_before (ahead r.txn rs) r h) (λ h. blocks g (ahead r.txn (cs ++ rs)) r h) above
    (least_by (λ q. opposes q r) (λ q. q.txn) above asker (ahead r.txn rs))
    (λ h. blocks_ahead g r.txn (cs ++ rs) r h refl ∙ ap (λ qs. p h || asks_before qs r h) (ahead_second r.txn cs rs among)
    ∙ ap (λ b. p h || b) (asks_append (ahead r.txn cs) (ahead r.txn rs) r h) ∙ sym (or_assoc (p h) (asks_before (ahead r.txn cs) r h) (asks_before (ahead r.txn rs) r h)))
    (least_all (λ (q : Request). opposes q r) (λ (q : Request). q.txn) (λ h. p h || asks_before (ahead r.txn cs) r h) above asker (ahead r.txn rs) first)

-- a request that is found in the first list, or else in the second
pub found_first : (p : Request → Bool) (a b : List Request) (r : Request) → find p a ≡ Some r → find p (a ++ b) ≡ Some r
found_first p [] b r h = absurd (cc h)
found_first p (x ∷ a) b r h =
    let cases = λ (y : Bool) (e : p x ≡ y).
    (elim y as (λ z. cond z (Some x) (find p a) ≡ Some r → cond z (Some x) (find p (a ++ b)) ≡ Some r) [ true ↦ λ k. k | false ↦ λ k. found_first p a b r k ]) in
    cases (p x) refl h

pub found_second : (p : Request → Bool) (a b : List Request) → find p a ≡ None → find p (a ++ b) ≡ find p b
found_second p [] b h = refl
found_second p (x ∷ a) b h =
    let cases = λ (y : Bool) (e : p x ≡ y).
    (elim y as (λ z. cond z (Some x) (find p a) ≡ None → cond z (Some x) (find p (a ++ b)) ≡ find p b) [ true ↦ λ k. absurd (cc k) | false ↦ λ k. found_second p a b k ]) in
    cases (p x) refl h

-- what is found is the transaction's
pub found_is : (t : TxnNo) (rs : List Request) (r : Request) → find (λ q. same_txn q.txn t) rs ≡ Some r → r.txn ≡ t
found_is t [] r h = absurd (cc h)
found_is t (x ∷ rs) r h =
    let cases = λ (y : Bool) (e : same_txn x.txn t ≡ y).
    (elim y as (λ z. same_txn x.txn t ≡ z → cond z (Some x) (find (λ q. same_txn q.txn t) rs) ≡ Some r → r.txn ≡ t)
    [ true ↦ λ s k. (let q : x ≡ r = cc k in ap (λ (u : Request). u.txn) (sym q) ∙ txn_eq x.txn t s) | false ↦ λ s k. found_is t rs r k ]) e in
    cases (same_txn x.txn t) refl h

-- whose waits are known by the request
waits_is : (l : Lock) (t h : TxnNo) (r : Request) → waiting l t ≡ Some r → waits_for l t h ≡ blocks l.grants (ahead t (queue l)) r h
waits_is l t h r found = ap (λ o. blocks_wait l t o h) found

-- nobody is in the way of who waits for nothing
pub unblocked_idle : (l : Lock) (t : TxnNo) (above : Option TxnNo) → waiting l t ≡ None → IsUnblocked l t above
unblocked_idle l t above idle h a = ap (λ o. blocks_wait l t o h) idle

pub unblocked_by : (l : Lock) (t : TxnNo) (above : Option TxnNo) (r : Request) → waiting l t ≡ Some r → IsLeast (λ h. blocks l.grants (ahead r.txn (queue l)) r h) above None → IsUnblocked l t above
unblocked_by l t above r found k h a =
    let mine = found_is t (queue l) r found in
    waits_is l t h r found ∙ ap (λ u. blocks l.grants (ahead u (queue l)) r h) (sym mine) ∙ k h a

pub blocked_by : (l : Lock) (t : TxnNo) (above : Option TxnNo) (r : Request) (holder : TxnNo) (e : Edge) → waiting l t ≡ Some r
    → IsLeast (λ h. blocks l.grants (ahead r.txn (queue l)) r h) above (Some holder)
    → IsEdge l e → e.waiter ≡ t → e.holder ≡ holder → IsBlocker l t above e
blocked_by l t above r holder e found k edge waiter is = record {
  edge = edge;
  waiter = waiter;
  above_it = ap (λ h. is_above above h) is ∙ k.1;
  least = λ h a below. waits_is l t h r found ∙ ap (λ u. blocks l.grants (ahead u (queue l)) r h) (sym (found_is t (queue l) r found)) ∙ k.2 h a (subst (λ (x : TxnNo). h.0 < x.0) is below);
}

-- the edge that stands
pub edge_waits : (l : Lock) (t holder : TxnNo) (above : Option TxnNo) (r : Request) → waiting l t ≡ Some r → IsLeast (λ h. blocks l.grants (ahead r.txn (queue l)) r h) above (Some holder) → waits_for l t holder ≡ true
edge_waits l t holder above r found k = waits_is l t holder r found ∙ ap (λ u. blocks l.grants (ahead u (queue l)) r holder) (sym (found_is t (queue l) r found)) ∙ k.0

pub edge_request : (l : Lock) (t : TxnNo) (r : Request) → waiting l t ≡ Some r → waiting l t ≡ Some (request t r.name r.mode)
edge_request l t r found = found ∙ (λ i. Some (record { txn = found_is t (queue l) r found i; name = r.name; mode = r.mode }))

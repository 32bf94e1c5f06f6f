-- The grants that follow what was given back are events that may come.
use Rattle.std.proofs.Common.{◌≡◌, Bool, true, false, refl, sym, ◌∙◌, ap, cond, List, [], ◌∷◌, ◌++◌, subst, Option, Some, inl, inr, append_assoc}
use Rattle.std.specs.Prelude.{◌&&◌, ◌||◌, not, if◌then◌else◌}
use Rattle.std.specs.List.{find}
use Rattle.std.proofs.lemmas.List.Folds.{list_any-append}
use Rattle.std.proofs.lemmas.Bool.{both_ways}
use Rattle.std.proofs.lemmas.List.Elements.{filter-append}
use Rattle.dby_types.specs.declared.number.TxnNo.{TxnNo}
use Rattle.lock_modes.specs.declared.entry.Request.{Request}
use Rattle.lock_modes.specs.Names.{same_txn, same_name}
use Rattle.lock_modes.specs.Lock.{Lock, queue, without_request, apply}
use Rattle.lock_modes.specs.Proper.{IsProper, before_of, chooses}
use Rattle.lock_modes.specs.Serving.{Serves, grant_of, grants_of}
use Rattle.lock_modes.specs.Waits.{IsFree, ahead, waiting}
use Rattle.lock_modes.proofs.NamesLemmas.{txn_refl, txn_equiv}
use Rattle.lock_manager.specs.Serve.{is_among}
use Rattle.lock_manager.specs.Table.{AreProper}
use Rattle.lock_manager.proofs.BlockedLemmas.{without_none}
use Rattle.lock_manager.proofs.BothLemmas.{Apart, without_first}

or_none : (a b : Bool) → (a || b) ≡ false → (a ≡ false) × (b ≡ false)
or_none true b h = absurd (both_ways true h refl)
or_none false b h = (refl, h)

among_parts : (u : TxnNo) (a b : List Request) → is_among u (a ++ b) ≡ false → (is_among u a ≡ false) × (is_among u b ≡ false)
among_parts u a b h = or_none (is_among u a) (is_among u b) (sym (list_any-append (λ q. same_txn q.txn u) a b) ∙ h)

among_both : (u : TxnNo) (a b : List Request) → is_among u a ≡ false → is_among u b ≡ false → is_among u (a ++ b) ≡ false
among_both u a b x y = list_any-append (λ q. same_txn q.txn u) a b ∙ (λ i. x i || y i)

-- a request among others, of whose transaction there is no other
apart_at : (front : List Request) (r : Request) (back : List Request) → Apart (front ++ r ∷ back) → (is_among r.txn front ≡ false) × (is_among r.txn back ≡ false)
apart_at [] r back a = (refl, a.0)
apart_at (x ∷ front) r back a =
    let rest = apart_at front r back a.1 in
    let here = (or_none (same_txn r.txn x.txn) (is_among x.txn back) (among_parts x.txn front (r ∷ back) a.0).1).0 in
    let other : same_txn x.txn r.txn ≡ false = txn_equiv.symm x.txn r.txn ∙ here in
    let none = rest.0 in
    (λ i. other i || none i, rest.1)

apart_without : (front : List Request) (r : Request) (back : List Request) → Apart (front ++ r ∷ back) → Apart (front ++ back)
apart_without [] r back a = a.1
apart_without (x ∷ front) r back a =
    let p = among_parts x.txn front (r ∷ back) a.0 in
    (among_both x.txn front back p.0 (or_none (same_txn r.txn x.txn) (is_among x.txn back) p.1).1, apart_without front r back a.1)

found : (t : TxnNo) (front : List Request) (r : Request) (back : List Request) → is_among t front ≡ false → same_txn r.txn t ≡ true → find (λ q. same_txn q.txn t) (front ++ r ∷ back) ≡ Some r
found t [] r back none e = ap (λ b. cond b (Some r) (find (λ q. same_txn q.txn t) back)) e
found t (x ∷ front) r back none e =
    let p = or_none (same_txn x.txn t) (is_among t front) none in
    ap (λ b. cond b (Some x) (find (λ q. same_txn q.txn t) (front ++ r ∷ back))) p.0 ∙ found t front r back p.1 e

those_ahead : (t : TxnNo) (front : List Request) (r : Request) (back : List Request) → is_among t front ≡ false → same_txn r.txn t ≡ true → ahead t (front ++ r ∷ back) ≡ front
those_ahead t [] r back none e = ap (λ b. if b then [] else (r ∷ ahead t back)) e
those_ahead t (x ∷ front) r back none e =
    let p = or_none (same_txn x.txn t) (is_among t front) none in
    ap (λ b. if b then [] else (x ∷ ahead t (front ++ r ∷ back))) p.0 ∙ ap (λ rs. x ∷ rs) (those_ahead t front r back p.1 e)

-- the queue without a request that was granted
queue_left : (l : Lock) (front : List Request) (r : Request) (back : List Request) → queue l ≡ front ++ r ∷ back → is_among r.txn front ≡ false → is_among r.txn back ≡ false
    → queue (apply l (grant_of r)) ≡ front ++ back
queue_left l front r back line a b =
    sym (filter-append (λ (q : Request). not (same_txn q.txn r.txn && same_name q.name r.name)) l.conversions l.requests)
    ∙ ap (λ rs. without_request r.txn r.name rs) line
    ∙ filter-append (λ (q : Request). not (same_txn q.txn r.txn && same_name q.name r.name)) front (r ∷ back)
    ∙ ap (λ rs. rs ++ without_request r.txn r.name (r ∷ back)) (without_none r.txn r.name front a)
    ∙ ap (λ rs. front ++ rs) (without_first r back b)

-- a queued request in whose way nobody is may be granted
one_proper : (l : Lock) (ever : TxnNo → Bool) (front : List Request) (r : Request) (back : List Request) → queue l ≡ front ++ r ∷ back → is_among r.txn front ≡ false → IsFree l.grants front r
    → IsProper l ever (grant_of r)
one_proper l ever front r back line none free =
    let waits : waiting l r.txn ≡ Some r = ap (find (λ (q : Request). same_txn q.txn r.txn)) line ∙ found r.txn front r back none (txn_refl r.txn) in
    let before : ahead r.txn (queue l) ≡ front = ap (ahead r.txn) line ∙ those_ahead r.txn front r back none (txn_refl r.txn) in
    inr (subst (λ (q : Option Request). IsFree l.grants (before_of l r q) r) (sym waits) (subst (λ (rs : List Request). IsFree l.grants rs r) (sym before) free))

-- those that are granted in the order of the queue may be granted, one after another
pub served_proper : (l : Lock) (front rs woken left : List Request) → queue l ≡ front ++ rs → Apart (front ++ rs) → Serves l.grants front rs woken left → (ever : TxnNo → Bool)
    → AreProper l ever (grants_of woken)
served_proper l front [] woken left line apart s ever = subst (λ (ws : List Request). AreProper l ever (grants_of ws)) (sym s.0) tt
served_proper l front (r ∷ rs) woken left line apart (inl g) ever =
    let a = apart_at front r rs apart in
    let one = one_proper l ever front r rs line a.0 g.2 in
    let rest = served_proper (apply l (grant_of r)) front rs g.0 left (queue_left l front r rs line a.0 a.1) (apart_without front r rs apart) g.3 (λ t. chooses (grant_of r) t || ever t) in
    subst (λ (ws : List Request). AreProper l ever (grants_of ws)) (sym g.1) (one, rest)
served_proper l front (r ∷ rs) woken left line apart (inr k) ever =
    let moved : (front ++ r ∷ []) ++ rs ≡ front ++ r ∷ rs = append_assoc front (r ∷ []) rs in
    served_proper l (front ++ r ∷ []) rs woken k.0 (line ∙ sym moved) (subst Apart (sym moved) apart) k.3 ever

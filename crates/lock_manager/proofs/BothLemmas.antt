-- Serving the conversions and then the other requests.
use Rattle.std.proofs.Common.{◌≡◌, Bool, true, false, refl, sym, ◌∙◌, ap, cond, List, [], ◌∷◌, ◌++◌, subst, inl, inr, append_assoc, append-nil}
use Rattle.std.specs.Prelude.{◌&&◌, ◌||◌, not}
use Rattle.std.proofs.lemmas.List.Folds.{list_any-append}
use Rattle.std.proofs.lemmas.Bool.{both_ways, and_from, or_left, or_right}
use Rattle.std.proofs.lemmas.List.Elements.{filter-append}
use Rattle.dby_types.specs.declared.number.TxnNo.{TxnNo}
use Rattle.lock_modes.specs.declared.entry.Request.{Request}
use Rattle.lock_modes.specs.Names.{same_txn, same_name}
use Rattle.lock_modes.specs.Lock.{Lock, Grants, granted, without_request, without, apply, apply_all}
use Rattle.lock_modes.specs.declared.event.LockEvent.TheVariants.{Granted}
use Rattle.lock_modes.specs.Waits.{AllBlocked}
use Rattle.lock_modes.specs.Serving.{Serves, granted_all, grants_of}
use Rattle.lock_modes.specs.Apart.{IsApart}
use Rattle.lock_modes.proofs.ApartLemmas.{apart_served}
use Rattle.lock_modes.proofs.NamesLemmas.{txn_eq, txn_refl, txn_equiv, name_refl}
use Rattle.lock_manager.specs.Owners.{Owners, grants_in, waits_in, victim_in}
use Rattle.lock_manager.specs.Serve.{is_among, Waiters, Wakes, Served, ServedBoth, without_all}
use Rattle.lock_manager.proofs.BlockedLemmas.{without_none, serves_append, served_blocked}
use Rattle.lock_manager.proofs.ServeLemmas.{no_wakes}
use Rattle.lock_manager.proofs.TableLemmas.{lock_path}

or_none : (a b : Bool) → (a || b) ≡ false → (a ≡ false) × (b ≡ false)
or_none true b h = absurd (both_ways true h refl)
or_none false b h = (refl, h)

txn_flip : (a b : TxnNo) (x : Bool) → same_txn a b ≡ x → same_txn b a ≡ x
txn_flip a b x h = txn_equiv.symm b a ∙ h

-- no transaction has two requests among these
abbrev pub Apart : List Request → Type 0
Apart [] = Unit {0}
Apart (r ∷ rs) = (is_among r.txn rs ≡ false) × Apart rs

pub apart_of : (os : Owners) (rs : List Request) → Waiters os rs → Apart rs
apart_of os [] w = tt
apart_of os (r ∷ rs) w = (w.1, apart_of os rs w.2)

pub waiters_front : (os : Owners) (a b : List Request) → Waiters os (a ++ b) → Waiters os a
waiters_front os [] b w = tt
waiters_front os (q ∷ a) b w = (w.0, (or_none (is_among q.txn a) (is_among q.txn b) (sym (list_any-append (λ x. same_txn x.txn q.txn) a b) ∙ w.1)).0, waiters_front os a b w.2)

waiters_back : (os : Owners) (a b : List Request) → Waiters os (a ++ b) → Waiters os b
waiters_back os [] b w = w
waiters_back os (q ∷ a) b w = waiters_back os a b w.2

-- who stands in the second list doesn't stand in the first
apart_lists : (os : Owners) (a b : List Request) → Waiters os (a ++ b) → (u : TxnNo) → is_among u b ≡ true → is_among u a ≡ false
apart_lists os [] b w u h = refl
apart_lists os (q ∷ a) b w u h =
    let none = (or_none (is_among q.txn a) (is_among q.txn b) (sym (list_any-append (λ x. same_txn x.txn q.txn) a b) ∙ w.1)).1 in
    let rest = apart_lists os a b w.2 u h in
    let cases = λ (x : Bool) (e : same_txn q.txn u ≡ x).
    (elim x as (λ y. same_txn q.txn u ≡ y → (y || is_among u a) ≡ false) [ true ↦ λ s. absurd (both_ways _ (ap (λ t. is_among t b) (sym (txn_eq q.txn u s)) ∙ none) h) | false ↦ λ _. rest ]) e in
    cases (same_txn q.txn u) refl

-- the granted and the others are of the line
among_line : (g : Grants) (b rs w l : List Request) → Serves g b rs w l → (u : TxnNo) → is_among u rs ≡ false → (is_among u w ≡ false) × (is_among u l ≡ false)
among_line g b [] w l s u h = (ap (λ x. is_among u x) s.0, ap (λ x. is_among u x) s.1)
among_line g b (r ∷ rs) w l s u h =
    let p = or_none (same_txn r.txn u) (is_among u rs) h in
    elim s [
      | inl a ↦ let k = among_line (granted g r) b rs a.0 l a.3 u p.1 in (ap (λ x. is_among u x) a.1 ∙ ap (λ x. x || is_among u a.0) p.0 ∙ k.0, k.1)
      | inr k ↦ let j = among_line g (b ++ r ∷ []) rs w k.0 k.3 u p.1 in (j.0, ap (λ x. is_among u x) k.1 ∙ ap (λ x. x || is_among u k.0) p.0 ∙ j.1)
    ]

-- those who are not among the granted keep their place
without_others : (w rs : List Request) → ((u : TxnNo) → is_among u w ≡ true → is_among u rs ≡ false) → without_all w rs ≡ rs
without_others [] rs apart = refl
without_others (x ∷ w) rs apart =
    ap (λ y. without_all w y) (without_none x.txn x.name rs (apart x.txn (or_left _ _ (txn_refl x.txn))))
    ∙ without_others w rs (λ u h. apart u (or_right (same_txn x.txn u) _ h))

pub without_first : (r : Request) (rs : List Request) → is_among r.txn rs ≡ false → without_request r.txn r.name (r ∷ rs) ≡ rs
without_first r rs h =
    ap (λ b. cond (not b) (r ∷ without_request r.txn r.name rs) (without_request r.txn r.name rs)) (and_from _ _ (txn_refl r.txn) (name_refl r.name))
    ∙ without_none r.txn r.name rs h

-- the head stays where the granted are others
without_keeps : (r : Request) (w rs : List Request) → is_among r.txn w ≡ false → without_all w (r ∷ rs) ≡ r ∷ without_all w rs
without_keeps r [] rs h = refl
without_keeps r (x ∷ w) rs h =
    let p = or_none (same_txn x.txn r.txn) (is_among r.txn w) h in
    ap (λ y. without_all w y) (ap (λ b. cond (not (b && same_name r.name x.name)) (r ∷ without_request x.txn x.name rs) (without_request x.txn x.name rs)) (txn_flip x.txn r.txn false p.0))
    ∙ without_keeps r w (without_request x.txn x.name rs) p.1

-- the line without the granted is what is left
line_left : (g : Grants) (b rs w l : List Request) → Serves g b rs w l → Apart rs → without_all w rs ≡ l
line_left g b [] w l s a = ap (λ x. without_all x []) s.0 ∙ sym s.1
line_left g b (r ∷ rs) w l s a = elim s [
  | inl k ↦ ap (λ x. without_all x (r ∷ rs)) k.1 ∙ ap (λ y. without_all k.0 y) (without_first r rs a.0) ∙ line_left (granted g r) b rs k.0 l k.3 a.1
  | inr k ↦
      let none = (among_line g (b ++ r ∷ []) rs w k.0 k.3 r.txn a.0).0 in
      without_keeps r w rs none ∙ ap (λ x. r ∷ x) (line_left g (b ++ r ∷ []) rs w k.0 k.3 a.1) ∙ sym k.1
]

without_append : (w v rs : List Request) → without_all (w ++ v) rs ≡ without_all v (without_all w rs)
without_append [] v rs = refl
without_append (x ∷ w) v rs = without_append w v (without_request x.txn x.name rs)

granted_append : (g : Grants) (w v : List Request) → granted_all g (w ++ v) ≡ granted_all (granted_all g w) v
granted_append g [] v = refl
granted_append g (x ∷ w) v = granted_append (granted g x) w v

wakes_append : (a b c : Owners) (w v : List Request) → Wakes a b w → Wakes b c v → Wakes a c (w ++ v)
wakes_append a b c w v x y =
    let first : grants_in b ≡ granted_all (grants_in a) w = λ i u n. x.grants u n i in
    record {
      grants = λ u n. y.grants u n ∙ ap (λ (g : Grants). granted_all g v u n) first ∙ ap (λ (g : Grants). g u n) (sym (granted_append (grants_in a) w v));
      lefts = λ u. y.lefts u ∙ x.lefts u;
      victims = λ u. y.victims u ∙ x.victims u;
      waits = λ u. y.waits u ∙ ap (λ z. z && not (is_among u v)) (x.waits u) ∙ and_not (waits_in a u) (is_among u w) (is_among u v) ∙ ap (λ z. waits_in a u && not z) (sym (list_any-append (λ q. same_txn q.txn u) w v));
      total = y.total ∙ x.total;
    }
  where
    and_not : (p q r : Bool) → ((p && not q) && not r) ≡ (p && not (q || r))
    and_not true true r = refl
    and_not true false r = refl
    and_not false q r = refl

-- who waits in one list after others were granted
waiters_others : (a b : Owners) (w : List Request) → Wakes a b w → (rs : List Request) → ((u : TxnNo) → is_among u rs ≡ true → is_among u w ≡ false) → Waiters a rs → Waiters b rs
waiters_others a b w x [] apart k = tt
waiters_others a b w x (r ∷ rs) apart k = (
  x.waits r.txn ∙ ap (λ z. waits_in a r.txn && not z) (apart r.txn (or_left _ _ (txn_refl r.txn))) ∙ and_from _ _ k.0 refl,
  k.1,
  waiters_others a b w x rs (λ u h. apart u (or_right (same_txn r.txn u) _ h)) k.2,
)

waiters_append : (os : Owners) (a b : List Request) → Waiters os a → Waiters os b → ((u : TxnNo) → is_among u a ≡ true → is_among u b ≡ false) → Waiters os (a ++ b)
waiters_append os [] b x y apart = y
waiters_append os (r ∷ a) b x y apart = (
  x.0,
  list_any-append (λ q. same_txn q.txn r.txn) a b ∙ ap (λ z. z || is_among r.txn b) x.1 ∙ apart r.txn (or_left _ _ (txn_refl r.txn)),
  waiters_append os a b x.2 y (λ u h. apart u (or_right (same_txn r.txn u) _ h)),
)

-- of two that can't both be so, one isn't
other : (x y : Bool) → (x ≡ true → y ≡ true → ⊥) → x ≡ true → y ≡ false
other x true never h = absurd (never h refl)
other x false never h = refl

pub served_both : (a b c : Owners) (cs rs cs' rs' given given' given'' : List Request)
    → Waiters a (cs ++ rs) → Served a b [] cs cs' given given' → Served b c cs' rs rs' given' given''
    → ServedBoth a c cs rs cs' rs' given given''
served_both a b c cs rs cs' rs' given given' given'' waiters x y =
    let w = x.woken in
    let v = y.woken in
    let path : grants_in b ≡ granted_all (grants_in a) w = λ i u n. x.wakes.grants u n i in
    let second : Serves (granted_all (grants_in a) w) cs' rs v rs' = subst (λ (g : Grants). Serves g cs' rs v rs') path y.order in
    let lists = apart_lists a cs rs waiters in
    let never : (u : TxnNo) → is_among u cs ≡ true → is_among u rs ≡ true → ⊥ = λ u h k. both_ways _ (lists u k) h in
    let in_first : (u : TxnNo) → is_among u rs ≡ true → (is_among u w ≡ false) × (is_among u cs' ≡ false) = λ u h. among_line (grants_in a) [] cs w cs' x.order u (lists u h) in
    let in_second : (u : TxnNo) → is_among u cs ≡ true → (is_among u v ≡ false) × (is_among u rs' ≡ false) = λ u h. among_line (grants_in b) cs' rs v rs' y.order u (other _ _ (never u) h) in
    let of_first : (u : TxnNo) → is_among u cs' ≡ true → is_among u cs ≡ true = λ u h. was_there (is_among u cs) (is_among u cs') (λ k. (among_line (grants_in a) [] cs w cs' x.order u k).1) h in
    let woken_first : (u : TxnNo) → is_among u w ≡ true → is_among u cs ≡ true = λ u h. was_there (is_among u cs) (is_among u w) (λ k. (among_line (grants_in a) [] cs w cs' x.order u k).0) h in
    let woken_second : (u : TxnNo) → is_among u v ≡ true → is_among u rs ≡ true = λ u h. was_there (is_among u rs) (is_among u v) (λ k. (among_line (grants_in b) cs' rs v rs' y.order u k).0) h in
    record {
      woken = w ++ v;
      noted = y.noted ∙ ap (λ z. z ++ v) x.noted ∙ append_assoc given w v;
      order = serves_append (grants_in a) [] cs rs w v cs' rs' x.order second;
      wakes = wakes_append a b c w v x.wakes y.wakes;
      waiters = waiters_append c cs' rs' (waiters_others b c v y.wakes cs' (λ u h. (in_second u (of_first u h)).0) x.waiters) y.waiters (λ u h. (in_second u (of_first u h)).1);
      conversions_are = without_append w v cs ∙ ap (λ z. without_all v z) (line_left (grants_in a) [] cs w cs' x.order (apart_of a cs (waiters_front a cs rs waiters)))
          ∙ without_others v cs' (λ u h. (in_first u (woken_second u h)).1);
      requests_are = without_append w v rs ∙ ap (λ z. without_all v z) (without_others w rs (λ u h. other _ _ (never u) (woken_first u h)))
          ∙ line_left (grants_in b) cs' rs v rs' y.order (apart_of a rs (waiters_back a cs rs waiters));
    }
  where
    was_there : (p q : Bool) → (p ≡ false → q ≡ false) → q ≡ true → p ≡ true
    was_there true q gone h = refl
    was_there false q gone h = absurd (both_ways _ (gone refl) h)

-- nothing is granted where each request has somebody in its way
none_served : (g : Grants) (b rs : List Request) → AllBlocked g b rs → Serves g b rs [] rs
none_served g b [] k = (refl, refl)
none_served g b (r ∷ rs) k = inr (rs, refl, k.0, none_served g (b ++ r ∷ []) rs k.1)

pub unserved : (a : Owners) (cs rs given : List Request) → Waiters a (cs ++ rs) → AllBlocked (grants_in a) [] (cs ++ rs) → ServedBoth a a cs rs cs rs given given
unserved a cs rs given waiters k = record {
  woken = [];
  noted = sym (append-nil given);
  order = none_served (grants_in a) [] (cs ++ rs) k;
  wakes = no_wakes a;
  waiters = waiters;
  conversions_are = refl;
  requests_are = refl;
}

-- the other requests still wait after the conversions were served
pub waiters_second : (a b : Owners) (cs rs cs' given given' : List Request) → Waiters a (cs ++ rs) → Served a b [] cs cs' given given' → Waiters b rs
waiters_second a b cs rs cs' given given' waiters x =
    waiters_others a b x.woken x.wakes rs (λ u h. (among_line (grants_in a) [] cs x.woken cs' x.order u (apart_lists a cs rs waiters u h)).0) (waiters_back a cs rs waiters)

-- who is left of a line: those that were not granted
pub among_left : (g : Grants) (b rs w l : List Request) → Serves g b rs w l → Apart rs → (u : TxnNo) → is_among u l ≡ (is_among u rs && not (is_among u w))
among_left g b [] w l s a u = ap (λ x. is_among u x) s.1
among_left g b (r ∷ rs) w l s a u = elim s [
  | inl k ↦
      let rest = among_left (granted g r) b rs k.0 l k.3 a.1 u in
      let gone = among_line (granted g r) b rs k.0 l k.3 r.txn a.0 in
      let cases = λ (x : Bool) (e : same_txn r.txn u ≡ x).
      (elim x as (λ y. same_txn r.txn u ≡ y → is_among u l ≡ ((y || is_among u rs) && not (y || is_among u k.0)))
      [ true ↦ λ t. ap (λ z. is_among z l) (sym (txn_eq r.txn u t)) ∙ gone.1 | false ↦ λ _. rest ]) e in
      cases (same_txn r.txn u) refl ∙ ap (λ x. (same_txn r.txn u || is_among u rs) && not (is_among u x)) (sym k.1)
  | inr k ↦
      let rest = among_left g (b ++ r ∷ []) rs w k.0 k.3 a.1 u in
      let gone = among_line g (b ++ r ∷ []) rs w k.0 k.3 r.txn a.0 in
      let cases = λ (x : Bool) (e : same_txn r.txn u ≡ x).
      (elim x as (λ y. same_txn r.txn u ≡ y → (y || is_among u k.0) ≡ ((y || is_among u rs) && not (is_among u w)))
      [ true ↦ λ t. ap not (sym (ap (λ z. is_among z w) (sym (txn_eq r.txn u t)) ∙ gone.0)) | false ↦ λ _. rest ]) e in
      ap (λ x. is_among u x) k.1 ∙ cases (same_txn r.txn u) refl
]

-- the state after the grants of a list of requests
pub after_grants : (l : Lock) (ws : List Request) → apply_all l (grants_of ws) ≡ record { grants = granted_all l.grants ws; conversions = without_all ws l.conversions; requests = without_all ws l.requests; victims = l.victims }
after_grants l [] = refl
after_grants l (r ∷ ws) = after_grants (apply l (Granted r.txn r.name r.mode)) ws

-- who waits once the line was served
pub only_left : (a c : Owners) (cs rs cs' rs' given given' : List Request) → Waiters a (cs ++ rs) → ((u : TxnNo) → waits_in a u ≡ is_among u (cs ++ rs))
    → ServedBoth a c cs rs cs' rs' given given' → (u : TxnNo) → waits_in c u ≡ is_among u (cs' ++ rs')
only_left a c cs rs cs' rs' given given' waiters only s u =
    s.wakes.waits u ∙ ap (λ x. x && not (is_among u s.woken)) (only u) ∙ sym (among_left (grants_in a) [] (cs ++ rs) s.woken (cs' ++ rs') s.order (apart_of a (cs ++ rs) waiters) u)

pub settled_both : (a c : Owners) (cs rs cs' rs' given given' : List Request) → ServedBoth a c cs rs cs' rs' given given' → AllBlocked (grants_in c) [] (cs' ++ rs')
settled_both a c cs rs cs' rs' given given' s =
    let path : grants_in c ≡ granted_all (grants_in a) s.woken = λ i u n. s.wakes.grants u n i in
    subst (λ (g : Grants). AllBlocked g [] (cs' ++ rs')) (sym path) (served_blocked (grants_in a) [] (cs ++ rs) s.woken (cs' ++ rs') s.order)

pub apart_both : (a c : Owners) (cs rs cs' rs' given given' : List Request) → ServedBoth a c cs rs cs' rs' given given' → IsApart (grants_in a) → IsApart (grants_in c)
apart_both a c cs rs cs' rs' given given' s apart =
    let path : grants_in c ≡ granted_all (grants_in a) s.woken = λ i u n. s.wakes.grants u n i in
    subst (λ (g : Grants). IsApart g) (sym path) (apart_served (grants_in a) [] (cs ++ rs) s.woken (cs' ++ rs') s.order apart)

-- the state once all was served, where l was the state before
pub state_both : (a c : Owners) (l : Lock) (cs' rs' given given' : List Request) (victims : TxnNo → Bool)
    → grants_in a ≡ l.grants → ((u : TxnNo) → victim_in a u ≡ l.victims u)
    → (s : ServedBoth a c l.conversions l.requests cs' rs' given given')
    → record { grants = grants_in c; conversions = cs'; requests = rs'; victims = victim_in c } ≡ apply_all l (grants_of s.woken)
state_both a c l cs' rs' given given' victims grants same s =
    let path : grants_in c ≡ granted_all l.grants s.woken = (λ i u n. s.wakes.grants u n i) ∙ ap (λ (g : Grants). granted_all g s.woken) grants in
    let noted : victim_in c ≡ l.victims = λ i u. (s.wakes.victims u ∙ same u) i in
    lock_path _ _ path (sym s.conversions_are) (sym s.requests_are) noted ∙ sym (after_grants l s.woken)

-- the requests of the others
among_without : (t u : TxnNo) (rs : List Request) → is_among u (without t rs) ≡ (not (same_txn t u) && is_among u rs)
among_without t u rs =
    let cases = λ (x : Bool) (e : same_txn t u ≡ x).
    (elim x as (λ y. same_txn t u ≡ y → is_among u (without t rs) ≡ (not y && is_among u rs))
    [ true ↦ λ s. ap (λ z. is_among z (without t rs)) (sym (txn_eq t u s)) ∙ mine rs | false ↦ λ s. others s rs ]) e in
    cases (same_txn t u) refl
  where
    mine : (xs : List Request) → is_among t (without t xs) ≡ false
    mine [] = refl
    mine (r ∷ xs) =
        let rest = mine xs in
        let cases = λ (x : Bool) (e : same_txn r.txn t ≡ x).
        (elim x as (λ y. same_txn r.txn t ≡ y → is_among t (cond (not y) (r ∷ without t xs) (without t xs)) ≡ false)
        [ true ↦ λ _. rest | false ↦ λ s. ap (λ z. z || is_among t (without t xs)) s ∙ rest ]) e in
        cases (same_txn r.txn t) refl

    others : same_txn t u ≡ false → (xs : List Request) → is_among u (without t xs) ≡ is_among u xs
    others other [] = refl
    others other (r ∷ xs) =
        let rest = others other xs in
        let cases = λ (x : Bool) (e : same_txn r.txn t ≡ x).
        (elim x as (λ y. same_txn r.txn t ≡ y → is_among u (cond (not y) (r ∷ without t xs) (without t xs)) ≡ (same_txn r.txn u || is_among u xs))
        [ true ↦ λ s. rest ∙ ap (λ z. z || is_among u xs) (sym (ap (λ q. same_txn q u) (txn_eq r.txn t s) ∙ other)) | false ↦ λ s. ap (λ z. same_txn r.txn u || z) rest ]) e in
        cases (same_txn r.txn t) refl

among_less : (t u : TxnNo) (rs : List Request) → is_among u rs ≡ false → is_among u (without t rs) ≡ false
among_less t u rs h = among_without t u rs ∙ ap (λ z. not (same_txn t u) && z) h ∙ none (not (same_txn t u))
  where
    none : (b : Bool) → (b && false) ≡ false
    none true = refl
    none false = refl

-- those who wait, where somebody is gone
waiters_without : (a b : Owners) (t : TxnNo) → ((u : TxnNo) → same_txn t u ≡ false → waits_in b u ≡ waits_in a u) → (rs : List Request) → Waiters a rs → Waiters b (without t rs)
waiters_without a b t same [] w = tt
waiters_without a b t same (r ∷ rs) w =
    let rest = waiters_without a b t same rs w.2 in
    let cases = λ (x : Bool) (e : same_txn r.txn t ≡ x).
    (elim x as (λ y. same_txn r.txn t ≡ y → Waiters b (cond (not y) (r ∷ without t rs) (without t rs)))
    [ true ↦ λ _. rest | false ↦ λ s. (same r.txn (txn_flip r.txn t false s) ∙ w.0, among_less t r.txn rs w.1, rest) ]) e in
    cases (same_txn r.txn t) refl

without_both : (t : TxnNo) (cs rs : List Request) → without t (cs ++ rs) ≡ without t cs ++ without t rs
without_both t cs rs = filter-append (λ (r : Request). not (same_txn r.txn t)) cs rs

pub waiters_gone : (a b : Owners) (t : TxnNo) → ((u : TxnNo) → same_txn t u ≡ false → waits_in b u ≡ waits_in a u) → (cs rs : List Request) → Waiters a (cs ++ rs) → Waiters b (without t cs ++ without t rs)
waiters_gone a b t same cs rs w = subst (λ (x : List Request). Waiters b x) (without_both t cs rs) (waiters_without a b t same (cs ++ rs) w)

pub only_gone : (a b : Owners) (t : TxnNo) → ((u : TxnNo) → waits_in b u ≡ (not (same_txn t u) && waits_in a u)) → (cs rs : List Request)
    → ((u : TxnNo) → waits_in a u ≡ is_among u (cs ++ rs)) → (u : TxnNo) → waits_in b u ≡ is_among u (without t cs ++ without t rs)
only_gone a b t same cs rs only u = same u ∙ ap (λ z. not (same_txn t u) && z) (only u) ∙ sym (among_without t u (cs ++ rs)) ∙ ap (λ x. is_among u x) (without_both t cs rs)

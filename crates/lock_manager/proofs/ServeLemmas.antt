-- Serving a line, request by request.
use Rattle.std.proofs.Common.{◌≡◌, ℕ, zero, ◌+◌, ◌-◌, ◌<◌, ◌≤◌, Bool, true, false, refl, sym, ◌∙◌, ap, List, [], ◌∷◌, ◌++◌, length, take, drop, get_or, subst, inl, inr, arith, append_assoc, append-nil, length-append, Option, Some, None, suc}
use Rattle.std.specs.Prelude.{◌&&◌, ◌||◌, not}
use Rattle.std.specs.List.{list_any, remove, slice_get}
use Rattle.std.proofs.lemmas.Option.{slice_get_cases}
use Rattle.std.specs.Option.{MatchOption, is_some}
use Rattle.std.proofs.Math.Seq.{take-append_seam, get_or-append_seam}
use Rattle.std.proofs.lemmas.List.Folds.{list_any-append}
use Rattle.std.proofs.lemmas.Bool.{both_ways, or_left, or_right}
use Rattle.dby_types.specs.declared.number.TxnNo.{TxnNo}
use Rattle.lock_modes.specs.declared.entry.Request.{Request}
use Rattle.lock_modes.specs.declared.name.LockName.{LockName}
use Rattle.lock_modes.specs.Names.{same_txn}
use Rattle.lock_modes.specs.Lock.{Grants, granted}
use Rattle.lock_modes.specs.Modes.{hinders}
use Rattle.lock_modes.specs.Waits.{blocks, asks_before, opposes, IsFree, IsBlocked}
use Rattle.lock_modes.specs.Serving.{Serves, granted_all}
use Rattle.lock_modes.proofs.NamesLemmas.{txn_eq, txn_refl, txn_equiv}
use Rattle.lock_manager.specs.Freed.{StillBlocked, Skips}
use Rattle.lock_manager.proofs.FreedLemmas.{still_granted}
use Rattle.lock_manager.specs.Owners.{Owners, grants_in, left_in, victim_in, waits_in, left_sum, Changes}
use Rattle.lock_manager.specs.Serve.{is_among, Waiters, Wakes, Served, Serving}

-- who is in the way, by parts
and_or : (n a b : Bool) → (n && (a || b)) ≡ ((n && a) || (n && b))
and_or true a b = refl
and_or false a b = refl

blocks_parts : (g : Grants) (a b : List Request) (r : Request) (h : TxnNo)
    → blocks g (a ++ b) r h ≡ ((not (same_txn h r.txn) && hinders (g h r.name) r.mode) || ((not (same_txn h r.txn) && asks_before a r h) || (not (same_txn h r.txn) && asks_before b r h)))
blocks_parts g a b r h =
    let n = not (same_txn h r.txn) in
    ap (λ x. n && (hinders (g h r.name) r.mode || x)) (list_any-append (λ q. same_txn q.txn h && opposes q r) a b)
    ∙ and_or n (hinders (g h r.name) r.mode) (asks_before a r h || asks_before b r h)
    ∙ ap (λ x. (n && hinders (g h r.name) r.mode) || x) (and_or n (asks_before a r h) (asks_before b r h))

none_of : (a b c : Bool) → a ≡ false → b ≡ false → c ≡ false → (a || (b || c)) ≡ false
none_of a b c p q r = ap (λ x. x || (b || c)) p ∙ ap (λ x. x || c) q ∙ r

pub nobody : (g : Grants) (a b : List Request) (r : Request)
    → ((h : TxnNo) → (not (same_txn h r.txn) && hinders (g h r.name) r.mode) ≡ false)
    → ((h : TxnNo) → (not (same_txn h r.txn) && asks_before a r h) ≡ false)
    → ((h : TxnNo) → (not (same_txn h r.txn) && asks_before b r h) ≡ false)
    → IsFree g (a ++ b) r
nobody g a b r x y z h = blocks_parts g a b r h ∙ none_of _ _ _ (x h) (y h) (z h)

pub by_holder : (g : Grants) (a b : List Request) (r : Request) (h : TxnNo) → (not (same_txn h r.txn) && hinders (g h r.name) r.mode) ≡ true → blocks g (a ++ b) r h ≡ true
by_holder g a b r h x = blocks_parts g a b r h ∙ or_left _ _ x

pub by_first : (g : Grants) (a b : List Request) (r : Request) (h : TxnNo) → (not (same_txn h r.txn) && asks_before a r h) ≡ true → blocks g (a ++ b) r h ≡ true
by_first g a b r h x = blocks_parts g a b r h ∙ or_right (not (same_txn h r.txn) && hinders (g h r.name) r.mode) _ (or_left _ _ x)

pub by_second : (g : Grants) (a b : List Request) (r : Request) (h : TxnNo) → (not (same_txn h r.txn) && asks_before b r h) ≡ true → blocks g (a ++ b) r h ≡ true
by_second g a b r h x = blocks_parts g a b r h ∙ or_right (not (same_txn h r.txn) && hinders (g h r.name) r.mode) _ (or_right (not (same_txn h r.txn) && asks_before a r h) _ x)

-- the grants after one request more
granted_snoc : (g : Grants) (rs : List Request) (r : Request) → granted_all g (rs ++ r ∷ []) ≡ granted (granted_all g rs) r
granted_snoc g [] r = refl
granted_snoc g (q ∷ rs) r = granted_snoc (granted g q) rs r

among_snoc : (u : TxnNo) (rs : List Request) (r : Request) → is_among u (rs ++ r ∷ []) ≡ (is_among u rs || same_txn r.txn u)
among_snoc u rs r = list_any-append (λ q. same_txn q.txn u) rs (r ∷ []) ∙ ap (λ x. is_among u rs || x) (or_no (same_txn r.txn u))
  where
    or_no : (b : Bool) → (b || false) ≡ b
    or_no true = refl
    or_no false = refl

pub no_wakes : (os : Owners) → Wakes os os []
no_wakes os = record { grants = λ u n. refl; lefts = λ u. refl; victims = λ u. refl; waits = λ u. sym (and_yes (waits_in os u)); total = refl }
  where
    and_yes : (b : Bool) → (b && true) ≡ b
    and_yes true = refl
    and_yes false = refl

pub serving_starts : (p : LockName → Bool) (os : Owners) (before line given : List Request) → Waiters os line → Serving p os os before line line 0 given given
serving_starts p os before line given waiters = record {
  left = [];
  rest = line;
  woken = [];
  place = refl;
  line_is = refl;
  noted = sym (append-nil given);
  order = λ w l s. subst (λ (b : List Request). Serves (grants_in os) b line w l) (append-nil before) s;
  wakes = no_wakes os;
  waiters = waiters;
  still = λ after k. subst (λ (b : List Request). StillBlocked p (grants_in os) b (line ++ after)) (sym (append-nil before)) k;
}

pub last_of : (g : Grants) (a b : List Request) (r : Request) (o : Option TxnNo)
    → ((h : TxnNo) → (not (same_txn h r.txn) && hinders (g h r.name) r.mode) ≡ false)
    → ((h : TxnNo) → (not (same_txn h r.txn) && asks_before a r h) ≡ false)
    → MatchOption o ((h : TxnNo) → (not (same_txn h r.txn) && asks_before b r h) ≡ false) (λ h. (not (same_txn h r.txn) && asks_before b r h) ≡ true)
    → MatchOption o (IsFree g (a ++ b) r) (λ h. blocks g (a ++ b) r h ≡ true)
last_of g a b r None x y z = nobody g a b r x y z
last_of g a b r (Some h) x y z = by_second g a b r h z

txn_flip : (a b : TxnNo) → same_txn a b ≡ false → same_txn b a ≡ false
txn_flip a b h = txn_equiv.symm b a ∙ h

or_none : (a b : Bool) → (a || b) ≡ false → (a ≡ false) × (b ≡ false)
or_none true b h = absurd (both_ways true h refl)
or_none false b h = (refl, h)

-- no element of a list passes, so none before, at and behind a place
none_mid : {X : Type 0} (p : X → Bool) (a b : List X) (x : X) → list_any p (a ++ x ∷ b) ≡ false → (p x ≡ false) × (list_any p (a ++ b) ≡ false)
none_mid p [] b x h = or_none (p x) (list_any p b) h
none_mid p (y ∷ a) b x h =
    let q = or_none (p y) (list_any p (a ++ x ∷ b)) h in
    let r = none_mid p a b x q.1 in
    (r.0, ap (λ w. w || list_any p (a ++ b)) q.0 ∙ r.1)

-- those who wait, where room is given up for somebody else
pub waiters_keep : (os os' : Owners) (t : TxnNo) → ((u : TxnNo) → same_txn t u ≡ false → waits_in os' u ≡ waits_in os u)
    → (rs : List Request) → is_among t rs ≡ false → Waiters os rs → Waiters os' rs
waiters_keep os os' t same [] h w = tt
waiters_keep os os' t same (q ∷ rs) h w =
    let p = or_none (same_txn q.txn t) (is_among t rs) h in
    (same q.txn (txn_flip q.txn t p.0) ∙ w.0, w.1, waiters_keep os os' t same rs p.1 w.2)

waiters_drop : (os os' : Owners) (r : Request) → ((u : TxnNo) → same_txn r.txn u ≡ false → waits_in os' u ≡ waits_in os u)
    → (a b : List Request) → Waiters os (a ++ r ∷ b) → Waiters os' (a ++ b)
waiters_drop os os' r same [] b w = waiters_keep os os' r.txn same b w.1 w.2
waiters_drop os os' r same (q ∷ a) b w =
    let p = none_mid (λ x. same_txn x.txn q.txn) a b r w.1 in
    (same q.txn p.0 ∙ w.0, p.1, waiters_drop os os' r same a b w.2)

waiters_at : (os : Owners) (a b : List Request) (r : Request) → Waiters os (a ++ r ∷ b) → waits_in os r.txn ≡ true
waiters_at os [] b r w = w.0
waiters_at os (q ∷ a) b r w = waiters_at os a b r w.2

-- the request at the place is the first of those that are left
split_rest : (left rest line : List Request) (i : ℕ) (r : Request) → i ≡ length left → line ≡ left ++ rest → i < length line → r ≡ get_or line i r
    → (rest' : List Request) × (rest ≡ r ∷ rest')
split_rest left [] line i r at is within read = let none : List Request = [] in absurd (omega (arith, ap length is, length-append left none))
split_rest left (q ∷ rest) line i r at is within read =
    let same : r ≡ q = read ∙ ap (λ l. get_or l i r) is ∙ ap (λ k. get_or (left ++ q ∷ rest) k r) at ∙ get_or-append_seam left q rest r in
    (rest, ap (λ x. x ∷ rest) (sym same))

-- what holds of one transaction and of all others holds of all
pub everywhere : {X : Type 0} (f g : TxnNo → X) (t : TxnNo) → f t ≡ g t → ((u : TxnNo) → same_txn t u ≡ false → f u ≡ g u) → (u : TxnNo) → f u ≡ g u
everywhere f g t mine others u =
    let cases = λ (b : Bool) (e : same_txn t u ≡ b).
    (elim b as (λ w. same_txn t u ≡ w → f u ≡ g u) [ true ↦ λ s. let q = txn_eq t u s in ap f (sym q) ∙ mine ∙ ap g q | false ↦ λ s. others u s ]) e in
    cases (same_txn t u) refl

pub serving_waits : (t : LockName → Bool) (old new : Owners) (before line line' given given' : List Request) (i : ℕ) (r : Request)
    → Serving t old new before line line' i given given' → i < length line' → r ≡ get_or line' i r → waits_in new r.txn ≡ true
serving_waits t old new before line line' given given' i r s within read =
    let p = split_rest s.left s.rest line' i r s.place s.line_is within read in
    waiters_at new s.left p.0 r (subst (λ (x : List Request). Waiters new (s.left ++ x)) p.1 s.waiters)

-- a request that stays
pub serving_stays : (t : LockName → Bool) (old new : Owners) (before line line' given given' : List Request) (i : ℕ) (r : Request)
    → Serving t old new before line line' i given given' → i < length line' → r ≡ get_or line' i r
    → IsBlocked (grants_in new) (before ++ take i line') r
    → Serving t old new before line line' (i + 1) given given'
serving_stays t old new before line line' given given' i r s within read blocked =
    let p = split_rest s.left s.rest line' i r s.place s.line_is within read in
    let front : take i line' ≡ s.left = ap (λ l. take i l) s.line_is ∙ ap (λ k. take k (s.left ++ s.rest)) s.place ∙ take-append_seam s.left s.rest in
    let here : IsBlocked (grants_in new) (before ++ s.left) r = subst (λ (x : List Request). IsBlocked (grants_in new) (before ++ x) r) front blocked in
    let one : List Request = r ∷ [] in
    let lists : s.left ++ s.rest ≡ (s.left ++ one) ++ p.0 = ap (λ x. s.left ++ x) p.1 ∙ sym (append_assoc s.left one p.0) in
    record {
      left = s.left ++ one;
      rest = p.0;
      woken = s.woken;
      place = omega (arith, s.place, length-append s.left one);
      line_is = s.line_is ∙ lists;
      noted = s.noted;
      order = λ w l more.
          let inner : Serves (grants_in new) ((before ++ s.left) ++ one) p.0 w l = subst (λ (b : List Request). Serves (grants_in new) b p.0 w l) (sym (append_assoc before s.left one)) more in
          let step : Serves (grants_in new) (before ++ s.left) (r ∷ p.0) w (r ∷ l) = inr (l, refl, here, inner) in
          let whole = s.order w (r ∷ l) (subst (λ (x : List Request). Serves (grants_in new) (before ++ s.left) x w (r ∷ l)) (sym p.1) step) in
          subst (λ (x : List Request). Serves (grants_in old) before line (s.woken ++ w) x) (sym (append_assoc s.left one l)) whole;
      wakes = s.wakes;
      waiters = subst (λ (x : List Request). Waiters new x) lists s.waiters;
      still = λ after k.
          let here = subst (λ (x : List Request). StillBlocked t (grants_in new) (before ++ s.left) (x ++ after)) p.1 (s.still after k) in
          subst (λ (b : List Request). StillBlocked t (grants_in new) b (p.0 ++ after)) (append_assoc before s.left one) here.1;
    }

-- what stands behind a place
behind : (a b : List Request) (x : Request) → drop (suc (length a)) (a ++ x ∷ b) ≡ b
behind [] b x = refl
behind (y ∷ a) b x = behind a b x

-- a request that is granted
pub serving_wakes : (t : LockName → Bool) (old new new' : Owners) (before line line' given given' : List Request) (i : ℕ) (r : Request)
    → Serving t old new before line line' i given given' → i < length line' → r ≡ get_or line' i r
    → IsFree (grants_in new) (before ++ take i line') r
    → Changes new new' r.txn (granted (grants_in new) r)
    → t r.name ≡ true → left_in new' r.txn ≡ left_in new r.txn → waits_in new' r.txn ≡ false → victim_in new' r.txn ≡ victim_in new r.txn
    → Serving t old new' before line (remove line' i) i given (given' ++ r ∷ [])
serving_wakes t old new new' before line line' given given' i r s within read free changed freed left waits victim =
    let p = split_rest s.left s.rest line' i r s.place s.line_is within read in
    let front : take i line' ≡ s.left = ap (λ l. take i l) s.line_is ∙ ap (λ k. take k (s.left ++ s.rest)) s.place ∙ take-append_seam s.left s.rest in
    let here : IsFree (grants_in new) (before ++ s.left) r = subst (λ (x : List Request). IsFree (grants_in new) (before ++ x) r) front free in
    let one : List Request = r ∷ [] in
    let grants : granted (grants_in new) r ≡ grants_in new' = sym (λ j u n. changed.grants_are u n j) in
    let before_all : grants_in new ≡ granted_all (grants_in old) s.woken = λ j u n. s.wakes.grants u n j in
    let removed : remove line' i ≡ s.left ++ p.0 =
    ap (λ l. remove l i) (s.line_is ∙ ap (λ x. s.left ++ x) p.1) ∙ ap (λ k. remove (s.left ++ r ∷ p.0) k) s.place ∙ gone s.left p.0 r in
    record {
      left = s.left;
      rest = p.0;
      woken = s.woken ++ one;
      place = s.place;
      line_is = removed;
      noted = ap (λ x. x ++ one) s.noted ∙ append_assoc given s.woken one;
      order = λ w l more.
          let inner : Serves (granted (grants_in new) r) (before ++ s.left) p.0 w l = subst (λ (g : Grants). Serves g (before ++ s.left) p.0 w l) (sym grants) more in
          let step : Serves (grants_in new) (before ++ s.left) (r ∷ p.0) (r ∷ w) l = inl (w, refl, here, inner) in
          let whole = s.order (r ∷ w) l (subst (λ (x : List Request). Serves (grants_in new) (before ++ s.left) x (r ∷ w) l) (sym p.1) step) in
          subst (λ (x : List Request). Serves (grants_in old) before line x (s.left ++ l)) (sym (append_assoc s.woken one w)) whole;
      wakes = record {
        grants = λ u n. changed.grants_are u n ∙ ap (λ (g : Grants). granted g r u n) before_all ∙ ap (λ (g : Grants). g u n) (sym (granted_snoc (grants_in old) s.woken r));
        lefts = λ u. everywhere (left_in new') (left_in new) r.txn left changed.others_left u ∙ s.wakes.lefts u;
        victims = λ u. everywhere (victim_in new') (victim_in new) r.txn victim changed.others_victims u ∙ s.wakes.victims u;
        waits = everywhere (waits_in new') (λ u. waits_in old u && not (is_among u (s.woken ++ one))) r.txn
            (waits ∙ sym (ap (λ b. waits_in old r.txn && not b) (among_snoc r.txn s.woken r ∙ or_right (is_among r.txn s.woken) _ (txn_refl r.txn)) ∙ and_no (waits_in old r.txn)))
            (λ u other. changed.others_wait u other ∙ s.wakes.waits u ∙ ap (λ b. waits_in old u && not b) (sym (among_snoc u s.woken r ∙ ap (λ b. is_among u s.woken || b) other ∙ or_no (is_among u s.woken))));
        total = (let sum = changed.total in let a : left_sum new' ≡ left_sum new = omega (arith, sum, left) in a) ∙ s.wakes.total;
      };
      waiters = waiters_drop new new' r changed.others_wait s.left p.0 (subst (λ (x : List Request). Waiters new (s.left ++ x)) p.1 s.waiters);
      still = λ after k.
          let here = subst (λ (x : List Request). StillBlocked t (grants_in new) (before ++ s.left) (x ++ after)) p.1 (s.still after k) in
          still_granted t (grants_in new) (grants_in new') (before ++ s.left) (p.0 ++ after) r freed changed.grants_are here.1;
    }
  where
    gone : (a b : List Request) (x : Request) → remove (a ++ x ∷ b) (length a) ≡ a ++ b
    gone a b x = ap (λ l. l ++ drop (suc (length a)) (a ++ x ∷ b)) (take-append_seam a (x ∷ b)) ∙ ap (λ l. a ++ l) (behind a b x)

    and_no : (a : Bool) → (a && false) ≡ false
    and_no true = refl
    and_no false = refl

    or_no : (a : Bool) → (a || false) ≡ a
    or_no true = refl
    or_no false = refl

-- the line's end
pub serving_ends : (t : LockName → Bool) (old new : Owners) (before line line' given given' : List Request) (i : ℕ)
    → Serving t old new before line line' i given given' → length line' ≤ i → Served old new before line line' given given'
serving_ends t old new before line line' given given' i s end =
    let none : s.rest ≡ [] = empty s.rest (omega (arith, s.place, ap length s.line_is, length-append s.left s.rest)) in
    let all : line' ≡ s.left = s.line_is ∙ ap (λ x. s.left ++ x) none ∙ append-nil s.left in
    let last : Serves (grants_in new) (before ++ s.left) [] [] [] = (refl, refl) in
    let whole = s.order [] [] (subst (λ (x : List Request). Serves (grants_in new) (before ++ s.left) x [] []) (sym none) last) in
    let woken : s.woken ++ [] ≡ s.woken = append-nil s.woken in
    record {
      woken = s.woken;
      noted = s.noted;
      order = subst (λ (x : List Request). Serves (grants_in old) before line s.woken x) (append-nil s.left ∙ sym all)
          (subst (λ (x : List Request). Serves (grants_in old) before line x (s.left ++ [])) woken whole);
      wakes = s.wakes;
      waiters = subst (λ (x : List Request). Waiters new x) (sym s.line_is) s.waiters;
    }
  where
    empty : (xs : List Request) → length xs ≡ 0 → xs ≡ []
    empty [] h = refl
    empty (x ∷ xs) h = absurd (omega (arith, h))

-- what still waits behind the line
pub still_ends : (t : LockName → Bool) (old new : Owners) (before line line' given given' : List Request) (i : ℕ)
    → Serving t old new before line line' i given given' → length line' ≤ i → (after : List Request) → StillBlocked t (grants_in old) before (line ++ after) → StillBlocked t (grants_in new) (before ++ line') after
still_ends t old new before line line' given given' i s end after k =
    let none : s.rest ≡ [] = empty s.rest (omega (arith, s.place, ap length s.line_is, length-append s.left s.rest)) in
    let all : line' ≡ s.left = s.line_is ∙ ap (λ x. s.left ++ x) none ∙ append-nil s.left in
    subst (λ (x : List Request). StillBlocked t (grants_in new) (before ++ x) after) (sym all)
    (subst (λ (x : List Request). StillBlocked t (grants_in new) (before ++ s.left) (x ++ after)) none (s.still after k))
  where
    empty : (xs : List Request) → length xs ≡ 0 → xs ≡ []
    empty [] h = refl
    empty (x ∷ xs) h = absurd (omega (arith, h))

-- the next request of the line, if it is for a name that doesn't pass, has somebody in its way
pub serving_blocked : (t : LockName → Bool) (old new : Owners) (before line line' given given' : List Request) (i : ℕ) (r : Request)
    → Serving t old new before line line' i given given' → i < length line' → r ≡ get_or line' i r → StillBlocked t (grants_in old) before line
    → t r.name ≡ false → IsBlocked (grants_in new) (before ++ take i line') r
serving_blocked t old new before line line' given given' i r s within read still other =
    let p = split_rest s.left s.rest line' i r s.place s.line_is within read in
    let front : take i line' ≡ s.left = ap (λ l. take i l) s.line_is ∙ ap (λ k. take k (s.left ++ s.rest)) s.place ∙ take-append_seam s.left s.rest in
    let whole : StillBlocked t (grants_in old) before (line ++ []) = subst (λ (x : List Request). StillBlocked t (grants_in old) before x) (sym (append-nil line)) still in
    let here = subst (λ (x : List Request). StillBlocked t (grants_in new) (before ++ s.left) (x ++ [])) p.1 (s.still [] whole) in
    subst (λ (x : List Request). IsBlocked (grants_in new) (before ++ x) r) (sym front) (here.0 other)

-- what the search for somebody in the way says once it is known whether it found one
pub blocked_by : (g : Grants) (b : List Request) (r : Request) (o : Option TxnNo) → MatchOption o (IsFree g b r) (λ h. blocks g b r h ≡ true) → is_some o ≡ true → IsBlocked g b r
blocked_by g b r None f s = absurd (both_ways _ refl s)
blocked_by g b r (Some h) f s = λ free. both_ways _ (free h) f

pub free_of : (g : Grants) (b : List Request) (r : Request) (o : Option TxnNo) → MatchOption o (IsFree g b r) (λ h. blocks g b r h ≡ true) → is_some o ≡ false → IsFree g b r
free_of g b r None f s = f
free_of g b r (Some h) f s = absurd (both_ways _ s refl)

-- a stretch of requests for names that don't pass stays
skip_by : (t : LockName → Bool) (old new : Owners) (before line line' given given' : List Request) → StillBlocked t (grants_in old) before line → (d i : ℕ)
    → Serving t old new before line line' i given given' → i + d ≤ length line' → ((k : ℕ) → i ≤ k → k < i + d → (q : Request) → slice_get line' k ≡ Some q → t q.name ≡ false)
    → Serving t old new before line line' (i + d) given given'
skip_by t old new before line line' given given' still zero i s within none =
    let same : i ≡ i + 0 = omega arith in subst (λ (k : ℕ). Serving t old new before line line' k given given') same s
skip_by t old new before line line' given given' still (suc d) i s within none = elim (slice_get_cases line' i).1 [
  | inl a ↦
      let here : i < length line' = a.1 in
      let other : t a.0.name ≡ false = none i (omega arith) (omega arith) a.0 a.2 in
      let blocked = serving_blocked t old new before line line' given given' i a.0 s here (sym a.3) still other in
      let next = serving_stays t old new before line line' given given' i a.0 s here (sym a.3) blocked in
      let more = skip_by t old new before line line' given given' still d (i + 1) next (omega (arith, within)) (λ k low high q there. none k (omega (arith, low)) (omega (arith, high)) q there) in
      let same : (i + 1) + d ≡ i + suc d = omega arith in
      subst (λ (k : ℕ). Serving t old new before line line' k given given') same more
  | inr b ↦ absurd (let end = b.0 in omega (arith, end, within))
]

pub serving_skips : (t : LockName → Bool) (old new : Owners) (before line line' given given' : List Request) (i j : ℕ)
    → StillBlocked t (grants_in old) before line → Serving t old new before line line' i given given' → Skips t line' i j → Serving t old new before line line' j given given'
serving_skips t old new before line line' given given' i j still s skips =
    let from = skips.from in
    let within = skips.within in
    let same : i + (j - i) ≡ j = omega (arith, from) in
    subst (λ (k : ℕ). Serving t old new before line line' k given given') same
    (skip_by t old new before line line' given given' still (j - i) i s (omega (arith, same, within)) (λ k low high q there. skips.none k low (omega (arith, high, same)) q there))

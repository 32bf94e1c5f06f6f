-- Requests that have to wait go on waiting while more is granted.
use Rattle.std.proofs.Common.{◌≡◌, Bool, true, false, refl, sym, ◌∙◌, ap, cond, List, [], ◌∷◌, ◌++◌, subst, inl, inr, append_assoc, append-nil}
use Rattle.std.specs.Prelude.{◌&&◌, ◌||◌, not}
use Rattle.std.specs.List.{list_any}
use Rattle.std.proofs.lemmas.List.Folds.{list_any-append}
use Rattle.std.proofs.lemmas.Bool.{both_ways, and_parts, and_from, or_cases, or_left, or_right}
use Rattle.dby_types.specs.declared.number.TxnNo.{TxnNo}
use Rattle.lock_modes.specs.declared.entry.Request.{Request}
use Rattle.lock_modes.specs.declared.name.LockName.{LockName}
use Rattle.lock_modes.specs.Names.{same_txn, same_name}
use Rattle.lock_modes.specs.Lock.{Grants, granted, without_request}
use Rattle.lock_modes.specs.Modes.{hinders, with_mode}
use Rattle.lock_modes.specs.Waits.{blocks, asks_before, opposes, IsBlocked, AllBlocked}
use Rattle.lock_modes.specs.Serving.{Serves, granted_all}
use Rattle.lock_modes.proofs.ModesLemmas.{hinders_more}
use Rattle.lock_manager.specs.Serve.{is_among}

hinders_granted : (g : Grants) (q r : Request) (h : TxnNo) → hinders (g h r.name) r.mode ≡ true → hinders (granted g q h r.name) r.mode ≡ true
hinders_granted g q r h x =
    let cases = λ (b : Bool) (e : (same_txn q.txn h && same_name q.name r.name) ≡ b).
    (elim b as (λ w. hinders (cond w (with_mode (g h r.name) q.mode) (g h r.name)) r.mode ≡ true) [ true ↦ hinders_more (g h r.name) q.mode r.mode x | false ↦ x ]) in
    cases (same_txn q.txn h && same_name q.name r.name) refl

-- one in the way stays so, with more granted and more requests before
wider : (g : Grants) (q : Request) (b b' : List Request) (r : Request) (h : TxnNo)
    → ((p : Request → Bool) → list_any p b ≡ true → list_any p b' ≡ true)
    → blocks g b r h ≡ true → blocks (granted g q) b' r h ≡ true
wider g q b b' r h more x =
    let p = and_parts (not (same_txn h r.txn)) (hinders (g h r.name) r.mode || asks_before b r h) x in
    and_from _ _ p.0 (elim (or_cases (hinders (g h r.name) r.mode) (asks_before b r h) p.1) [
      | inl y ↦ or_left _ _ (hinders_granted g q r h y)
      | inr z ↦ or_right (hinders (granted g q h r.name) r.mode) _ (more (λ s. same_txn s.txn h && opposes s r) z)
    ])

-- nobody in the way of more was nobody in the way of less
narrow : (x y : Bool) → (x ≡ true → y ≡ true) → y ≡ false → x ≡ false
narrow true y more h = absurd (both_ways y h (more refl))
narrow false y more h = refl

pub blocked_more : (g : Grants) (q : Request) (b : List Request) (r : Request) → IsBlocked g b r → IsBlocked (granted g q) b r
blocked_more g q b r k = λ free. k (λ h. narrow (blocks g b r h) (blocks (granted g q) b r h) (wider g q b b r h (λ p x. x)) (free h))

pub all_blocked_more : (g : Grants) (q : Request) (b rs : List Request) → AllBlocked g b rs → AllBlocked (granted g q) b rs
all_blocked_more g q b [] k = tt
all_blocked_more g q b (r ∷ rs) k = (blocked_more g q b r k.0, all_blocked_more g q (b ++ r ∷ []) rs k.1)

pub all_blocked_all : (g : Grants) (ws b rs : List Request) → AllBlocked g b rs → AllBlocked (granted_all g ws) b rs
all_blocked_all g [] b rs k = k
all_blocked_all g (w ∷ ws) b rs k = all_blocked_all (granted g w) ws b rs (all_blocked_more g w b rs k)

blocked_all : (g : Grants) (ws b : List Request) (r : Request) → IsBlocked g b r → IsBlocked (granted_all g ws) b r
blocked_all g [] b r k = k
blocked_all g (w ∷ ws) b r k = blocked_all (granted g w) ws b r (blocked_more g w b r k)

-- two lists, one behind the other
pub all_blocked_append : (g : Grants) (b xs ys : List Request) → AllBlocked g b xs → AllBlocked g (b ++ xs) ys → AllBlocked g b (xs ++ ys)
all_blocked_append g b [] ys k l = subst (λ (x : List Request). AllBlocked g x ys) (append-nil b) l
all_blocked_append g b (x ∷ xs) ys k l =
    let one : List Request = x ∷ [] in
    (k.0, all_blocked_append g (b ++ one) xs ys k.1 (subst (λ (z : List Request). AllBlocked g z ys) (sym (append_assoc b one xs)) l))

pub all_blocked_front : (g : Grants) (b xs ys : List Request) → AllBlocked g b (xs ++ ys) → AllBlocked g b xs
all_blocked_front g b [] ys k = tt
all_blocked_front g b (x ∷ xs) ys k = (k.0, all_blocked_front g (b ++ x ∷ []) xs ys k.1)

pub all_blocked_back : (g : Grants) (b xs ys : List Request) → AllBlocked g b (xs ++ ys) → AllBlocked g (b ++ xs) ys
all_blocked_back g b [] ys k = subst (λ (x : List Request). AllBlocked g x ys) (sym (append-nil b)) k
all_blocked_back g b (x ∷ xs) ys k =
    let one : List Request = x ∷ [] in
    subst (λ (z : List Request). AllBlocked g z ys) (append_assoc b one xs) (all_blocked_back g (b ++ one) xs ys k.1)

-- what is left after serving is blocked
pub served_blocked : (g : Grants) (b rs w l : List Request) → Serves g b rs w l → AllBlocked (granted_all g w) b l
served_blocked g b [] w l s = subst (λ (x : List Request). AllBlocked (granted_all g w) b x) (sym s.1) tt
served_blocked g b (r ∷ rs) w l s = elim s [
  | inl a ↦ subst (λ (x : List Request). AllBlocked (granted_all g x) b l) (sym a.1) (served_blocked (granted g r) b rs a.0 l a.3)
  | inr k ↦ subst (λ (x : List Request). AllBlocked (granted_all g w) b x) (sym k.1)
      (blocked_all g w b r k.2, served_blocked g (b ++ r ∷ []) rs w k.0 k.3)
]

-- serving two lists, one behind the other
pub serves_append : (g : Grants) (b xs ys w v l m : List Request) → Serves g b xs w l → Serves (granted_all g w) (b ++ l) ys v m → Serves g b (xs ++ ys) (w ++ v) (l ++ m)
serves_append g b [] ys w v l m s t =
    let first : Serves g b ys v m = subst (λ (x : List Request). Serves g x ys v m) (append-nil b)
    (subst (λ (x : List Request). Serves g (b ++ x) ys v m) s.1 (subst (λ (x : List Request). Serves (granted_all g x) (b ++ l) ys v m) s.0 t)) in
    subst (λ (x : List Request). Serves g b ys (x ++ v) (l ++ m)) (sym s.0) (subst (λ (x : List Request). Serves g b ys v (x ++ m)) (sym s.1) first)
serves_append g b (r ∷ xs) ys w v l m s t = elim s [
  | inl a ↦ inl (a.0 ++ v, ap (λ x. x ++ v) a.1, a.2, serves_append (granted g r) b xs ys a.0 v l m a.3 (subst (λ (x : List Request). Serves (granted_all g x) (b ++ l) ys v m) a.1 t))
  | inr k ↦
      let one : List Request = r ∷ [] in
      let lists : b ++ l ≡ (b ++ one) ++ k.0 = ap (λ x. b ++ x) k.1 ∙ sym (append_assoc b one k.0) in
      inr (k.0 ++ m, ap (λ x. x ++ m) k.1, k.2, serves_append g (b ++ one) xs ys w v k.0 m k.3 (subst (λ (x : List Request). Serves (granted_all g w) x ys v m) lists t))
]

-- one request more in the midst
any_mid : (p : Request → Bool) (a b : List Request) (r : Request) → list_any p (a ++ b) ≡ true → list_any p ((a ++ r ∷ []) ++ b) ≡ true
any_mid p [] b r h = or_right (p r) _ h
any_mid p (x ∷ a) b r h = elim (or_cases (p x) (list_any p (a ++ b)) h) [ inl y ↦ or_left _ _ y | inr z ↦ or_right (p x) _ (any_mid p a b r z) ]

any_more : (p : Request → Bool) (a b : List Request) (rs : List Request) → ((q : Request → Bool) → list_any q a ≡ true → list_any q b ≡ true) → list_any p (a ++ rs) ≡ true → list_any p (b ++ rs) ≡ true
any_more p a b rs more h = list_any-append p b rs ∙ (elim (or_cases (list_any p a) (list_any p rs) (sym (list_any-append p a rs) ∙ h)) [ inl y ↦ or_left _ _ (more p y) | inr z ↦ or_right (list_any p b) _ z ])

same_wider : (g : Grants) (b b' : List Request) (r : Request) (h : TxnNo)
    → ((p : Request → Bool) → list_any p b ≡ true → list_any p b' ≡ true) → blocks g b r h ≡ true → blocks g b' r h ≡ true
same_wider g b b' r h more x =
    let p = and_parts (not (same_txn h r.txn)) (hinders (g h r.name) r.mode || asks_before b r h) x in
    and_from _ _ p.0 (elim (or_cases (hinders (g h r.name) r.mode) (asks_before b r h) p.1) [
      | inl y ↦ or_left _ _ y
      | inr z ↦ or_right (hinders (g h r.name) r.mode) _ (more (λ s. same_txn s.txn h && opposes s r) z)
    ])

pub all_blocked_wider : (g : Grants) (b b' rs : List Request) → ((p : Request → Bool) → list_any p b ≡ true → list_any p b' ≡ true) → AllBlocked g b rs → AllBlocked g b' rs
all_blocked_wider g b b' [] more k = tt
all_blocked_wider g b b' (r ∷ rs) more k =
    ((λ free. k.0 (λ h. narrow (blocks g b r h) (blocks g b' r h) (same_wider g b b' r h more) (free h))), all_blocked_wider g (b ++ r ∷ []) (b' ++ r ∷ []) rs (λ p. any_more p b b' (r ∷ []) more) k.1)

-- a request more behind the conversions, or behind all
pub queued_conversion : (g : Grants) (xs ys : List Request) (r : Request) → AllBlocked g [] (xs ++ ys) → IsBlocked g xs r → AllBlocked g [] ((xs ++ r ∷ []) ++ ys)
queued_conversion g xs ys r k here =
    all_blocked_append g [] (xs ++ r ∷ []) ys
    (all_blocked_append g [] xs (r ∷ []) (all_blocked_front g [] xs ys k) (here, tt))
    (all_blocked_wider g xs (xs ++ r ∷ []) ys (λ p h. list_any-append p xs (r ∷ []) ∙ or_left _ _ h) (all_blocked_back g [] xs ys k))

pub queued_request : (g : Grants) (xs ys : List Request) (r : Request) → AllBlocked g [] (xs ++ ys) → IsBlocked g (xs ++ ys) r → AllBlocked g [] (xs ++ (ys ++ r ∷ []))
queued_request g xs ys r k here = subst (λ (x : List Request). AllBlocked g [] x) (append_assoc xs ys (r ∷ [])) (all_blocked_append g [] (xs ++ ys) (r ∷ []) k (here, tt))

-- who isn't among some requests has none of them
pub without_none : (t : TxnNo) (n : LockName) (rs : List Request) → is_among t rs ≡ false → without_request t n rs ≡ rs
without_none t n [] h = refl
without_none t n (r ∷ rs) h =
    let p = or_none (same_txn r.txn t) (is_among t rs) h in
    ap (λ b. cond (not (b && same_name r.name n)) (r ∷ without_request t n rs) (without_request t n rs)) p.0 ∙ ap (λ x. r ∷ x) (without_none t n rs p.1)
  where
    or_none : (a b : Bool) → (a || b) ≡ false → (a ≡ false) × (b ≡ false)
    or_none true b h = absurd (both_ways true h refl)
    or_none false b h = (refl, h)

-- Grants never conflict, and leave only with an event that takes them away.
use Rattle.std.proofs.Common.{◌≡◌, ◌⊎◌, Bool, true, false, refl, sym, ◌∙◌, ap, cond, subst, List, [], ◌∷◌, ◌++◌, inl, inr, Some, None}
use Rattle.std.specs.Prelude.{◌&&◌, ◌||◌, not}
use Rattle.std.specs.List.{list_any, list_all, find}
use Rattle.std.proofs.lemmas.Bool.{both_ways, and_parts, and_from, or_cases}
use Rattle.std.proofs.lemmas.List.Elements.{filter-append}
use Rattle.dby_types.specs.declared.number.TxnNo.{TxnNo}
use Rattle.lock_modes.specs.declared.entry.Request.{Request}
use Rattle.lock_modes.specs.declared.event.LockEvent.{LockEvent}
use Rattle.lock_modes.specs.declared.event.LockEvent.TheVariants.{Granted, Queued, Released, ReleasedAll, Chosen}
use Rattle.lock_modes.specs.declared.mode.Mode.{Mode}
use Rattle.lock_modes.specs.declared.modes.Modes.{Modes}
use Rattle.lock_modes.specs.declared.name.LockName.{LockName}
use Rattle.lock_modes.specs.Modes.{all_modes, same_mode, partners, has_mode, with_mode, no_modes, hinders, is_covered, compatible, covers}
use Rattle.lock_modes.specs.Names.{same_txn, same_name}
use Rattle.lock_modes.specs.Lock.{Lock, Grants, granted, released, released_all, without, apply, request, queue, has_grant}
use Rattle.lock_modes.specs.Waits.{IsFree, asks_before, waiting}
use Rattle.lock_modes.specs.Proper.{IsProper, before_of}
use Rattle.lock_modes.specs.Serving.{Serves, granted_all}
use Rattle.lock_modes.specs.Apart.{IsApart, takes, IsGone}
use Rattle.lock_modes.proofs.ModesLemmas.{has_more}
use Rattle.lock_modes.proofs.NamesLemmas.{txn_eq, txn_refl, txn_equiv, name_eq}
use Rattle.lock_modes.proofs.TablesLemmas.{compatible_sym, mode_eq, has_with, has_none, among_all, none_passes}

-- an element of a list in which all pass
at_mode : (p : Mode → Bool) (m : Mode) (xs : List Mode) → list_all p xs ≡ true → list_any (same_mode m) xs ≡ true → p m ≡ true
at_mode p m [] a h = absurd (both_ways _ refl h)
at_mode p m (x ∷ xs) a h =
    let k = and_parts (p x) (list_all p xs) a in
    elim (or_cases (same_mode m x) (list_any (same_mode m) xs) h) [ inl y ↦ subst (λ (z : Mode). p z ≡ true) (sym (mode_eq m x y)) k.0 | inr z ↦ at_mode p m xs k.1 z ]

-- what is compatible with a mode is compatible with each that it covers
pub covers_means : (a b m : Mode) → covers a b ≡ true → compatible a m ≡ true → compatible b m ≡ true
unfolding covers compatible
covers_means a b m c h = compatible_sym b m ∙ at_mode (λ x. list_any (same_mode b) (partners x)) m (partners a) (and_parts _ _ c).1 h

-- modes of a set that isn't in the way
pub hinders_not : (ms : Modes) (m a : Mode) → hinders ms m ≡ false → has_mode ms a ≡ true → compatible a m ≡ true
unfolding hinders
hinders_not ms m a free has =
    let cases = λ (b : Bool) (e : compatible a m ≡ b).
    (elim b as (λ x. compatible a m ≡ x → x ≡ true) [
      | true ↦ λ _. refl
      | false ↦ λ no_one. absurd (both_ways _ free (among_all (λ x. has_mode ms x && not (compatible x m)) a (and_from _ _ has (ap not no_one))))
    ]) e in
    cases (compatible a m) refl

-- a covered mode is compatible with what those that cover it are compatible with
covered_compatible : (ms : Modes) (m b : Mode) → is_covered ms m ≡ true → ((a : Mode) → has_mode ms a ≡ true → compatible a b ≡ true) → compatible m b ≡ true
unfolding is_covered
covered_compatible ms m b covered all =
    let cases = λ (x : Bool) (e : compatible m b ≡ x).
    (elim x as (λ y. compatible m b ≡ y → y ≡ true) [
      | true ↦ λ _. refl
      | false ↦ λ conflict. absurd (none_passes all_modes (λ a. has_mode ms a && covers a m)
          (λ a h. let k = and_parts (has_mode ms a) (covers a m) h in both_ways _ conflict (covers_means a m b k.1 (all a k.0))) covered)
    ]) e in
    cases (compatible m b) refl

txn_flip : (a b : TxnNo) (x : Bool) → same_txn a b ≡ x → same_txn b a ≡ x
txn_flip a b x h = txn_equiv.symm b a ∙ h

-- every mode of another transaction on the name is compatible with the request's
abbrev IsLet : Grants → Request → Type 0
IsLet g r = (h : TxnNo) (b : Mode) → same_txn h r.txn ≡ false → has_mode (g h r.name) b ≡ true → compatible r.mode b ≡ true

-- what one has after a grant is new, or was there
had : (g : Grants) (r : Request) (t : TxnNo) (n : LockName) (a : Mode) → has_mode (granted g r t n) a ≡ true → ((r.txn ≡ t) × (r.name ≡ n) × (r.mode ≡ a)) ⊎ (has_mode (g t n) a ≡ true)
had g r t n a h =
    let cases = λ (b : Bool) (e : (same_txn r.txn t && same_name r.name n) ≡ b).
    (elim b as (λ x. (same_txn r.txn t && same_name r.name n) ≡ x → has_mode (cond x (with_mode (g t n) r.mode) (g t n)) a ≡ true → ((r.txn ≡ t) × (r.name ≡ n) × (r.mode ≡ a)) ⊎ (has_mode (g t n) a ≡ true)) [
      | true ↦ λ s k. let p = and_parts (same_txn r.txn t) (same_name r.name n) s in
          elim (has_with (g t n) r.mode a k) [ inl same ↦ inl (txn_eq r.txn t p.0, name_eq r.name n p.1, same) | inr old ↦ inr old ]
      | false ↦ λ s k. inr k
    ]) e in
    cases (same_txn r.txn t && same_name r.name n) refl h

apart_let : (g : Grants) (r : Request) → IsApart g → IsLet g r → IsApart (granted g r)
apart_let g r apart free t u n a b other ha hb = elim (had g r t n a ha) [
  | inl x ↦ elim (had g r u n b hb) [
    | inl y ↦ absurd (both_ways _ other (ap (λ z. same_txn z u) (sym x.0) ∙ ap (λ z. same_txn r.txn z) (sym y.0) ∙ txn_refl r.txn))
    | inr k ↦ subst (λ (m : Mode). compatible m b ≡ true) x.2
        (free u b (txn_flip r.txn u false (ap (λ z. same_txn z u) x.0 ∙ other)) (subst (λ (k : LockName). has_mode (g u k) b ≡ true) (sym x.1) k))
  ]
  | inr j ↦ elim (had g r u n b hb) [
    | inl y ↦ compatible_sym a b ∙ subst (λ (m : Mode). compatible m a ≡ true) y.2
        (free t a (ap (λ z. same_txn t z) y.0 ∙ other) (subst (λ (k : LockName). has_mode (g t k) a ≡ true) (sym y.1) j))
    | inr k ↦ apart t u n a b other j k
  ]
]

-- nobody's grant is in the way of what is covered
let_covered : (g : Grants) (r : Request) → IsApart g → is_covered (g r.txn r.name) r.mode ≡ true → IsLet g r
let_covered g r apart covered h b other has = covered_compatible (g r.txn r.name) r.mode b covered (λ a mine. apart r.txn h r.name a b (txn_flip h r.txn false other) mine has)

or_none : (a b : Bool) → (a || b) ≡ false → (a ≡ false) × (b ≡ false)
or_none true b h = absurd (both_ways true h refl)
or_none false b h = (refl, h)

-- nobody's grant is in the way of who is free
let_free : (g : Grants) (before : List Request) (r : Request) → IsFree g before r → IsLet g r
let_free g before r free h b other has =
    let parts : (hinders (g h r.name) r.mode || asks_before before r h) ≡ false =
    sym (ap (λ x. not x && (hinders (g h r.name) r.mode || asks_before before r h)) other) ∙ free h in
    compatible_sym r.mode b ∙ hinders_not (g h r.name) r.mode b (or_none _ _ parts).0 has

pub apart_covered : (g : Grants) (r : Request) → IsApart g → is_covered (g r.txn r.name) r.mode ≡ true → IsApart (granted g r)
apart_covered g r apart covered = apart_let g r apart (let_covered g r apart covered)

pub apart_free : (g : Grants) (before : List Request) (r : Request) → IsApart g → IsFree g before r → IsApart (granted g r)
apart_free g before r apart free = apart_let g r apart (let_free g before r free)

pub apart_may : (g : Grants) (before : List Request) (r : Request) → IsApart g → (is_covered (g r.txn r.name) r.mode ≡ true) ⊎ IsFree g before r → IsApart (granted g r)
apart_may g before r apart may = elim may [ inl c ↦ apart_covered g r apart c | inr f ↦ apart_free g before r apart f ]

-- fewer grants conflict no more
pub apart_less : (g k : Grants) → ((t : TxnNo) (n : LockName) (a : Mode) → has_mode (k t n) a ≡ true → has_mode (g t n) a ≡ true) → IsApart g → IsApart k
apart_less g k less apart t u n a b other ha hb = apart t u n a b other (less t n a ha) (less u n b hb)

pub less_cond : (c : Bool) (ms : Modes) (a : Mode) → has_mode (cond c no_modes ms) a ≡ true → has_mode ms a ≡ true
less_cond true ms a h = absurd (both_ways _ (has_none a) h)
less_cond false ms a h = h

pub apart_released : (g : Grants) (u : TxnNo) (k : LockName) → IsApart g → IsApart (released g u k)
apart_released g u k apart = apart_less g (released g u k) (λ t n a h. less_cond (same_txn u t && same_name k n) (g t n) a h) apart

pub apart_released_all : (g : Grants) (u : TxnNo) → IsApart g → IsApart (released_all g u)
apart_released_all g u apart = apart_less g (released_all g u) (λ t n a h. less_cond (same_txn u t) (g t n) a h) apart

-- what is granted in turn conflicts with nothing
pub apart_served : (g : Grants) (b rs w l : List Request) → Serves g b rs w l → IsApart g → IsApart (granted_all g w)
apart_served g b [] w l s apart = subst (λ (x : List Request). IsApart (granted_all g x)) (sym s.0) apart
apart_served g b (r ∷ rs) w l s apart = elim s [
  | inl a ↦ subst (λ (x : List Request). IsApart (granted_all g x)) (sym a.1) (apart_served (granted g r) b rs a.0 l a.3 (apart_free g b r apart a.2))
  | inr k ↦ apart_served g (b ++ r ∷ []) rs w k.0 k.3 apart
]

queued_grants : (b : Bool) (l : Lock) (r : Request) → (cond b (record l { conversions = l.conversions ++ r ∷ [] }) (record l { requests = l.requests ++ r ∷ [] })).grants ≡ l.grants
queued_grants true l r = refl
queued_grants false l r = refl

-- each proper event leaves the grants without conflict
pub stay_apart : (l : Lock) (ever : TxnNo → Bool) (e : LockEvent) → IsApart l.grants → IsProper l ever e → IsApart (apply l e).grants
stay_apart l ever (Granted t n m) apart proper = apart_may l.grants (before_of l (request t n m) (waiting l t)) (request t n m) apart proper
stay_apart l ever (Queued t n m) apart proper = subst (λ (g : Grants). IsApart g) (sym (queued_grants (has_grant l.grants t n) l (request t n m))) apart
stay_apart l ever (Released t n) apart proper = apart_released l.grants t n apart
stay_apart l ever (ReleasedAll t) apart proper = apart_released_all l.grants t apart
stay_apart l ever (Chosen t) apart proper = apart

keep_cond : (c : Bool) (ms : Modes) (a : Mode) → c ≡ false → has_mode ms a ≡ true → has_mode (cond c no_modes ms) a ≡ true
keep_cond true ms a kept h = absurd (both_ways _ kept refl)
keep_cond false ms a kept h = h

more_cond : (c : Bool) (ms : Modes) (k a : Mode) → has_mode ms a ≡ true → has_mode (cond c (with_mode ms k) ms) a ≡ true
more_cond true ms k a h = has_more ms k a h
more_cond false ms k a h = h

-- a mode stays unless the event takes it away
pub stays : (l : Lock) (e : LockEvent) (t : TxnNo) (n : LockName) (a : Mode) → takes e t n ≡ false → has_mode (l.grants t n) a ≡ true → has_mode ((apply l e).grants t n) a ≡ true
stays l (Granted u k m) t n a kept h = more_cond (same_txn u t && same_name k n) (l.grants t n) m a h
stays l (Queued u k m) t n a kept h = subst (λ (g : Grants). has_mode (g t n) a ≡ true) (sym (queued_grants (has_grant l.grants u k) l (request u k m))) h
stays l (Released u k) t n a kept h = keep_cond (same_txn u t && same_name k n) (l.grants t n) a kept h
stays l (ReleasedAll u) t n a kept h = keep_cond (same_txn u t) (l.grants t n) a kept h
stays l (Chosen u) t n a kept h = h

-- nobody's request is found among those of others
found_none : (t : TxnNo) (rs : List Request) → find (λ r. same_txn r.txn t) (without t rs) ≡ None
found_none t [] = refl
found_none t (r ∷ rs) =
    let rest = found_none t rs in
    let cases = λ (b : Bool) (e : same_txn r.txn t ≡ b).
    (elim b as (λ x. same_txn r.txn t ≡ x → find (λ q. same_txn q.txn t) (cond (not x) (r ∷ without t rs) (without t rs)) ≡ None)
    [ true ↦ λ _. rest | false ↦ λ s. ap (λ y. cond y (Some r) (find (λ q. same_txn q.txn t) (without t rs))) s ∙ rest ]) e in
    cases (same_txn r.txn t) refl

pub gone : (l : Lock) (t : TxnNo) → IsGone (apply l (ReleasedAll t)) t
gone l t = record {
  nothing = λ n. ap (λ b. cond b no_modes (l.grants t n)) (txn_refl t);
  idle = ap (λ (rs : List Request). find (λ r. same_txn r.txn t) rs) (sym (filter-append (λ (r : Request). not (same_txn r.txn t)) l.conversions l.requests)) ∙ found_none t (queue l);
  pardoned = ap (λ b. not b && l.victims t) (txn_refl t);
}

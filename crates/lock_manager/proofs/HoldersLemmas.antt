-- The list of those who have something on a name.
use Rattle.std.proofs.Common.{◌≡◌, Bool, true, false, refl, sym, ◌∙◌, ap, cond, List, [], ◌∷◌, ◌++◌, ◌+◌, ℕ, arith, Some, subst}
use Rattle.std.specs.Prelude.{◌&&◌}
use Rattle.std.specs.List.{IsDistinct, AllByRecursion}
use Rattle.std.specs.Map.{lookup, keys_of}
use Rattle.dby_types.specs.declared.number.TxnNo.{TxnNo}
use Rattle.lock_modes.specs.declared.mode.Mode.{Mode}
use Rattle.lock_modes.specs.declared.mode.Mode.TheVariants.{S2, S3, U2, U3, Ip, X2, X3, TIs, TIx, TS, TX}
use Rattle.lock_modes.specs.declared.modes.Modes.{Modes}
use Rattle.lock_modes.specs.declared.name.LockName.{LockName}
use Rattle.lock_modes.specs.Modes.{all_modes, has_mode, same_mode}
use Rattle.lock_modes.specs.Names.{same_txn}
use Rattle.lock_modes.proofs.NamesLemmas.{txn_eq, txn_equiv}
use Rattle.lock_modes.proofs.TablesLemmas.{has_none}
use Rattle.lock_manager.specs.declared.owner.Owner.{Owner}
use Rattle.lock_manager.specs.Holders.{times_listed, pairs_of, holders_in, IsHolders}
use Rattle.lock_manager.specs.Holdings.{modes_in}
use Rattle.lock_manager.specs.Owners.{Owners, modes_of, grants_in}
use Rattle.lock_manager.specs.Tallies.{one}

-- how often a pair is listed in two lists
times_both : (t : TxnNo) (m : Mode) (xs ys : List (TxnNo × Mode)) → times_listed t m (xs ++ ys) ≡ times_listed t m xs + times_listed t m ys
times_both t m [] ys = (let g : times_listed t m ys ≡ 0 + times_listed t m ys = omega (arith) in g)
times_both t m (x ∷ xs) ys =
    let k = times_both t m xs ys in
    let g : one (same_txn x.0 t && same_mode x.1 m) + times_listed t m (xs ++ ys) ≡ (one (same_txn x.0 t && same_mode x.1 m) + times_listed t m xs) + times_listed t m ys = omega (arith, k) in g

-- in how many of some modes, which a set has, a transaction is listed with a mode
abbrev times_of : TxnNo → Mode → TxnNo → Modes → List Mode → ℕ
times_of t m u ms [] = 0
times_of t m u ms (a ∷ ks) = one (same_mode a m && (same_txn u t && has_mode ms a)) + times_of t m u ms ks

and_flip : (a b : Bool) → (a && b) ≡ (b && a)
and_flip true true = refl
and_flip true false = refl
and_flip false true = refl
and_flip false false = refl

one_pair : (t u : TxnNo) (m a : Mode) (h : Bool) → times_listed t m (cond h ((u, a) ∷ []) []) ≡ one (same_mode a m && (same_txn u t && h))
one_pair t u m a true = cases (same_txn u t) (same_mode a m)
  where
    cases : (p q : Bool) → one (p && q) + 0 ≡ one (q && (p && true))
    cases true true = refl
    cases true false = refl
    cases false true = refl
    cases false false = refl
one_pair t u m a false = cases (same_txn u t) (same_mode a m)
  where
    cases : (p q : Bool) → 0 ≡ one (q && (p && false))
    cases true true = refl
    cases true false = refl
    cases false true = refl
    cases false false = refl

times_pairs : (t u : TxnNo) (m : Mode) (ms : Modes) (ks : List Mode) → times_listed t m (pairs_of u ms ks) ≡ times_of t m u ms ks
times_pairs t u m ms [] = refl
times_pairs t u m ms (a ∷ ks) =
    let k = times_pairs t u m ms ks in
    let b = times_both t m (cond (has_mode ms a) ((u, a) ∷ []) []) (pairs_of u ms ks) in
    let p = one_pair t u m a (has_mode ms a) in
    let g : times_listed t m (cond (has_mode ms a) ((u, a) ∷ []) [] ++ pairs_of u ms ks) ≡ one (same_mode a m && (same_txn u t && has_mode ms a)) + times_of t m u ms ks = omega (arith, k, b, p) in g

-- of all modes, one is the mode
times_all : (t u : TxnNo) (m : Mode) (ms : Modes) → times_of t m u ms all_modes ≡ one (same_txn u t && has_mode ms m)
times_all t u S2 ms = (let g : times_of t S2 u ms all_modes ≡ one (same_txn u t && ms.s2) = omega (arith) in g)
times_all t u S3 ms = (let g : times_of t S3 u ms all_modes ≡ one (same_txn u t && ms.s3) = omega (arith) in g)
times_all t u U2 ms = (let g : times_of t U2 u ms all_modes ≡ one (same_txn u t && ms.u2) = omega (arith) in g)
times_all t u U3 ms = (let g : times_of t U3 u ms all_modes ≡ one (same_txn u t && ms.u3) = omega (arith) in g)
times_all t u Ip ms = (let g : times_of t Ip u ms all_modes ≡ one (same_txn u t && ms.ip) = omega (arith) in g)
times_all t u X2 ms = (let g : times_of t X2 u ms all_modes ≡ one (same_txn u t && ms.x2) = omega (arith) in g)
times_all t u X3 ms = (let g : times_of t X3 u ms all_modes ≡ one (same_txn u t && ms.x3) = omega (arith) in g)
times_all t u TIs ms = (let g : times_of t TIs u ms all_modes ≡ one (same_txn u t && ms.t_is) = omega (arith) in g)
times_all t u TIx ms = (let g : times_of t TIx u ms all_modes ≡ one (same_txn u t && ms.t_ix) = omega (arith) in g)
times_all t u TS ms = (let g : times_of t TS u ms all_modes ≡ one (same_txn u t && ms.t_s) = omega (arith) in g)
times_all t u TX ms = (let g : times_of t TX u ms all_modes ≡ one (same_txn u t && ms.t_x) = omega (arith) in g)

-- how often a pair is listed by one record and by the rest
times_first : (t : TxnNo) (m : Mode) (n : LockName) (e : TxnNo × Owner) (es : Owners) → times_listed t m (holders_in n (e ∷ es)) ≡ one (same_txn e.0 t && has_mode (modes_in e.1.holdings n) m) + times_listed t m (holders_in n es)
times_first t m n e es =
    times_both t m (pairs_of e.0 (modes_in e.1.holdings n) all_modes) (holders_in n es)
    ∙ ap (λ k. k + times_listed t m (holders_in n es)) (times_pairs t e.0 m (modes_in e.1.holdings n) all_modes ∙ times_all t e.0 m (modes_in e.1.holdings n))

-- who has no record isn't listed
not_listed : (t : TxnNo) (m : Mode) (n : LockName) (es : Owners) → AllByRecursion (λ y. same_txn t y ≡ false) (keys_of es) → times_listed t m (holders_in n es) ≡ 0
not_listed t m n [] a = refl
not_listed t m n (e ∷ es) a =
    let k = not_listed t m n es a.1 in
    let f = times_first t m n e es in
    let z : one (same_txn e.0 t && has_mode (modes_in e.1.holdings n) m) ≡ 0 = ap (λ b. one (b && has_mode (modes_in e.1.holdings n) m)) (txn_equiv.symm e.0 t ∙ a.0) in
    f ∙ (let g : one (same_txn e.0 t && has_mode (modes_in e.1.holdings n) m) + times_listed t m (holders_in n es) ≡ 0 = omega (arith, k, z) in g)

-- each transaction is listed once with each mode that its record has on the name
pub all_listed : (n : LockName) (es : Owners) → IsDistinct same_txn (keys_of es) → IsHolders (grants_in es) n (holders_in n es)
unfolding IsDistinct
all_listed n [] a t m = sym (ap (λ b. one b) (has_none m))
all_listed n (e ∷ es) a t m =
    let rest = all_listed n es a.1 t m in
    let first = times_first t m n e es in
    let flip = txn_equiv.symm e.0 t in
    let modes = modes_in e.1.holdings n in
    let cases = λ (b : Bool) (q : same_txn t e.0 ≡ b).
    (elim b as (λ x. same_txn t e.0 ≡ x → (one (same_txn e.0 t && has_mode modes m) + times_listed t m (holders_in n es)) ≡ one (has_mode (modes_of (cond x (Some e.1) (lookup (same_txn t) es)) n) m)) [
      | true ↦ λ s.
          let same = txn_eq t e.0 s in
          let none = not_listed t m n es (subst (λ (u : TxnNo). AllByRecursion (λ y. same_txn u y ≡ false) (keys_of es)) (sym same) a.0) in
          let z : one (same_txn e.0 t && has_mode modes m) ≡ one (has_mode modes m) = ap (λ b. one (b && has_mode modes m)) (flip ∙ s) in
          let g : one (same_txn e.0 t && has_mode modes m) + times_listed t m (holders_in n es) ≡ one (has_mode modes m) = omega (arith, z, none) in g
      | false ↦ λ s.
          let z : one (same_txn e.0 t && has_mode modes m) ≡ 0 = ap (λ b. one (b && has_mode modes m)) (flip ∙ s) in
          let g : one (same_txn e.0 t && has_mode modes m) + times_listed t m (holders_in n es) ≡ one (has_mode (grants_in es t n) m) = omega (arith, z, rest) in g
    ]) q in
    first ∙ cases (same_txn t e.0) refl

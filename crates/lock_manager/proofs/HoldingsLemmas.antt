-- What a change of the map makes of the modes by name.
use Rattle.std.proofs.Common.{◌≡◌, Bool, true, false, refl, sym, ◌∙◌, ap, cond, Option, Some, None, Result, Ok, Err, ◌⊎◌, inl, inr, ◌<◌}
use Rattle.std.specs.Option.{unwrap_or}
use Rattle.std.specs.Result.{OnOk, IsOk}
use Rattle.std.proofs.lemmas.Bool.{both_ways}
use Rattle.std.specs.HashMap.{HashMap, get, get_by, spare, Updates}
use Rattle.lock_modes.specs.declared.mode.Mode.{Mode}
use Rattle.lock_modes.specs.declared.modes.Modes.{Modes}
use Rattle.lock_modes.specs.declared.name.LockName.{LockName}
use Rattle.lock_modes.specs.contracts.name.LockNamePartialEq.TheImpl.{eq-value}
use Rattle.lock_modes.specs.Modes.{no_modes, with_mode, is_held}
use Rattle.lock_modes.specs.Names.{same_name}
use Rattle.lock_modes.proofs.NamesLemmas.{name_eq}
use Rattle.lock_modes.proofs.ModesLemmas.{held_none}
use Rattle.lock_modes.proofs.TablesLemmas.{not_held}
use Rattle.lock_manager.proofs.NameLemmas.{map_eq, get_path, get_same}

unwrap_cond : {X : Type 0} (b : Bool) (x y : Option X) (d : X) → unwrap_or (cond b x y) d ≡ cond b (unwrap_or x d) (unwrap_or y d)
unwrap_cond true x y d = refl
unwrap_cond false x y d = refl

-- a name's value is put, or taken away
pub put_modes : {S : Type 0} (m n : HashMap LockName Modes S) (name : LockName) (v : Option Modes)
    → ((q : LockName) → get eq-value.it n q ≡ cond (eq-value.it name q) v (get eq-value.it m q))
    → (k : LockName) → unwrap_or (get same_name n k) no_modes ≡ cond (same_name name k) (unwrap_or v no_modes) (unwrap_or (get same_name m k) no_modes)
put_modes m n name v put k =
    ap (λ o. unwrap_or o no_modes) (sym (get_path n k) ∙ put k ∙ ap (λ b. cond b v (get eq-value.it m k)) (map_eq name k) ∙ ap (λ o. cond (same_name name k) v o) (get_path m k))
    ∙ unwrap_cond (same_name name k) v (get same_name m k) no_modes

-- the modes that were read under the name are those under each name that is the same
pub read_modes : {S : Type 0} (m : HashMap LockName Modes S) (name k : LockName) (mode : Mode) (x : Modes)
    → cond (same_name name k) (with_mode (unwrap_or (get same_name m name) no_modes) mode) x ≡ cond (same_name name k) (with_mode (unwrap_or (get same_name m k) no_modes) mode) x
read_modes m name k mode x =
    let cases = λ (b : Bool) (e : same_name name k ≡ b).
    (elim b as (λ w. same_name name k ≡ w → cond w (with_mode (unwrap_or (get same_name m name) no_modes) mode) x ≡ cond w (with_mode (unwrap_or (get same_name m k) no_modes) mode) x)
    [ true ↦ λ t. ap (λ q. with_mode (unwrap_or (get same_name m q) no_modes) mode) (name_eq name k t) | false ↦ λ _. refl ]) e in
    cases (same_name name k) refl

on_ok : {T E : Type 0} (r : Result T E) (P : Type 0) → OnOk r P → IsOk r → P
on_ok (Ok x) P p k = p
on_ok (Err e) P p k = absurd (both_ways _ refl k)

-- a name that had nothing gets modes
pub added_modes : {S T E : Type 0} (m n : HashMap LockName Modes S) (r : Result T E) (name : LockName) (v : Modes)
    → None ≡ get_by (eq-value.it name) m
    → OnOk r (Updates eq-value.it m n name (Some v)) → (0 < spare m → IsOk r)
    → (is_held (unwrap_or (get same_name m name) no_modes) ≡ true) ⊎ (0 < spare m)
    → (k : LockName) → unwrap_or (get same_name n k) no_modes ≡ cond (same_name name k) v (unwrap_or (get same_name m k) no_modes)
added_modes m n r name v was updates succeeds room k =
    let nothing : unwrap_or (get same_name m name) no_modes ≡ no_modes = ap (λ o. unwrap_or o no_modes) (sym (was ∙ get_same m name)) in
    let free : 0 < spare m = elim room [ inl held ↦ absurd (both_ways _ (ap is_held nothing ∙ held_none) held) | inr free ↦ free ] in
    let put : Updates eq-value.it m n name (Some v) = on_ok r (Updates eq-value.it m n name (Some v)) updates (succeeds free) in
    put_modes m n name (Some v) put.0 k

-- nothing is taken away where nothing was
pub nothing_taken : {S : Type 0} (m : HashMap LockName Modes S) (name k : LockName) → is_held (unwrap_or (get same_name m name) no_modes) ≡ false → unwrap_or (get same_name m k) no_modes ≡ cond (same_name name k) no_modes (unwrap_or (get same_name m k) no_modes)
nothing_taken m name k none =
    let cases = λ (b : Bool) (e : same_name name k ≡ b).
    (elim b as (λ w. same_name name k ≡ w → unwrap_or (get same_name m k) no_modes ≡ cond w no_modes (unwrap_or (get same_name m k) no_modes))
    [ true ↦ λ t. ap (λ q. unwrap_or (get same_name m q) no_modes) (sym (name_eq name k t)) ∙ not_held (unwrap_or (get same_name m name) no_modes) none | false ↦ λ _. refl ]) e in
    cases (same_name name k) refl

-- a name without an entry isn't held
pub none_held : {S : Type 0} (m : HashMap LockName Modes S) (name : LockName) → None ≡ get_by (eq-value.it name) m → is_held (unwrap_or (get same_name m name) no_modes) ≡ false
none_held m name was = ap (λ o. is_held (unwrap_or o no_modes)) (sym (was ∙ get_same m name)) ∙ held_none

-- The table of a name, as the hashed look-up finds it.
use Rattle.std.proofs.Common.{◌≡◌, ℕ, List, [], ◌∷◌, Bool, true, false, refl, sym, ◌∙◌, ap, Option, Some, None, zero, suc, inl, inr}
use Rattle.std.specs.Prelude.{IfSome, IfNone, slice_get, Result, Ok, Err, OnOk}
use Rattle.std.specs.Result.{IsOk}
use Rattle.std.specs.Borrow.{Bor}
use Rattle.std.specs.Option.{option_copied}
use Rattle.std.specs.Map.{lookup}
use Rattle.std.specs.Str.{bytes_eq}
use Rattle.std.proofs.lemmas.Map.{NonePasses, none_passes_from_lookup, lookup-none}
use Rattle.std.proofs.lemmas.Map.Entries.{place_from_lookup}
use Rattle.std.proofs.lemmas.Slice.Eq.{bytes_eq-Decides}
use Rattle.std.proofs.lemmas.Bool.{both_ways}
use Rattle.session_engine.specs.declared.dictionary.Defined.{Defined}
use Rattle.session_engine.specs.Dictionary.{Named, Among, IsThere, IsAbsent}

among_get : (es : List Named) (k : ℕ) (e : Named) → slice_get es k ≡ Some e → Among e es
among_get [] k e h = cc
among_get (x ∷ es) zero e h = let same : e ≡ x = cc in inl same
among_get (x ∷ es) (suc k) e h = inr (among_get es k e h)

false_unless : (b : Bool) → (b ≡ true → ⊥) → b ≡ false
false_unless true h = absurd (h refl)
false_unless false h = refl

pub ok-on : {T E P : Type 0} (r : Result T E) → IsOk r → OnOk r P → P
ok-on (Ok x) ok p = p
ok-on (Err e) ok p = cc

there : (es : List Named) (name : List ℕ) (def : Defined) → lookup (bytes_eq name) es ≡ Some def → IsThere es name def
there es name def h =
    let p = place_from_lookup (bytes_eq name) es def h in
    among_get es p.0 (name, def) (p.2 ∙ ap (λ (k : List ℕ). Some (k, def)) (sym ((bytes_eq-Decides name p.1).0 p.3)))

absent : (es : List Named) (name : List ℕ) → NonePasses (bytes_eq name) es → IsAbsent es name
absent [] name h = tt
absent (e ∷ es) name h = (λ same. both_ways _ h.0 ((bytes_eq-Decides name e.0).1 (sym same)), absent es name h.1)

pub found-there : (r : Option (Bor Defined)) (es : List Named) (name : List ℕ) → option_copied r ≡ lookup (bytes_eq name) es → IfSome r (λ d. IsThere es name d.now)
found-there None es name h = tt
found-there (Some d) es name h = there es name d.now (sym h)

pub found-absent : (r : Option (Bor Defined)) (es : List Named) (name : List ℕ) → option_copied r ≡ lookup (bytes_eq name) es → IfNone r (IsAbsent es name)
found-absent None es name h = absent es name (none_passes_from_lookup (bytes_eq name) es (sym h))
found-absent (Some d) es name h = tt

pub absent-lookup : (es : List Named) (name : List ℕ) → IsAbsent es name → lookup (bytes_eq name) es ≡ None
absent-lookup es name h = lookup-none (bytes_eq name) es (passes es name h)
  where
    passes : (es : List Named) (name : List ℕ) → IsAbsent es name → NonePasses (bytes_eq name) es
    passes [] name h = tt
    passes (e ∷ es) name h = (false_unless (bytes_eq name e.0) (λ t. h.0 (sym ((bytes_eq-Decides name e.0).0 t))), passes es name h.1)

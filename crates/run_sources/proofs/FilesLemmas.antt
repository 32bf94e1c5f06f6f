-- Files that were read so far, and one more.
use Rattle.std.proofs.Common.{◌≡◌, ◌+◌, ◌<◌, ℕ, List, [], ◌∷◌, ◌++◌, length, take, get_or, sym, ap, subst, ◌∙◌, inl, inr, Option, Some, None, Ok, Err, append_assoc, map, arith}
use Rattle.std.specs.Prelude.{IfSome}
use Rattle.std.proofs.lemmas.List.{take_more, get_or-map, length-map}
use Rattle.device.specs.Counts.{Rises}
use Rattle.device.specs.Streams.{SourceSeen, HostSeen}
use Rattle.run_sources.specs.declared.files.ReadError.{ReadError}
use Rattle.run_sources.specs.declared.files.ReadError.TheVariants.{Failed, TooLong, NotText, Memory}
use Rattle.run_sources.specs.Files.{IsFile, IsNoText, NoneFailed, LastFailed, HasCause, Opens, AreFiles, StopsAt, ReadsNext}

none_more : (xs ys : List SourceSeen) → NoneFailed xs → NoneFailed ys → NoneFailed (xs ++ ys)
none_more [] ys h k = k
none_more (x ∷ xs) ys h k = (h.0, none_more xs ys h.1 k)

last_behind : (x : SourceSeen) (ys : List SourceSeen) → x.faults ≡ 0 → LastFailed ys → LastFailed (x ∷ ys)
last_behind x [] e h = absurd h
last_behind x (y ∷ ys) e h = (e, h)

last_more : (xs ys : List SourceSeen) → NoneFailed xs → LastFailed ys → LastFailed (xs ++ ys)
last_more [] ys h k = k
last_more (x ∷ xs) ys h k = last_behind x (xs ++ ys) h.0 (last_more xs ys h.1 k)

-- a reading in which nothing failed, and another one
cause_more : (why : Option ReadError) (a b c : ℕ) (xs ys : List SourceSeen) → HasCause None a b xs → HasCause why b c ys → HasCause why a c (xs ++ ys)
cause_more None a b c xs ys h k = (k.0 ∙ h.0, none_more xs ys h.1 k.1)
cause_more (Some TooLong) a b c xs ys h k = (k.0 ∙ h.0, none_more xs ys h.1 k.1)
cause_more (Some NotText) a b c xs ys h k = (k.0 ∙ h.0, none_more xs ys h.1 k.1)
cause_more (Some Memory) a b c xs ys h k = (k.0 ∙ h.0, none_more xs ys h.1 k.1)
cause_more (Some Failed) a b c xs ys h k = elim k [
  | inl r ↦ inl (subst (λ (n : ℕ). Rises n c) h.0 r.0, none_more xs ys h.1 r.1)
  | inr r ↦ inr (r.0 ∙ h.0, last_more xs ys h.1 r.1)
]

pub opens_more : (why : Option ReadError) (a b c : HostSeen) (x y z : List SourceSeen) → Opens None a b x y → Opens why b c y z → Opens why a c x z
opens_more why a b c x y z h k = record {
  same = k.same ∙ h.same;
  opened = h.opened ++ k.opened;
  behind = k.behind ∙ ap (λ ss. ss ++ k.opened) h.behind ∙ append_assoc x h.opened k.opened;
  cause = cause_more why a.faults b.faults c.faults h.opened k.opened h.cause k.cause;
}

-- one text more
files_behind : (told : List ℕ → Option (List ℕ)) (names texts : List (List ℕ)) (name text : List ℕ) → AreFiles told names texts → IsFile (told name) text → AreFiles told (names ++ name ∷ []) (texts ++ text ∷ [])
files_behind told [] [] name text h f = (f, tt)
files_behind told [] (t ∷ ts) name text h f = absurd h
files_behind told (n ∷ ns) [] name text h f = absurd h
files_behind told (n ∷ ns) (t ∷ ts) name text h f = (h.0, files_behind told ns ts name text h.1 f)

pub files_more : (told now : List ℕ → Option (List ℕ)) (names old new : List (List ℕ)) (i : ℕ) (u : Unit {0}) → i < length names → now ≡ told
    → AreFiles told (take i names) old → ReadsNext (now (get_or names i [])) old new (Ok u) → AreFiles told (take (i + 1) names) new
files_more told now names old new i u lt same h r =
    let name = get_or names i [] in
    let file : IsFile (told name) r.0 = subst (λ (f : List ℕ → Option (List ℕ)). IsFile (f name) r.0) same r.2 in
    subst (AreFiles told (take (i + 1) names)) (sym r.1)
    (subst (λ (ns : List (List ℕ)). AreFiles told ns (old ++ r.0 ∷ [])) (sym (take_more names i [] lt)) (files_behind told (take i names) old name r.0 h file))

-- or the first that isn't read
pub files_stop : (told now : List ℕ → Option (List ℕ)) (names old new : List (List ℕ)) (i : ℕ) (why : ReadError) → i < length names → now ≡ told
    → AreFiles told (take i names) old → ReadsNext (now (get_or names i [])) old new (Err why) → StopsAt told names i why
files_stop told now names old new i why lt same h r = record {
  within = lt;
  texts = old;
  before = h;
  there = subst (λ (f : List ℕ → Option (List ℕ)). IfSome (f (get_or names i [])) (IsNoText why)) same r.1;
}

-- a name, as it stands in the list
pub name_at : {X : Type 0} (f : X → List ℕ) (xs : List X) (i : ℕ) (x : X) (name : List ℕ) → i < length xs → name ≡ f x → x ≡ get_or xs i x → name ≡ get_or (map f xs) i []
name_at f xs i x name lt e at = e ∙ ap f at ∙ sym (get_or-map f xs i x [] lt)

pub more_names : {X : Type 0} (f : X → List ℕ) (xs : List X) (i : ℕ) → i < length xs → i < length (map f xs)
more_names f xs i lt = omega (arith, length-map xs f)

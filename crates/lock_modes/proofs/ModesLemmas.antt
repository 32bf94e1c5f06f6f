-- Sets of modes with one mode more.
use Rattle.std.proofs.Common.{◌≡◌, Bool, true, false, refl, List, [], ◌∷◌, lit<, inl, inr}
use Rattle.std.specs.Prelude.{◌&&◌, not}
use Rattle.std.specs.List.{list_any}
use Rattle.std.proofs.lemmas.List.Folds.{list_any_at}
use Rattle.std.proofs.lemmas.Bool.{or_cases, or_left, or_right, and_parts, and_from, both_ways}
use Rattle.lock_modes.specs.declared.mode.Mode.{Mode}
use Rattle.lock_modes.specs.declared.mode.Mode.TheVariants.{S2, S3, U2, U3, Ip, X2, X3, TIs, TIx, TS, TX}
use Rattle.lock_modes.specs.declared.modes.Modes.{Modes}
use Rattle.lock_modes.specs.Modes.{all_modes, has_mode, with_mode, no_modes, is_held, hinders, is_covered, compatible}

-- a mode stays when another is added
pub has_more : (ms : Modes) (k a : Mode) → has_mode ms a ≡ true → has_mode (with_mode ms k) a ≡ true
has_more ms S2 S2 h = refl
has_more ms S2 S3 h = h
has_more ms S2 U2 h = h
has_more ms S2 U3 h = h
has_more ms S2 Ip h = h
has_more ms S2 X2 h = h
has_more ms S2 X3 h = h
has_more ms S2 TIs h = h
has_more ms S2 TIx h = h
has_more ms S2 TS h = h
has_more ms S2 TX h = h
has_more ms S3 S2 h = h
has_more ms S3 S3 h = refl
has_more ms S3 U2 h = h
has_more ms S3 U3 h = h
has_more ms S3 Ip h = h
has_more ms S3 X2 h = h
has_more ms S3 X3 h = h
has_more ms S3 TIs h = h
has_more ms S3 TIx h = h
has_more ms S3 TS h = h
has_more ms S3 TX h = h
has_more ms U2 S2 h = h
has_more ms U2 S3 h = h
has_more ms U2 U2 h = refl
has_more ms U2 U3 h = h
has_more ms U2 Ip h = h
has_more ms U2 X2 h = h
has_more ms U2 X3 h = h
has_more ms U2 TIs h = h
has_more ms U2 TIx h = h
has_more ms U2 TS h = h
has_more ms U2 TX h = h
has_more ms U3 S2 h = h
has_more ms U3 S3 h = h
has_more ms U3 U2 h = h
has_more ms U3 U3 h = refl
has_more ms U3 Ip h = h
has_more ms U3 X2 h = h
has_more ms U3 X3 h = h
has_more ms U3 TIs h = h
has_more ms U3 TIx h = h
has_more ms U3 TS h = h
has_more ms U3 TX h = h
has_more ms Ip S2 h = h
has_more ms Ip S3 h = h
has_more ms Ip U2 h = h
has_more ms Ip U3 h = h
has_more ms Ip Ip h = refl
has_more ms Ip X2 h = h
has_more ms Ip X3 h = h
has_more ms Ip TIs h = h
has_more ms Ip TIx h = h
has_more ms Ip TS h = h
has_more ms Ip TX h = h
has_more ms X2 S2 h = h
has_more ms X2 S3 h = h
has_more ms X2 U2 h = h
has_more ms X2 U3 h = h
has_more ms X2 Ip h = h
has_more ms X2 X2 h = refl
has_more ms X2 X3 h = h
has_more ms X2 TIs h = h
has_more ms X2 TIx h = h
has_more ms X2 TS h = h
has_more ms X2 TX h = h
has_more ms X3 S2 h = h
has_more ms X3 S3 h = h
has_more ms X3 U2 h = h
has_more ms X3 U3 h = h
has_more ms X3 Ip h = h
has_more ms X3 X2 h = h
has_more ms X3 X3 h = refl
has_more ms X3 TIs h = h
has_more ms X3 TIx h = h
has_more ms X3 TS h = h
has_more ms X3 TX h = h
has_more ms TIs S2 h = h
has_more ms TIs S3 h = h
has_more ms TIs U2 h = h
has_more ms TIs U3 h = h
has_more ms TIs Ip h = h
has_more ms TIs X2 h = h
has_more ms TIs X3 h = h
has_more ms TIs TIs h = refl
has_more ms TIs TIx h = h
has_more ms TIs TS h = h
has_more ms TIs TX h = h
has_more ms TIx S2 h = h
has_more ms TIx S3 h = h
has_more ms TIx U2 h = h
has_more ms TIx U3 h = h
has_more ms TIx Ip h = h
has_more ms TIx X2 h = h
has_more ms TIx X3 h = h
has_more ms TIx TIs h = h
has_more ms TIx TIx h = refl
has_more ms TIx TS h = h
has_more ms TIx TX h = h
has_more ms TS S2 h = h
has_more ms TS S3 h = h
has_more ms TS U2 h = h
has_more ms TS U3 h = h
has_more ms TS Ip h = h
has_more ms TS X2 h = h
has_more ms TS X3 h = h
has_more ms TS TIs h = h
has_more ms TS TIx h = h
has_more ms TS TS h = refl
has_more ms TS TX h = h
has_more ms TX S2 h = h
has_more ms TX S3 h = h
has_more ms TX U2 h = h
has_more ms TX U3 h = h
has_more ms TX Ip h = h
has_more ms TX X2 h = h
has_more ms TX X3 h = h
has_more ms TX TIs h = h
has_more ms TX TIx h = h
has_more ms TX TS h = h
has_more ms TX TX h = refl

pub has_itself : (ms : Modes) (k : Mode) → has_mode (with_mode ms k) k ≡ true
has_itself ms S2 = refl
has_itself ms S3 = refl
has_itself ms U2 = refl
has_itself ms U3 = refl
has_itself ms Ip = refl
has_itself ms X2 = refl
has_itself ms X3 = refl
has_itself ms TIs = refl
has_itself ms TIx = refl
has_itself ms TS = refl
has_itself ms TX = refl

-- a set with a mode is held
pub held_with : (ms : Modes) (k : Mode) → is_held (with_mode ms k) ≡ true
unfolding is_held
held_with ms S2 = list_any_at (λ a. has_mode (with_mode ms S2) a) all_modes 0 S2 (lit< tt) refl
held_with ms S3 = list_any_at (λ a. has_mode (with_mode ms S3) a) all_modes 1 S3 (lit< tt) refl
held_with ms U2 = list_any_at (λ a. has_mode (with_mode ms U2) a) all_modes 2 U2 (lit< tt) refl
held_with ms U3 = list_any_at (λ a. has_mode (with_mode ms U3) a) all_modes 3 U3 (lit< tt) refl
held_with ms Ip = list_any_at (λ a. has_mode (with_mode ms Ip) a) all_modes 4 Ip (lit< tt) refl
held_with ms X2 = list_any_at (λ a. has_mode (with_mode ms X2) a) all_modes 5 X2 (lit< tt) refl
held_with ms X3 = list_any_at (λ a. has_mode (with_mode ms X3) a) all_modes 6 X3 (lit< tt) refl
held_with ms TIs = list_any_at (λ a. has_mode (with_mode ms TIs) a) all_modes 7 TIs (lit< tt) refl
held_with ms TIx = list_any_at (λ a. has_mode (with_mode ms TIx) a) all_modes 8 TIx (lit< tt) refl
held_with ms TS = list_any_at (λ a. has_mode (with_mode ms TS) a) all_modes 9 TS (lit< tt) refl
held_with ms TX = list_any_at (λ a. has_mode (with_mode ms TX) a) all_modes 10 TX (lit< tt) refl

pub held_none : is_held no_modes ≡ false
unfolding is_held
held_none = refl

-- nothing hinders nobody
pub hinders_none : (m : Mode) → hinders no_modes m ≡ false
unfolding hinders
hinders_none m = refl

-- nothing covers no mode
pub covered_none : (m : Mode) → is_covered no_modes m ≡ false
unfolding is_covered
covered_none m = refl

-- an element that passes one test passes a wider one
pub any_wider : {X : Type 0} (p q : X → Bool) → ((x : X) → p x ≡ true → q x ≡ true) → (xs : List X) → list_any p xs ≡ true → list_any q xs ≡ true
any_wider p q wider [] h = absurd (both_ways _ refl h)
any_wider p q wider (x ∷ xs) h = elim (or_cases (p x) (list_any p xs) h) [ inl a ↦ or_left _ _ (wider x a) | inr b ↦ or_right (q x) _ (any_wider p q wider xs b) ]

-- who hinders with fewer modes hinders with more
pub hinders_more : (ms : Modes) (k m : Mode) → hinders ms m ≡ true → hinders (with_mode ms k) m ≡ true
unfolding hinders
hinders_more ms k m h =
    any_wider (λ a. has_mode ms a && not (compatible a m)) (λ a. has_mode (with_mode ms k) a && not (compatible a m))
    (λ a p. let q = and_parts (has_mode ms a) (not (compatible a m)) p in and_from _ _ (has_more ms k a q.0) q.1) all_modes h

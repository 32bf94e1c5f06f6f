-- The tables of lock modes, and sets of modes.
use Rattle.std.specs.Prelude.{ℕ, Bool, true, false, ◌&&◌, ◌||◌, not, nat_eq, List, [], ◌∷◌}
use Rattle.std.specs.List.{list_any, list_all}
use Rattle.std.proofs.Math.Bool.{beq}
use Rattle.lock_modes.specs.declared.mode.Mode.{Mode}
use Rattle.lock_modes.specs.declared.mode.Mode.TheVariants.{S2, S3, U2, U3, Ip, X2, X3, TIs, TIx, TS, TX}
use Rattle.lock_modes.specs.declared.modes.Modes.{Modes}

abbrev pub all_modes : List Mode
all_modes = S2 ∷ S3 ∷ U2 ∷ U3 ∷ Ip ∷ X2 ∷ X3 ∷ TIs ∷ TIx ∷ TS ∷ TX ∷ []

-- a mode's place among all modes
abbrev pub mode_number : Mode → ℕ
mode_number S2 = 0
mode_number S3 = 1
mode_number U2 = 2
mode_number U3 = 3
mode_number Ip = 4
mode_number X2 = 5
mode_number X3 = 6
mode_number TIs = 7
mode_number TIx = 8
mode_number TS = 9
mode_number TX = 10

abbrev pub same_mode : Mode → Mode → Bool
same_mode a b = nat_eq (mode_number a) (mode_number b)

-- whether a mode is one of rows, entries and places before a first entry
abbrev pub is_row_mode : Mode → Bool
is_row_mode TIs = false
is_row_mode TIx = false
is_row_mode TS = false
is_row_mode TX = false
is_row_mode _ = true

-- the modes with which a mode is compatible: both tables, row by row
abbrev pub partners : Mode → List Mode
partners S2 = S2 ∷ S3 ∷ U2 ∷ U3 ∷ Ip ∷ []
partners S3 = S2 ∷ S3 ∷ U2 ∷ U3 ∷ []
partners U2 = S2 ∷ S3 ∷ Ip ∷ []
partners U3 = S2 ∷ S3 ∷ []
partners Ip = S2 ∷ U2 ∷ Ip ∷ X2 ∷ []
partners X2 = Ip ∷ []
partners X3 = []
partners TIs = TIs ∷ TIx ∷ TS ∷ []
partners TIx = TIs ∷ TIx ∷ []
partners TS = TIs ∷ TS ∷ []
partners TX = []

-- whether two transactions may have these modes on one name
unfoldable pub compatible : Mode → Mode → Bool
compatible a b = list_any (same_mode b) (partners a)

-- whether each mode that is compatible with a is compatible with b, and both are of one kind
unfoldable pub covers : Mode → Mode → Bool
covers a b = beq (is_row_mode a) (is_row_mode b) && list_all (λ m. list_any (same_mode b) (partners m)) (partners a)

abbrev pub has_mode : Modes → Mode → Bool
has_mode ms S2 = ms.s2
has_mode ms S3 = ms.s3
has_mode ms U2 = ms.u2
has_mode ms U3 = ms.u3
has_mode ms Ip = ms.ip
has_mode ms X2 = ms.x2
has_mode ms X3 = ms.x3
has_mode ms TIs = ms.t_is
has_mode ms TIx = ms.t_ix
has_mode ms TS = ms.t_s
has_mode ms TX = ms.t_x

-- a set with one mode more
abbrev pub with_mode : Modes → Mode → Modes
with_mode ms S2 = record ms { s2 = true }
with_mode ms S3 = record ms { s3 = true }
with_mode ms U2 = record ms { u2 = true }
with_mode ms U3 = record ms { u3 = true }
with_mode ms Ip = record ms { ip = true }
with_mode ms X2 = record ms { x2 = true }
with_mode ms X3 = record ms { x3 = true }
with_mode ms TIs = record ms { t_is = true }
with_mode ms TIx = record ms { t_ix = true }
with_mode ms TS = record ms { t_s = true }
with_mode ms TX = record ms { t_x = true }

abbrev pub no_modes : Modes
no_modes = record { s2 = false; s3 = false; u2 = false; u3 = false; ip = false; x2 = false; x3 = false; t_is = false; t_ix = false; t_s = false; t_x = false }

-- whether a mode of the set isn't compatible with a mode
unfoldable pub hinders : Modes → Mode → Bool
hinders ms m = list_any (λ a. has_mode ms a && not (compatible a m)) all_modes

-- whether a mode of the set covers a mode
unfoldable pub is_covered : Modes → Mode → Bool
is_covered ms m = list_any (λ a. has_mode ms a && covers a m) all_modes

-- whether the set has a mode of one who changes
abbrev pub writes : Modes → Bool
writes ms = ((ms.u2 || ms.u3) || ms.x2) || ms.x3

-- whether the set has a mode that also holds the gap behind
abbrev pub is_ranged : Modes → Bool
is_ranged ms = (ms.s3 || ms.u3) || ms.x3

-- whether the set has any mode
unfoldable pub is_held : Modes → Bool
is_held ms = list_any (λ a. has_mode ms a) all_modes

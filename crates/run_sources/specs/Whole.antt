-- A file that is read whole.
use Rattle.std.specs.Prelude.{◌≡◌, ◌<◌, ◌≤◌, ℕ, ◌++◌, length, Option, Some, None}
use Rattle.run_sources.specs.declared.whole.FileRead.{FileRead}
use Rattle.run_sources.specs.declared.whole.FileRead.TheVariants.{Whole, TooLong, Failed, Memory}
use Rattle.device.specs.Counts.{Rises}
use Rattle.device.specs.Streams.{Content}

-- a source whose content is told gave all that it had left, or had more left than a file may have
abbrev pub IsReadOf : Content → Content → FileRead → Type 0
IsReadOf old new (Whole bytes) = (new.given ≡ old.given ++ bytes.items) × (old.left ≡ bytes.items)
IsReadOf old new TooLong = 1048576 < length old.left
IsReadOf old new Failed = Unit {0}
IsReadOf old new Memory = Unit {0}

abbrev pub WholeRead : Option Content → Option Content → FileRead → Type 0
WholeRead None None result = Unit {0}
WholeRead (Some old) (Some new) result = IsReadOf old new result
WholeRead None (Some new) result = ⊥
WholeRead (Some old) None result = ⊥

-- it fails only where the source's count rose, and that count rises only then
abbrev pub FailsByCount : ℕ → ℕ → FileRead → Type 0
FailsByCount old new Failed = Rises old new
FailsByCount old new (Whole bytes) = new ≡ old
FailsByCount old new TooLong = new ≡ old
FailsByCount old new Memory = new ≡ old

-- what was read has at most as many bytes as a file may have
abbrev pub IsShort : FileRead → Type 0
IsShort (Whole bytes) = length bytes.items ≤ 1048576
IsShort _ = Unit {0}

-- Files that are read, and sinks that take bytes: what they are seen with, and what a call does to it.
use Rattle.std.specs.Prelude.{◌≡◌, ◌<◌, ◌≤◌, ℕ, List, [], ◌++◌, length, take, drop, Option, Some, None, Result, Ok, Err, IfOk}
use Rattle.device.specs.declared.Failed.{Failed}
use Rattle.device.specs.Counts.{Rises, HasCause}

-- what a source that tells its content gave so far, and what it has left
pub record Content : Type 0 where
  pub given : List ℕ
  pub left : List ℕ

-- a source: its content where it tells it, and its count of faults
pub record SourceSeen : Type 0 where
  pub content : Option Content
  pub faults : ℕ

-- a sink: the bytes that it took where it tells them, its count of faults, and how often it took none of a piece that isn't empty
pub record SinkSeen : Type 0 where
  pub taken : Option (List ℕ)
  pub faults : ℕ
  pub nones : ℕ

-- a host: the bytes of the script under each name where it tells them, and its count of faults
pub record HostSeen : Type 0 where
  pub scripts : List ℕ → Option (List ℕ)
  pub faults : ℕ

-- n bytes move from what is left to what was given, and to the front of the buffer; none exactly at the end
pub record Moves (old new : Content) (n : ℕ) (buffer into : List ℕ) : Type 0 where
  pub given : new.given ≡ old.given ++ take n old.left
  pub left : new.left ≡ drop n old.left
  pub bytes : take n into ≡ take n old.left
  pub within : n ≤ length old.left
  pub end : 0 < length buffer → n ≡ 0 → old.left ≡ []

-- what a read does to a content that is told; one that fails moves nothing
abbrev pub Reads : Option Content → Option Content → Result ℕ Failed → List ℕ → List ℕ → Type 0
Reads None None result buffer into = Unit {0}
Reads (Some old) (Some new) (Ok n) buffer into = Moves old new n buffer into
Reads (Some old) (Some new) (Err e) buffer into = new ≡ old
Reads None (Some new) result buffer into = ⊥
Reads (Some old) None result buffer into = ⊥

-- where bytes are told, new is old with these at its end
abbrev pub Appends : Option (List ℕ) → Option (List ℕ) → List ℕ → Type 0
Appends None None bytes = Unit {0}
Appends (Some old) (Some new) bytes = new ≡ old ++ bytes
Appends None (Some new) bytes = ⊥
Appends (Some old) None bytes = ⊥

-- what a write with this answer takes of the piece
abbrev pub taken_of : Result ℕ Failed → List ℕ → List ℕ
taken_of (Ok n) piece = take n piece
taken_of (Err e) piece = []

-- the count of writes that took none rises exactly where one took none of a piece that isn't empty
abbrev pub CountsNone : ℕ → ℕ → Result ℕ Failed → List ℕ → Type 0
CountsNone before now (Ok n) piece = (n ≡ 0 → 0 < length piece → Rises before now) × ((n ≡ 0 → length piece ≡ 0) → now ≡ before)
CountsNone before now (Err e) piece = now ≡ before

-- what a write does
pub record Writes (old new : SinkSeen) (piece : List ℕ) (result : Result ℕ Failed) : Type 0 where
  pub within : IfOk result (λ n. n ≤ length piece)
  pub takes : Appends old.taken new.taken (taken_of result piece)
  pub cause : HasCause old.faults new.faults result
  pub none : CountsNone old.nones new.nones result piece

-- a script as it is opened: nothing given yet
abbrev pub unread : Option (List ℕ) → Option Content
unread None = None
unread (Some bytes) = Some (record { given = []; left = bytes })

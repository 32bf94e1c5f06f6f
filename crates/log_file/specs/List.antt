-- The log as a list of records.
use Rattle.std.specs.Prelude.{◌≡◌, ◌≤◌, ◌<◌, ℕ, ◌+◌, ◌-◌, ◌^◌, min, ◌==◌, if◌then◌else◌, nat_lt, List, [], ◌∷◌, length, take, drop, Option, Some, None}
use Rattle.dby_types.specs.declared.number.Lsn.{Lsn}
use Rattle.device.specs.Disk.{Segments}
use Rattle.log_records.specs.Content.{LogBody, LogRecord}
use Rattle.log_records.specs.Content.LogBody.{change, compensation, split, grow, commit, rolled_back, checkpoint, next_segment, purge}
use Rattle.log_records.specs.Format.{size_of}
use Rattle.log_records.specs.Rules.{Begins}
use Rattle.log_file.specs.declared.file.LogFile.{LogFile}
use Rattle.log_file.specs.Tail.{pending, end_of, IsOn}

-- the bytes from each place on
abbrev pub Bytes : Type 0
Bytes = Lsn → List ℕ

-- on a disk
abbrev pub on_disk : Segments → Bytes
on_disk log at = drop at.offset (log at.segment)

-- in the buffer, behind the forced end
abbrev pub in_buffer : LogFile → Bytes
in_buffer l at = drop (at.offset - l.forced) (pending l)

-- in the log: the current segment's forced bytes, what is kept behind them, and the other segments
abbrev pub in_log : LogFile → Segments → Bytes
in_log l log at =
    if at.segment == l.segment
    then (if nat_lt at.offset l.forced then drop at.offset (take l.forced (log l.segment)) else in_buffer l at)
    else on_disk log at

-- a record stands at a place
abbrev pub StandsAt : Bytes → Lsn → LogRecord → Type 0
StandsAt b at r = (rest : List ℕ) × Begins at (b at) r rest

-- the segment that a record names as the next one
abbrev pub follower : LogBody → Option ℕ
follower (change b) = None
follower (compensation next b) = None
follower (split c n ps) = None
follower (grow c p k) = None
follower commit = None
follower rolled_back = None
follower (checkpoint m) = None
follower (next_segment s) = Some s
follower (purge c p i) = None

-- the place behind so many bytes, or the start of the segment that follows; an offset ends at the greatest number
abbrev pub place_behind : Lsn → Option ℕ → ℕ → Lsn
place_behind at None n = record { segment = at.segment; offset = min (at.offset + n) (2 ^ 32 - 1) }
place_behind at (Some s) n = record { segment = s; offset = 0 }

-- the place behind a record
abbrev pub behind : Lsn → LogRecord → Lsn
behind at r = place_behind at (follower r.body) (size_of r)

-- these records stand one behind the other, from one place up to another
abbrev pub Runs : Bytes → Lsn → List LogRecord → Lsn → Type 0
Runs b at [] to = at ≡ to
Runs b at (r ∷ rs) to = StandsAt b at r × Runs b (behind at r) rs to

-- these records are read from a place on: one behind the other, up to the first place where none stands
abbrev pub Reads : Bytes → Lsn → List LogRecord → Type 0
Reads b at [] = (r : LogRecord) → StandsAt b at r → ⊥
Reads b at (r ∷ rs) = StandsAt b at r × Reads b (behind at r) rs

-- the place behind the last record that is forced
abbrev pub forced_of : LogFile → Lsn
forced_of l = record { segment = l.segment; offset = l.forced }

-- the log's records from a place on, of which the first n are forced; no later segment has a byte
pub record IsLog (l : LogFile) (log : Segments) (from : Lsn) (rs : List LogRecord) (n : ℕ) : Type 0 where
  pub within : n ≤ length rs
  pub is_on : IsOn l log
  pub forced_is : Runs (on_disk log) from (take n rs) (forced_of l)
  pub kept_is : Runs (in_buffer l) (forced_of l) (drop n rs) (end_of l)
  pub fresh : (s : ℕ) → l.segment < s → log s ≡ []

-- What printing does to a sink, with the bytes that wait to be sent.
use Rattle.std.specs.Prelude.{◌≡◌, ◌⊎◌, ℕ, List, [], ◌++◌, take, Option, Some, None, Bool, true, false}
use Rattle.device.specs.Counts.{Rises}
use Rattle.device.specs.Streams.{SinkSeen, Appends}

-- the bytes that wait to be sent, and whether the sink failed, or took none of a piece
pub record Waits : Type 0 where
  pub pending : List ℕ
  pub failed : Bool

-- where bytes are told, new is old with a front of these at its end
abbrev pub AppendsFront : Option (List ℕ) → Option (List ℕ) → List ℕ → Type 0
AppendsFront None None bytes = Unit {0}
AppendsFront (Some old) (Some new) bytes = (n : ℕ) × (new ≡ old ++ take n bytes)
AppendsFront None (Some new) bytes = ⊥
AppendsFront (Some old) None bytes = ⊥

-- the sink took these bytes, and no count of it rose
pub record TookAll (old new : SinkSeen) (bytes : List ℕ) : Type 0 where
  pub taken : Appends old.taken new.taken bytes
  pub faults : new.faults ≡ old.faults
  pub nones : new.nones ≡ old.nones

-- the sink took a front of these bytes, and a count of it rose
pub record TookFront (old new : SinkSeen) (bytes : List ℕ) : Type 0 where
  pub taken : AppendsFront old.taken new.taken bytes
  pub rose : Rises old.faults new.faults ⊎ Rises old.nones new.nones

-- all of the text went to the sink but for what waits
pub record SentBut (start now : SinkSeen) (pending text : List ℕ) : Type 0 where
  pub sent : List ℕ
  pub whole : text ≡ sent ++ pending
  pub took : TookAll start now sent

abbrev pub PrintedIf : Bool → SinkSeen → SinkSeen → List ℕ → List ℕ → Type 0
PrintedIf false start now pending text = SentBut start now pending text
PrintedIf true start now pending text = TookFront start now text

-- since a sink was seen like `start` this text was printed
abbrev pub Printed : SinkSeen → SinkSeen → Waits → List ℕ → Type 0
Printed start now out text = PrintedIf out.failed start now out.pending text

-- what waits is sent: then nothing waits
pub record Sends (failed : Bool) (old : SinkSeen) (fails : Bool) (new : SinkSeen) (pending : List ℕ) : Type 0 where
  pub emptied : (start : SinkSeen) (text : List ℕ) → PrintedIf failed start old pending text → PrintedIf fails start new [] text

-- a call prints a piece: behind whatever was printed before
pub record Prints (old : SinkSeen) (waited : Waits) (new : SinkSeen) (waits : Waits) (piece : List ℕ) : Type 0 where
  pub behind : (start : SinkSeen) (text : List ℕ) → Printed start old waited text → Printed start new waits (text ++ piece)

-- what a whole printing leaves: all of the text, or a front of it where the sink failed or took none of a piece
abbrev pub Leaves : Bool → SinkSeen → SinkSeen → List ℕ → Type 0
Leaves true old new text = TookAll old new text
Leaves false old new text = TookFront old new text

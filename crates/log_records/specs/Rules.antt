-- What the values of a record must be.
use Rattle.std.specs.Prelude.{◌≡◌, ◌⊎◌, ◌≤◌, ◌<◌, ℕ, ◌+◌, ◌*◌, ◌^◌, List, ◌++◌, length}
use Rattle.dby_bytes.specs.Numbers.{number_at}
use Rattle.dby_types.specs.declared.number.Lsn.{Lsn}
use Rattle.log_records.specs.Content.{HeapChange, EntryChange, LogBase, Mark, LogBody, LogRecord}
use Rattle.log_records.specs.Content.LogBase.{heap, entry, create, discard}
use Rattle.log_records.specs.Content.LogBody.{change, compensation, split, grow, commit, rolled_back, checkpoint, next_segment, purge}
use Rattle.log_records.specs.Fields.{Fit}
use Rattle.log_records.specs.Format.{base_fields, body_fields, summed_fields, stored_record}

-- a place stands before another one
abbrev pub IsBefore : Lsn → Lsn → Type 0
IsBefore a b = (a.segment < b.segment) ⊎ ((a.segment ≡ b.segment) × (a.offset < b.offset))

-- no place, or one before another one
abbrev pub IsBack : Lsn → Lsn → Type 0
IsBack a at = ((a.segment ≡ 0) × (a.offset ≡ 0)) ⊎ IsBefore a at

-- containers have numbers below 2^31, transactions below 2^62
abbrev pub IsContainer : ℕ → Type 0
IsContainer c = c < 2 ^ 31

abbrev pub IsTxn : ℕ → Type 0
IsTxn t = t < 2 ^ 62

-- flags are marked and free alone; both texts have one length, a number of two bytes
pub record IsHeapChange (h : HeapChange) : Type 0 where
  pub container_is : IsContainer h.container
  pub flags : (h.flags_before < 4) × (h.flags_after < 4)
  pub lengths : length h.after ≡ length h.before
  pub counted : length h.before < 2 ^ 16

-- the change is one of the four; both texts have one length, a number of two bytes
pub record IsEntryChange (e : EntryChange) : Type 0 where
  pub container_is : IsContainer e.container
  pub what_is : (1 ≤ e.what) × (e.what ≤ 4)
  pub lengths : length e.after ≡ length e.before
  pub counted : length e.before < 2 ^ 16

-- what can be taken back keeps the rules of its kind
abbrev pub IsBase : LogBase → Type 0
IsBase (heap h) = IsHeapChange h
IsBase (entry e) = IsEntryChange e
IsBase (create c t) = IsContainer c
IsBase (discard c) = IsContainer c

-- each page of a split: its number, and its bytes with 0 for sum and LSN
abbrev pub IsPageImage : List ℕ → ℕ → Type 0
IsPageImage pages i = (number_at 8 pages (4100 * i + 4) ≡ 0) × (number_at 8 pages (4100 * i + 24) ≡ 0)

-- the pages of a split: count times number and bytes
pub record IsSplit (container count : ℕ) (pages : List ℕ) : Type 0 where
  pub container_is : IsContainer container
  pub lengths : length pages ≡ 4100 * count
  pub each : (i : ℕ) → i < count → IsPageImage pages i

-- each open transaction of a checkpoint: its number, and its last record, which stands before the checkpoint
abbrev pub last_of : List ℕ → ℕ → Lsn
last_of txns i = record { segment = number_at 4 txns (16 * i + 8); offset = number_at 4 txns (16 * i + 12) }

abbrev pub IsOpen : Lsn → List ℕ → ℕ → Type 0
IsOpen at txns i = IsTxn (number_at 8 txns (16 * i)) × IsBack (last_of txns i) at

-- a checkpoint's next container is from 16 to 2^31, its next transaction from 1 to 2^62
pub record IsMark (at : Lsn) (m : Mark) : Type 0 where
  pub next_container_is : (16 ≤ m.next_container) × (m.next_container ≤ 2 ^ 31)
  pub next_txn_is : (1 ≤ m.next_txn) × (m.next_txn ≤ 2 ^ 62)
  pub lengths : length m.txns ≡ 16 * m.count
  pub each : (i : ℕ) → i < m.count → IsOpen at m.txns i

-- what a record says keeps the rules of its kind, at its place
abbrev pub IsBody : Lsn → LogBody → Type 0
IsBody at (change b) = IsBase b
IsBody at (compensation next b) = IsBack next at × IsBase b
IsBody at (split c n ps) = IsSplit c n ps
IsBody at (grow c p k) = IsContainer c × (k ≤ 4)
IsBody at commit = Unit {0}
IsBody at rolled_back = Unit {0}
IsBody at (checkpoint m) = IsMark at m
IsBody at (next_segment s) = at.segment < s
IsBody at (purge c p i) = IsContainer c

-- the values of a record at its place keep the rules
pub record IsLegal (at : Lsn) (r : LogRecord) : Type 0 where
  pub txn_is : IsTxn r.txn
  pub back_is : IsBack r.back at
  pub body_is : IsBody at r.body

-- the numbers of a body fit their fields
abbrev pub BodyFits : LogBody → Type 0
BodyFits (change b) = Fit (base_fields b)
BodyFits (compensation next b) = Fit (body_fields (compensation next b)) × Fit (base_fields b)
BodyFits (split c n ps) = Fit (body_fields (split c n ps))
BodyFits (grow c p k) = Fit (body_fields (grow c p k))
BodyFits commit = Unit {0}
BodyFits rolled_back = Unit {0}
BodyFits (checkpoint m) = Fit (body_fields (checkpoint m))
BodyFits (next_segment s) = Fit (body_fields (next_segment s))
BodyFits (purge c p i) = Fit (body_fields (purge c p i))

-- a record at its place: its values keep the rules, and its numbers fit their fields
pub record IsRecord (at : Lsn) (r : LogRecord) : Type 0 where
  pub legal : IsLegal at r
  pub fields : Fit (summed_fields at r)
  pub body_fits : BodyFits r.body

-- the bytes begin with a record, and this is what follows it
pub record Begins (at : Lsn) (b : List ℕ) (r : LogRecord) (rest : List ℕ) : Type 0 where
  pub record_is : IsRecord at r
  pub bytes : b ≡ stored_record at r ++ rest

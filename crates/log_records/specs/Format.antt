-- The log's format: the fields of each record, in the order of their bytes.
use Rattle.std.specs.Prelude.{ℕ, ◌+◌, Bool, List, [], ◌∷◌, ◌++◌, length, if◌then◌else◌}
use Rattle.dby_types.specs.declared.number.Lsn.{Lsn}
use Rattle.log_records.specs.Content.{HeapChange, EntryChange, LogBase, Mark, LogBody, LogRecord}
use Rattle.log_records.specs.Content.LogBase.{heap, entry, create, discard}
use Rattle.log_records.specs.Content.LogBody.{change, compensation, split, grow, commit, rolled_back, checkpoint, next_segment, purge}
use Rattle.log_records.specs.Fields.{Field, field_bytes, fields_len}
use Rattle.log_records.specs.Fields.Field.{number, raw}
use Rattle.log_records.specs.Sum.{sum_of}

-- container, page, slot, flags before and after, length, bytes before, bytes after
abbrev pub heap_fields : HeapChange → List Field
heap_fields h =
    number 4 h.container ∷ number 4 h.page ∷ number 2 h.slot ∷ number 1 h.flags_before ∷ number 1 h.flags_after ∷ number 2 (length h.before) ∷ raw h.before ∷ raw h.after ∷ []

-- container, page, place, what, length, entry before, entry after
abbrev pub entry_fields : EntryChange → List Field
entry_fields e = number 4 e.container ∷ number 4 e.page ∷ number 2 e.place ∷ number 1 e.what ∷ number 2 (length e.before) ∷ raw e.before ∷ raw e.after ∷ []

-- container, 1 for a tree and 0 for a heap
abbrev pub create_fields : ℕ → Bool → List Field
create_fields container is_tree = number 4 container ∷ number 1 (if is_tree then 1 else 0) ∷ []

-- the kind of a record of a change
abbrev pub base_kind : LogBase → ℕ
base_kind (heap h) = 1
base_kind (entry e) = 2
base_kind (create c t) = 10
base_kind (discard c) = 11

-- the body of a record of a change
abbrev pub base_fields : LogBase → List Field
base_fields (heap h) = heap_fields h
base_fields (entry e) = entry_fields e
base_fields (create c t) = create_fields c t
base_fields (discard c) = number 4 c ∷ []

-- redo start, next container, next transaction, count, and for each open transaction its number and last record
abbrev pub mark_fields : Mark → List Field
mark_fields m = number 4 m.redo.segment ∷ number 4 m.redo.offset ∷ number 4 m.next_container ∷ number 8 m.next_txn ∷ number 2 m.count ∷ raw m.txns ∷ []

-- the kind of a record
abbrev pub kind_of : LogBody → ℕ
kind_of (change b) = base_kind b
kind_of (compensation next b) = 3
kind_of (split c n ps) = 4
kind_of (grow c p k) = 5
kind_of commit = 6
kind_of rolled_back = 7
kind_of (checkpoint m) = 8
kind_of (next_segment s) = 9
kind_of (purge c p i) = 12

-- the body of a record; a compensation has the place to take back next, and a change's kind and body
abbrev pub body_fields : LogBody → List Field
body_fields (change b) = base_fields b
body_fields (compensation next b) = number 4 next.segment ∷ number 4 next.offset ∷ number 1 (base_kind b) ∷ raw (field_bytes (base_fields b)) ∷ []
body_fields (split c n ps) = number 4 c ∷ number 1 n ∷ raw ps ∷ []
body_fields (grow c p k) = number 4 c ∷ number 4 p ∷ number 1 k ∷ []
body_fields commit = []
body_fields rolled_back = []
body_fields (checkpoint m) = mark_fields m
body_fields (next_segment s) = number 4 s ∷ []
body_fields (purge c p i) = number 4 c ∷ number 4 p ∷ number 2 i ∷ []

-- how many bytes a record takes
abbrev pub size_of : LogRecord → ℕ
size_of r = 40 + fields_len (body_fields r.body)

-- what stands between the sum and the body: length, place, kind, zeros, transaction, place of the record before
abbrev pub front_fields : ℕ → Lsn → ℕ → ℕ → Lsn → List Field
front_fields size at kind txn back =
    number 4 size ∷ number 4 at.segment ∷ number 4 at.offset ∷ number 1 kind ∷ number 1 0 ∷ number 1 0 ∷ number 1 0 ∷ number 8 txn ∷ number 4 back.segment ∷ number 4 back.offset ∷ []

-- what the sum is taken of: this and the body
abbrev pub summed_fields : Lsn → LogRecord → List Field
summed_fields at r = front_fields (size_of r) at (kind_of r.body) r.txn r.back ++ raw (field_bytes (body_fields r.body)) ∷ []

-- a record's bytes at its place
abbrev pub stored_record : Lsn → LogRecord → List ℕ
stored_record at r = field_bytes (number 8 (sum_of (field_bytes (summed_fields at r))) ∷ summed_fields at r)

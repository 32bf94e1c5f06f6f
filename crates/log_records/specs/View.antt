-- A record of the code, as plain data.
use Rattle.std.specs.Prelude.{ℕ, List}
use Rattle.dby_types.specs.declared.number.Lsn.{Lsn}
use Rattle.log_records.specs.declared.record.Record.{Record}
use Rattle.log_records.specs.declared.record.Body.{Body}
use Rattle.log_records.specs.declared.record.Body.TheVariants.{Change, Compensation, Split, Grow, Commit, RolledBack, Checkpoint, NextSegment, Purge}
use Rattle.log_records.specs.declared.record.Base.{Base}
use Rattle.log_records.specs.declared.record.Base.TheVariants.{Heap, Entry, Create, Discard}
use Rattle.log_records.specs.Content.{LogBase, Mark, LogBody, LogRecord}
use Rattle.log_records.specs.Content.LogBase.{heap, entry, create, discard}
use Rattle.log_records.specs.Content.LogBody.{change, compensation, split, grow, commit, rolled_back, checkpoint, next_segment, purge}

abbrev pub base_of : Base → LogBase
base_of (Heap c p s f g x y) = heap (record { container = c; page = p; slot = s; flags_before = f; flags_after = g; before = x.now; after = y.now })
base_of (Entry c p i w x y) = entry (record { container = c; page = p; place = i; what = w; before = x.now; after = y.now })
base_of (Create c t) = create c t
base_of (Discard c) = discard c

abbrev pub mark_of : Lsn → ℕ → ℕ → ℕ → List ℕ → Mark
mark_of redo next_container next_txn count txns = record { redo = redo; next_container = next_container; next_txn = next_txn; count = count; txns = txns }

abbrev pub body_of : Body → LogBody
body_of (Change b) = change (base_of b)
body_of (Compensation next b) = compensation next (base_of b)
body_of (Split c n ps) = split c n ps.now
body_of (Grow c p k) = grow c p k
body_of Commit = commit
body_of RolledBack = rolled_back
body_of (Checkpoint r c t n ts) = checkpoint (mark_of r c t n ts.now)
body_of (NextSegment s) = next_segment s
body_of (Purge c p i) = purge c p i

-- the record as plain data
abbrev pub record_of : Record → LogRecord
record_of r = record { txn = r.txn; back = r.back; body = body_of r.body }

-- A log of which a crash leaves the last write cut short.
use Rattle.std.specs.Prelude.{ℕ, ◌==◌, if◌then◌else◌, Bool, true, false, List, [], ◌∷◌, length, take, Option, Some, None}
use Rattle.device.specs.Disk.{Segments, written_at}
use Rattle.device_mem.specs.declared.call.Call.{Call}
use Rattle.device_mem.specs.declared.call.Call.TheVariants.{WritePage, SyncPages, DropContainer, WriteLog, SyncLog, DropLog}
use Rattle.device_mem.specs.Calls.{log_of}
use Rattle.device_mem.specs.Latest.{log_after}

-- how many bytes the last write of the log has since the last sync of it; 0 where there was none
abbrev pub cuts_of : List Call → ℕ
cuts_of [] = 0
cuts_of (WritePage d q b ∷ cs) = cuts_of cs
cuts_of (SyncPages ∷ cs) = cuts_of cs
cuts_of (DropContainer d ∷ cs) = cuts_of cs
cuts_of (WriteLog t at b ∷ cs) = length b.items
cuts_of (SyncLog ∷ cs) = 0
cuts_of (DropLog t ∷ cs) = cuts_of cs

-- the log with that write cut after n bytes, and all else done
abbrev pub log_cut : ℕ → List Call → Segments
log_cut n [] s = []
log_cut n (WritePage d q b ∷ cs) s = log_cut n cs s
log_cut n (SyncPages ∷ cs) s = log_cut n cs s
log_cut n (DropContainer d ∷ cs) s = log_cut n cs s
log_cut n (WriteLog t at b ∷ cs) s = if t == s then written_at (log_of cs s) at (take n b.items) else log_of cs s
log_cut n (SyncLog ∷ cs) s = log_of cs s
log_cut n (DropLog t ∷ cs) s = if t == s then [] else log_cut n cs s

-- the same count after one call more
abbrev pub cuts_after : Call → ℕ → ℕ
cuts_after (WritePage d q b) known = known
cuts_after SyncPages known = known
cuts_after (DropContainer d) known = known
cuts_after (WriteLog t at b) known = length b.items
cuts_after SyncLog known = 0
cuts_after (DropLog t) known = known

-- which call is that write, by the number of calls before it
abbrev pub last_after : Call → ℕ → Option ℕ → Option ℕ
last_after (WritePage d q b) before known = known
last_after SyncPages before known = known
last_after (DropContainer d) before known = known
last_after (WriteLog t at b) before known = Some before
last_after SyncLog before known = None
last_after (DropLog t) before known = known

abbrev pub last_write : List Call → Option ℕ
last_write [] = None
last_write (call ∷ cs) = last_after call (length cs) (last_write cs)

-- the log after one call more, a write of it cut after n bytes or whole
abbrev pub part_after : (is_cut : Bool) → ℕ → Call → Segments → Segments
part_after true n (WriteLog t at b) old s = if t == s then written_at (old s) at (take n b.items) else old s
part_after true n (WritePage d q b) old s = old s
part_after true n SyncPages old s = old s
part_after true n (DropContainer d) old s = old s
part_after true n SyncLog old s = old s
part_after true n (DropLog t) old s = if t == s then [] else old s
part_after false n call old s = log_after call old s

-- the log after all calls, the one with this number before it cut
abbrev pub log_cut_at : (at n : ℕ) → List Call → Segments
log_cut_at at n [] s = []
log_cut_at at n (call ∷ cs) s = part_after (length cs == at) n call (log_cut_at at n cs) s

-- The control page as the log writes it: format 1, the next segment, the checkpoint's place; all else is 0.
use Rattle.std.specs.Prelude.{ℕ, List, drop, replicate}
use Rattle.dby_bytes.specs.Numbers.{with_number}
use Rattle.dby_types.specs.declared.number.Lsn.{Lsn}
use Rattle.log_records.specs.Sum.{sum_of}

-- a page of bytes 0
unfoldable pub blank : List ℕ
blank = replicate 4096 0

-- its four numbers
unfoldable pub control_numbers : ℕ → Lsn → List ℕ
control_numbers next point = with_number 4 (with_number 4 (with_number 4 (with_number 4 blank 32 1) 36 next) 40 point.segment) 44 point.offset

-- and the sum of what is behind it
unfoldable pub control_page : ℕ → Lsn → List ℕ
control_page next point = with_number 8 (control_numbers next point) 0 (sum_of (drop 8 (control_numbers next point)))

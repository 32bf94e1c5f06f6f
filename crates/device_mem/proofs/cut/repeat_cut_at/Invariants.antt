use Rattle.std.proofs.Common.{◌≡◌, ℕ, [], take, reverse}
use Rattle.device_mem.specs.Calls.{page_of, log_of}
use Rattle.device_mem.specs.Cuts.{log_cut_at}
use Rattle.device_mem.proofs.cut.repeat_cut_at.Given as goal

abbrev pub invariant-loop-i : goal.invariant-loop-i
invariant-loop-i l =
    (((s : ℕ) → log_of l.initial.to s ≡ []) → (s : ℕ) → log_of l.to s ≡ log_cut_at l.at l.n (reverse (take l.i l.calls)) s)
    × ((c p : ℕ) → page_of l.to c p ≡ page_of l.initial.to c p)

use Rattle.std.proofs.Common.{◌≡◌, ℕ, [], take, reverse}
use Rattle.device_mem.specs.Calls.{page_of, log_of}
use Rattle.device_mem.proofs.images.repeat_log.Given as goal

abbrev pub invariant-loop-call : goal.invariant-loop-call
invariant-loop-call l =
    (((s : ℕ) → log_of l.initial.to s ≡ []) → (s : ℕ) → log_of l.to s ≡ log_of (reverse (take l.call-index l.calls)) s)
    × ((c p : ℕ) → page_of l.to c p ≡ page_of l.initial.to c p)

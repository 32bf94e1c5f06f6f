use Rattle.std.proofs.Common.{◌≡◌, ℕ, [], take, reverse}
use Rattle.device_mem.specs.Calls.{page_of, log_of}
use Rattle.device_mem.proofs.images.repeat_pages.Given as goal

abbrev pub invariant-loop-call : goal.invariant-loop-call
invariant-loop-call l =
    (l.initial.to ≡ [] → (c p : ℕ) → page_of l.to c p ≡ page_of (reverse (take l.call-index l.calls)) c p)
    × ((s : ℕ) → log_of l.to s ≡ log_of l.initial.to s)

use Rattle.std.proofs.Common.{◌≡◌, drop}
use Rattle.store_trials.specs.Claims.{is_claimed}
use Rattle.store_trials.proofs.claims.is_claimed.Given as goal

abbrev pub invariant-loop-claim : goal.invariant-loop-claim
invariant-loop-claim l = is_claimed (drop l.claim-index l.claims) l.table l.rid ≡ is_claimed l.claims l.table l.rid

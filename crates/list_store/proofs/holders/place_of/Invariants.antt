use Rattle.std.proofs.Common.{◌≡◌, drop}
use Rattle.list_store.specs.Holders.{place_from}
use Rattle.list_store.proofs.holders.place_of.Given as goal

abbrev pub invariant-loop-i : goal.invariant-loop-i
invariant-loop-i l = place_from l.i l.a (drop l.i l.holders) ≡ place_from 0 l.a l.holders

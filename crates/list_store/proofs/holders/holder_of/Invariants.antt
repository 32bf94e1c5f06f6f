use Rattle.std.proofs.Common.{◌≡◌, drop}
use Rattle.list_store.specs.Holders.{holder_in}
use Rattle.list_store.proofs.holders.holder_of.Given as goal

abbrev pub invariant-loop-holder : goal.invariant-loop-holder
invariant-loop-holder l = holder_in l.a (drop l.holder-index l.holders) ≡ holder_in l.a l.holders

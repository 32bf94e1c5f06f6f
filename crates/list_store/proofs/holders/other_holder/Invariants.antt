use Rattle.std.proofs.Common.{◌≡◌, drop}
use Rattle.list_store.specs.Holders.{other_in}
use Rattle.list_store.proofs.holders.other_holder.Given as goal

abbrev pub invariant-loop-holder : goal.invariant-loop-holder
invariant-loop-holder l = other_in l.a l.table (drop l.holder-index l.holders) ≡ other_in l.a l.table l.holders

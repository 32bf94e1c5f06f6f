use Rattle.std.proofs.Common.{◌≡◌, ◌++◌, drop}
use Rattle.expr_binder.specs.Seen.{sources_in}
use Rattle.expr_binder.specs.Walking.{kept}
use Rattle.sql_binding.specs.Bound.{puts_of}
use Rattle.sql_binding.specs.Changes.{puts, set_faults}
use Rattle.change_binder.proofs.update.sets.Given as goal

abbrev pub invariant-loop-text : goal.invariant-loop-text
invariant-loop-text l = record {
  puts : puts_of l.bound ++ puts l.columns (sources_in l.sources) (drop l.text-index l.texts) ≡ puts l.columns (sources_in l.sources) l.texts;
  fault : kept l.fault (set_faults l.columns (sources_in l.sources) (drop l.text-index l.texts)) ≡ kept l.initial.fault (set_faults l.columns (sources_in l.sources) l.texts);
}

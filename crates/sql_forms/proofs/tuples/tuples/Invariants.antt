use Rattle.std.proofs.Common.{◌≡◌, ◌++◌, [], drop}
use Rattle.sql_forms.specs.declared.tuples.TuplesAt.TheVariants.{Open}
use Rattle.sql_forms.specs.Tuples.{tuples_from, tuples_end}
use Rattle.sql_forms.proofs.tuples.tuples.Given as goal

abbrev pub invariant-loop-token : goal.invariant-loop-token
invariant-loop-token l = record {
  tuples : l.found.items ++ tuples_from l.at l.tuple (drop l.token-index l.tokens) ≡ tuples_from Open [] l.tokens;
  end : tuples_end l.at (drop l.token-index l.tokens) ≡ tuples_end Open l.tokens;
}

use Rattle.std.proofs.Common.{◌≡◌, ◌≤◌, ℕ, length, drop}
use Rattle.sql_expressions.specs.Capped.{capped}
use Rattle.sql_walk.specs.Heights.{up_within}
use Rattle.sql_walk.proofs.height.enclosed.Given as goal

abbrev pub invariant-each : goal.invariant-each
invariant-each l = record {
  within : l.i ≤ length l.outer;
  height : (x : ℕ) → l.fn.d ≡ capped x → l.height ≡ capped (up_within (drop l.i l.outer) x);
}

abbrev pub decreases-each : goal.decreases-each
decreases-each l = l.i

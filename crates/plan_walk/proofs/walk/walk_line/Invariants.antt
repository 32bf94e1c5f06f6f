use Rattle.std.proofs.Common.{◌≡◌, ℕ, ◌≤◌}
use Rattle.plan_walk.specs.Walk.{AreFew, Goes, Leaves, seen}
use Rattle.plan_walk.proofs.walk.walk_line.Given as goal

abbrev pub invariant-loop : goal.invariant-loop
invariant-loop g l = record {
  same : l.engine.0 ≡ l.initial.engine.0;
  stops : l.engine.4 ≡ l.initial.engine.4;
  most : l.counter ≤ l.line.steps;
  goes : (ways : ℕ → ℕ) → AreFew ways l.initial.engine.5 (g.S.RowStore.view l.initial.engine.3)
      → Leaves (λ new. Goes l.initial.engine.0 l.line.connection l.counter (seen l.initial.engine.1 l.initial.engine.5 (g.S.RowStore.view l.initial.engine.3) ways) new) l.engine.1 l.engine.5 (g.S.RowStore.view l.engine.3);
}

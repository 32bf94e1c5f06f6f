use Rattle.std.proofs.Common.{◌≡◌, ℕ, take}
use Rattle.plan_walk.specs.Walk.{AreFew, Leaves, Walks, seen}
use Rattle.plan_walk.proofs.walk.walk.Given as goal

abbrev pub invariant-loop-line : goal.invariant-loop-line
invariant-loop-line g l = record {
  same : l.engine.0 ≡ l.initial.engine.0;
  stops : l.engine.4 ≡ l.initial.engine.4;
  walks : (ways : ℕ → ℕ) → AreFew ways l.initial.engine.5 (g.S.RowStore.view l.initial.engine.3)
      → Leaves (λ new. Walks l.initial.engine.0 (take l.line-index l.line-items) (seen l.initial.engine.1 l.initial.engine.5 (g.S.RowStore.view l.initial.engine.3) ways) new) l.engine.1 l.engine.5 (g.S.RowStore.view l.engine.3);
}

use Rattle.std.proofs.Common.{◌≡◌, ◌≢◌, ◌<◌, ◌≤◌, ℕ, length}
use Rattle.engine_close.proofs.close.let_all_go.Given as goal

abbrev pub invariant-loop-c : goal.invariant-loop-c
invariant-loop-c g l = record {
  entries : l.parts.entries ≡ l.fn.parts.entries;
  events : l.parts.events ≡ l.fn.parts.events;
  same : l.parts.sessions ≡ l.fn.parts.sessions;
  content : (g.S.RowStore.view l.parts.store).content ≡ (g.S.RowStore.view l.fn.parts.store).content;
  limit : (g.S.RowStore.view l.parts.store).limit ≡ (g.S.RowStore.view l.fn.parts.store).limit;
  held : (b : ℕ) → ((g.S.RowStore.view l.parts.store).actors b).pages ≢ 0 → (l.c < b) × (b ≤ length l.fn.parts.sessions.items);
}

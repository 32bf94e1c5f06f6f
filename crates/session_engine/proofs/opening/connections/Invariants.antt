use Rattle.std.proofs.Common.{◌≡◌, ◌^◌, ◌<◌, ◌++◌, length}
use Rattle.std.specs.VecDeque.{deque_len}
use Rattle.table_model.specs.Tables.{Each}
use Rattle.session_engine.specs.Opening.{IsNew}
use Rattle.session_engine.specs.State.{scripts_of}
use Rattle.session_engine.proofs.opening.connections.Given as goal

abbrev pub invariant-opens : goal.invariant-opens
invariant-opens l = record {
  scripts : scripts_of l.sessions.items ++ l.scripts.items ≡ l.fn.scripts.items;
  new : Each IsNew l.sessions.items;
  short : Each (λ s. length s < 2 ^ 32) l.scripts.items;
}

abbrev pub decreases-opens : goal.decreases-opens
decreases-opens l = deque_len l.scripts

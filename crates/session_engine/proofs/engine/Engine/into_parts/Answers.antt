use Rattle.std.proofs.Common.{arith}
use Rattle.lock_manager.specs.Table.{lock}
use Rattle.session_engine.proofs.engine.Engine.into_parts.Goals as goal

pub returns-clause-left : goal.returns-clause-left
returns-clause-left g c =
    let inv = c.self.invariant in
    let owed = inv.room.owed_is in
    let owed_events = inv.room.owed_events_is in
    let fit = inv.room.entries_fit in
    let fit_events = inv.room.events_fit in
    record {
      lock = lock c.self.inside.locks;
      named = c.self.inside.tables.entries;
      last = c.self.inside.last;
      holds = inv.holds;
      entries_fit = omega (arith, owed, fit);
      events_fit = omega (arith, owed_events, fit_events);
    }

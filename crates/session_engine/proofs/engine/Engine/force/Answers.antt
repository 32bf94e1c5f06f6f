use Rattle.std.proofs.Common.{◌≡◌, ◌<◌, length, ◌∙◌, ap, arith}
use Rattle.lock_manager.specs.Table.{lock}
use Rattle.session_engine.specs.declared.session.Session.{Session}
use Rattle.session_engine.specs.State.{ends_in, opens}
use Rattle.session_engine.specs.Engine.{state}
use Rattle.session_engine.proofs.RoomLemmas.{room_after}
use Rattle.session_engine.proofs.StepLemmas.{forced, still_store, stored_after, same_session}
use Rattle.session_engine.proofs.SpentLemmas.{itself, spent_kept}
use Rattle.session_engine.proofs.PaceLemmas.{acts_still, paces_stopped_still}
use Rattle.session_engine.proofs.engine.Engine.force.Goals as goal

pub invariant_of-self : goal.invariant_of-self
invariant_of-self g c =
    let lt : c.args.c < length c.self.inside.sessions.items = omega arith in
    let r = c.index_mut-session.result.now in
    let at = c.index_mut-session.ensures.value in
    let is = ap (λ (s : Session). s.phase) (same_session c.self.inside.sessions.items c.args.c r c.index.result.now lt at c.index.ensures) ∙ c.in-Forcing.is in
    let one : ends_in r.phase ≡ 1 = ap ends_in is in
    let open_one : opens r.phase ≡ 1 = ap opens is in
    record {
      holds = forced (state c.self.inside.entries c.self.inside.events c.self.inside.locks c.self.inside.sessions.items (g.S.RowStore.view c.self.inside.store) c.self.inside.tables.entries)
          c.self.inside.last c.args.c r (g.S.RowStore.view c.force.new.self) lt at is
          (stored_after _ _ _ _ c.force.result c.force.ensures.ok c.force.ensures.err)
          c.force.ensures.frame.everyone c.force.ensures.frame.limit_same c.self.invariant.holds;
      room = room_after c.self.inside.entries c.self.inside.entries c.self.inside.events c.self.inside.events c.self.inside.sessions.items (lock c.self.inside.locks) (lock c.self.inside.locks)
          c.self.inside.owed c.self.inside.owed_events c.self.inside.owed c.self.inside.owed_events c.args.c r _ c.self.invariant.room lt at
          (omega (arith, one)) (omega (arith, open_one)) c.self.invariant.room.entries_fit c.self.invariant.room.events_fit;
      woken = c.self.invariant.woken;
      spent = spent_kept c.self.inside.sessions.items c.args.c r _ lt at (itself r.closed) (itself r.spans) (itself r.begun) c.self.invariant.spent;
    }

pub invariant_of-self-in-Err : goal.invariant_of-self-in-Err
invariant_of-self-in-Err g c = record {
  holds = still_store (state c.self.inside.entries c.self.inside.events c.self.inside.locks c.self.inside.sessions.items (g.S.RowStore.view c.self.inside.store) c.self.inside.tables.entries)
      c.self.inside.last (g.S.RowStore.view c.force.new.self)
      (stored_after _ _ _ _ c.force.result c.force.ensures.ok c.force.ensures.err)
      c.force.ensures.frame.everyone c.force.ensures.frame.limit_same c.self.invariant.holds;
  room = c.self.invariant.room;
  woken = c.self.invariant.woken;
  spent = c.self.invariant.spent;
}

pub returns-in-Err-clause-paces : goal.returns-in-Err-clause-paces
returns-in-Err-clause-paces g c =
    paces_stopped_still g.S.RowStore.view c.args.c c.halt.result c.self.inside.sessions.items _ _ _ c.args.self.now c.halt.new.self _ _ _ c.self.view_is c.halt.ensures.nexts c.halt.ensures.entries c.halt.ensures.store c.halt.ensures.halted
    (acts_still _ _ _ c.in-Err.ensures.frame)

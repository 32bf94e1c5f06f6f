use Rattle.std.proofs.Common.{◌≡◌, ◌+◌, ◌-◌, ◌<◌, length, ap, arith}
use Rattle.lock_manager.specs.Table.{lock}
use Rattle.session_engine.specs.State.{ends_in, opens}
use Rattle.session_engine.specs.Engine.{state}
use Rattle.session_engine.proofs.RoomLemmas.{room_for, room_after}
use Rattle.session_engine.proofs.StepLemmas.{appends, stored_after}
use Rattle.session_engine.proofs.SpentLemmas.{itself, spent_kept}
use Rattle.session_engine.proofs.engine.Engine.append.Goals as goal

pub put-requires : goal.put-requires
put-requires g c =
    let lt : c.args.c < length c.self.inside.sessions.items = omega arith in
    let needs : ends_in c.index_mut-session.result.now.phase ≡ 2 = ap ends_in c.in-Committing.is in
    let room = room_for c.self.inside.entries c.self.inside.events c.self.inside.sessions.items (lock c.self.inside.locks) c.self.inside.owed c.self.inside.owed_events c.args.c 1 c.index_mut-session.result.now c.self.invariant.room lt c.index_mut-session.ensures.value (omega (arith, needs)) in
    omega (arith, room.1)

pub overflow_sub-self : goal.overflow_sub-self
overflow_sub-self g c =
    let lt : c.args.c < length c.self.inside.sessions.items = omega arith in
    let r = c.index_mut-session.result.now in
    let needs : ends_in r.phase ≡ 2 = ap ends_in c.in-Committing.is in
    let len = c.len-2.ensures in
    (room_for c.self.inside.entries c.self.inside.events c.self.inside.sessions.items (lock c.self.inside.locks) c.self.inside.owed c.self.inside.owed_events c.args.c (c.len-2.result + 1) r c.self.invariant.room lt c.index_mut-session.ensures.value (omega (arith, needs, len))).0

pub invariant_of-self : goal.invariant_of-self
invariant_of-self g c =
    let lt : c.args.c < length c.self.inside.sessions.items = omega arith in
    let r = c.index_mut-session.result.now in
    let at = c.index_mut-session.ensures.value in
    let needs : ends_in r.phase ≡ 2 = ap ends_in c.in-Committing.is in
    let opened : opens r.phase ≡ 1 = ap opens c.in-Committing.is in
    let len = c.len-2.ensures in
    let cleared = c.clear.ensures.len in
    let put_len = c.put.ensures.len in
    let put_cap = c.put.ensures.capacity in
    let room = room_for c.self.inside.entries c.self.inside.events c.self.inside.sessions.items (lock c.self.inside.locks) c.self.inside.owed c.self.inside.owed_events c.args.c (c.len-2.result + 1) r c.self.invariant.room lt at (omega (arith, needs, len)) in
    let fit = c.self.invariant.room.entries_fit in
    record {
      holds = rw c.put.ensures.items (appends (state c.self.inside.entries c.self.inside.events c.self.inside.locks c.self.inside.sessions.items (g.S.RowStore.view c.self.inside.store) c.self.inside.tables.entries)
          c.self.inside.last c.args.c r c.clear.new.self (g.S.RowStore.view c.append_commit-answer.new.self) lt at c.in-Committing.is c.clear.ensures.items
          (stored_after _ _ _ _ c.append_commit-answer.result c.append_commit-answer.ensures.ok c.append_commit-answer.ensures.err)
          c.append_commit-answer.ensures.frame.everyone c.append_commit-answer.ensures.frame.limit_same c.self.invariant.holds);
      room = room_after c.self.inside.entries c.put.new.items c.self.inside.events c.self.inside.events c.self.inside.sessions.items (lock c.self.inside.locks) (lock c.self.inside.locks)
          c.self.inside.owed c.self.inside.owed_events (c.self.inside.owed - (c.len-2.result + 1)) c.self.inside.owed_events c.args.c r _ c.self.invariant.room lt at
          (omega (arith, needs, len, cleared, room.0)) (omega (arith, opened)) (omega (arith, put_len, put_cap, room.0, fit)) c.self.invariant.room.events_fit;
      woken = c.self.invariant.woken;
      spent = spent_kept c.self.inside.sessions.items c.args.c r _ lt at (itself r.closed) (itself r.spans) (itself r.begun) c.self.invariant.spent;
    }

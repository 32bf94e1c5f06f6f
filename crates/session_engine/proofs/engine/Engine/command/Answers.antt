use Rattle.std.proofs.Common.{◌≡◌, ◌-◌, ◌<◌, length, ap, arith}
use Rattle.lock_manager.specs.Table.{lock}
use Rattle.session_engine.specs.State.{ends_in, opens}
use Rattle.session_engine.specs.Engine.{state}
use Rattle.session_engine.proofs.RoomLemmas.{room_for, room_after}
use Rattle.session_engine.proofs.TellLemmas.{commands, told_opens, told_at_most}
use Rattle.session_engine.proofs.SpentLemmas.{itself, spent_kept}
use Rattle.session_engine.proofs.engine.Engine.command.Goals as goal

pub put-requires : goal.put-requires
put-requires g c =
    let lt : c.args.c < length c.self.inside.sessions.items = omega arith in
    let needs : ends_in c.index_mut-session.result.now.phase ≡ 3 = ap ends_in c.in-Working.is in
    let room = room_for c.self.inside.entries c.self.inside.events c.self.inside.sessions.items (lock c.self.inside.locks) c.self.inside.owed c.self.inside.owed_events c.args.c 1 c.index_mut-session.result.now c.self.invariant.room lt c.index_mut-session.ensures.value (omega (arith, needs)) in
    omega (arith, room.1)

pub overflow_sub-self-2 : goal.overflow_sub-self-2
overflow_sub-self-2 g c =
    let lt : c.args.c < length c.self.inside.sessions.items = omega arith in
    let needs : ends_in c.index_mut-session.result.now.phase ≡ 3 = ap ends_in c.in-Working.is in
    let three = c.ends.ensures.exact in
    let room = room_for c.self.inside.entries c.self.inside.events c.self.inside.sessions.items (lock c.self.inside.locks) c.self.inside.owed c.self.inside.owed_events c.args.c 3 c.index_mut-session.result.now c.self.invariant.room lt c.index_mut-session.ensures.value (omega (arith, needs)) in
    omega (arith, room.0, three)

pub invariant_of-self : goal.invariant_of-self
invariant_of-self g c =
    let lt : c.args.c < length c.self.inside.sessions.items = omega arith in
    let r = c.index_mut-session.result.now in
    let at = c.index_mut-session.ensures.value in
    let needs : ends_in r.phase ≡ 3 = ap ends_in c.in-Working.is in
    let opened : opens r.phase ≡ 1 = ap opens c.in-Working.is in
    let follows = c.phase_answered-session.ensures in
    let left = told_at_most c.phase_answered-session.result _ follows in
    let left_event : opens c.phase_answered-session.result ≡ 1 = told_opens c.phase_answered-session.result _ follows in
    let three = c.ends.ensures.exact in
    let then = c.ends-2.ensures.exact in
    let put_len = c.put.ensures.len in
    let put_cap = c.put.ensures.capacity in
    let fit = c.self.invariant.room.entries_fit in
    let room = room_for c.self.inside.entries c.self.inside.events c.self.inside.sessions.items (lock c.self.inside.locks) c.self.inside.owed c.self.inside.owed_events c.args.c 3 r c.self.invariant.room lt at (omega (arith, needs)) in
    let here : c.len-place.result ≡ length c.self.inside.entries.items = (let is = c.len-place.ensures in omega (arith, is)) in
    let whole = commands (state c.self.inside.entries c.self.inside.events c.self.inside.locks c.self.inside.sessions.items (g.S.RowStore.view c.self.inside.store) c.self.inside.tables.entries)
    c.self.inside.last c.args.c c.len-place.result r c.in-Command.command c.phase_answered-session.result lt at c.in-Working.is c.in-Command.is here follows c.self.invariant.holds in
    record {
      holds = rw c.put.ensures.items (rw c.told.ensures (rw c.new.ensures (rw c.level_after-session.ensures (rw c.automatic_after-session.ensures whole))));
      room = room_after c.self.inside.entries c.put.new.items c.self.inside.events c.self.inside.events c.self.inside.sessions.items (lock c.self.inside.locks) (lock c.self.inside.locks)
          c.self.inside.owed c.self.inside.owed_events (c.self.inside.owed - (c.ends.result - c.ends-2.result)) c.self.inside.owed_events c.args.c r _ c.self.invariant.room lt at
          (omega (arith, needs, three, then, left, room.0)) (omega (arith, opened, left_event)) (omega (arith, three, then, left, put_len, put_cap, room.0, fit)) c.self.invariant.room.events_fit;
      woken = c.self.invariant.woken;
      spent = spent_kept c.self.inside.sessions.items c.args.c r _ lt at (itself r.closed) (itself r.spans) (itself r.begun) c.self.invariant.spent;
    }

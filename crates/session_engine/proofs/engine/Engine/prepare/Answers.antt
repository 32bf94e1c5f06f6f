use Rattle.std.proofs.Common.{◌≡◌, ◌-◌, ◌<◌, length, ap, subst, arith}
use Rattle.lock_manager.specs.Table.{lock}
use Rattle.session_engine.specs.Binding.{bound_phase, IsBound}
use Rattle.session_engine.specs.State.{ends_in, opens}
use Rattle.session_engine.specs.Engine.{state}
use Rattle.session_engine.proofs.BindLemmas.{binds, bound_ends}
use Rattle.session_engine.proofs.RoomLemmas.{room_for, room_after}
use Rattle.session_engine.proofs.SpentLemmas.{itself, spent_kept}
use Rattle.session_engine.proofs.engine.Engine.prepare.Goals as goal

pub overflow_sub-self-2 : goal.overflow_sub-self-2
overflow_sub-self-2 g c =
    let lt : c.args.c < length c.self.inside.sessions.items = omega arith in
    let r = c.index_mut-session.result.now in
    let needs : ends_in r.phase ≡ 3 = ap ends_in c.in-Preparing.is in
    let three = c.ends.ensures.exact in
    let one = (room_for c.self.inside.entries c.self.inside.events c.self.inside.sessions.items (lock c.self.inside.locks) c.self.inside.owed c.self.inside.owed_events c.args.c 3 r c.self.invariant.room lt c.index_mut-session.ensures.value (omega (arith, needs))).0 in
    omega (arith, three, one)

pub invariant_of-self : goal.invariant_of-self
invariant_of-self g c =
    let lt : c.args.c < length c.self.inside.sessions.items = omega arith in
    let st = state c.self.inside.entries c.self.inside.events c.self.inside.locks c.self.inside.sessions.items (g.S.RowStore.view c.self.inside.store) c.self.inside.tables.entries in
    let r = c.index_mut-session.result.now in
    let at = c.index_mut-session.ensures.value in
    let is = c.in-Preparing.is in
    let p = c.bind.result in
    let needs : ends_in r.phase ≡ 3 = ap ends_in is in
    let needs_event : opens r.phase ≡ 1 = ap opens is in
    let three = c.ends.ensures.exact in
    let then = c.ends-2.ensures.exact in
    let follows = c.bound_phase-session.ensures in
    let left = bound_ends p in
    let now : ends_in c.bound_phase-session.result ≡ ends_in (bound_phase p) = ap ends_in follows in
    let now_event : opens c.bound_phase-session.result ≡ opens (bound_phase p) = ap opens follows in
    let one = (room_for c.self.inside.entries c.self.inside.events c.self.inside.sessions.items (lock c.self.inside.locks) c.self.inside.owed c.self.inside.owed_events c.args.c 3 r c.self.invariant.room lt at (omega (arith, needs))).0 in
    let fit = c.self.invariant.room.entries_fit in
    record {
      holds = rw (follows, c.replace-order.ensures.after) (binds st c.self.inside.last c.args.c r p lt at is (subst (λ o. IsBound c.self.inside.tables.entries o c.bind.result) c.replace-order.ensures.value c.bind.ensures) c.self.invariant.holds);
      room = room_after c.self.inside.entries c.self.inside.entries c.self.inside.events c.self.inside.events c.self.inside.sessions.items (lock c.self.inside.locks) (lock c.self.inside.locks)
          c.self.inside.owed c.self.inside.owed_events (c.self.inside.owed - (c.ends.result - c.ends-2.result)) c.self.inside.owed_events c.args.c r _ c.self.invariant.room lt at
          (omega (arith, needs, three, then, now, left.0, one)) (omega (arith, needs_event, now_event, left.1)) (omega (arith, fit)) c.self.invariant.room.events_fit;
      woken = c.self.invariant.woken;
      spent = spent_kept c.self.inside.sessions.items c.args.c r _ lt at (itself r.closed) (itself r.spans) (itself r.begun) c.self.invariant.spent;
    }

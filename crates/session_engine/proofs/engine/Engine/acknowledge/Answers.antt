use Rattle.std.proofs.Common.{◌≡◌, ◌+◌, ◌-◌, ◌<◌, ◌++◌, [], ◌∷◌, length, refl, ap, arith, length-append}
use Rattle.lock_manager.specs.Table.{lock}
use Rattle.journal_model.specs.declared.journal.Entry.TheVariants as entry
use Rattle.session_engine.specs.declared.session.Session.{Session}
use Rattle.session_engine.specs.State.{ends_in, opens}
use Rattle.session_engine.specs.Engine.{state}
use Rattle.session_engine.proofs.RoomLemmas.{room_for, releases_for, room_after}
use Rattle.session_engine.proofs.EndLemmas.{acknowledges}
use Rattle.session_engine.proofs.SpentLemmas.{spent_idle}
use Rattle.session_engine.proofs.engine.Engine.acknowledge.Goals as goal

pub put-requires : goal.put-requires
put-requires g c =
    let lt : c.args.c < length c.self.inside.sessions.items = omega arith in
    let needs : ends_in c.index_mut-session.result.now.phase ≡ 1 = ap ends_in c.in-Acknowledging.is in
    let room = room_for c.self.inside.entries c.self.inside.events c.self.inside.sessions.items (lock c.self.inside.locks) c.self.inside.owed c.self.inside.owed_events c.args.c 1 c.index_mut-session.result.now c.self.invariant.room lt c.index_mut-session.ensures.value (omega (arith, needs)) in
    omega (arith, room.1)

pub overflow_sub-self : goal.overflow_sub-self
overflow_sub-self g c =
    let lt : c.args.c < length c.self.inside.sessions.items = omega arith in
    let r = c.index_mut-session.result.now in
    let needs : ends_in r.phase ≡ 1 = ap ends_in c.in-Acknowledging.is in
    let len = c.len-2.ensures in
    (room_for c.self.inside.entries c.self.inside.events c.self.inside.sessions.items (lock c.self.inside.locks) c.self.inside.owed c.self.inside.owed_events c.args.c (c.len-2.result + 1) r c.self.invariant.room lt c.index_mut-session.ensures.value (omega (arith, needs, len))).0

pub overflow_sub-self-2 : goal.overflow_sub-self-2
overflow_sub-self-2 g c =
    let lt : c.args.c < length c.self.inside.sessions.items = omega arith in
    let r = c.index_mut-session.result.now in
    let needs : opens r.phase ≡ 1 = ap opens c.in-Acknowledging.is in
    let one = releases_for c.self.inside.entries c.self.inside.events c.self.inside.sessions.items (lock c.self.inside.locks) c.self.inside.owed c.self.inside.owed_events c.args.c r c.self.invariant.room lt c.index_mut-session.ensures.value in
    omega (arith, one.0, needs)

pub release-requires-clause-room : goal.release-requires-clause-room
release-requires-clause-room g c =
    let lt : c.args.c < length c.self.inside.sessions.items = omega arith in
    let r = c.index_mut-session.result.now in
    let needs : opens r.phase ≡ 1 = ap opens c.in-Acknowledging.is in
    let one = releases_for c.self.inside.entries c.self.inside.events c.self.inside.sessions.items (lock c.self.inside.locks) c.self.inside.owed c.self.inside.owed_events c.args.c r c.self.invariant.room lt c.index_mut-session.ensures.value in
    omega (arith, one.1, needs)

pub invariant_of-self : goal.invariant_of-self
invariant_of-self g c =
    let lt : c.args.c < length c.self.inside.sessions.items = omega arith in
    let r = c.index_mut-session.result.now in
    let at = c.index_mut-session.ensures.value in
    let is = c.in-Acknowledging.is in
    let needs : ends_in r.phase ≡ 1 = ap ends_in is in
    let needs_event : opens r.phase ≡ 1 = ap opens is in
    let len = c.len-2.ensures in
    let put_len = c.put.ensures.len in
    let put_cap = c.put.ensures.capacity in
    let fit = c.self.invariant.room.entries_fit in
    let fit_events = c.self.invariant.room.events_fit in
    let room = room_for c.self.inside.entries c.self.inside.events c.self.inside.sessions.items (lock c.self.inside.locks) c.self.inside.owed c.self.inside.owed_events c.args.c (c.len-2.result + 1) r c.self.invariant.room lt at (omega (arith, needs, len)) in
    let one = releases_for c.self.inside.entries c.self.inside.events c.self.inside.sessions.items (lock c.self.inside.locks) c.self.inside.owed c.self.inside.owed_events c.args.c r c.self.invariant.room lt at in
    let freed = c.release.ensures.given in
    let freed_room = freed.room in
    let freed_cap = freed.capacity in
    let new = c.idle.ensures.is in
    let empty : length c.idle.new.session.made.items ≡ 0 = ap length c.idle.ensures.empty in
    let phase : ends_in c.idle.new.session.phase ≡ 0 = ap (λ (s : Session). ends_in s.phase) new in
    let phase_event : opens c.idle.new.session.phase ≡ 0 = ap (λ (s : Session). opens s.phase) new in
    let appended = length-append c.self.inside.entries.items (entry.Acknowledged r.txn ∷ []) in
    let len-3 = c.len-3.ensures in
    let place : c.len-3.result ≡ length (c.self.inside.entries.items ++ entry.Acknowledged r.txn ∷ []) = omega (arith, appended, len-3, put_len) in
    record {
      holds = rw (c.put.ensures.items, new, freed.events_are) (acknowledges (state c.self.inside.entries c.self.inside.events c.self.inside.locks c.self.inside.sessions.items (g.S.RowStore.view c.self.inside.store) c.self.inside.tables.entries)
          c.self.inside.last c.args.c c.len-3.result r c.idle.new.session.made c.self.inside.locks c.release.new.locks lt at is c.idle.ensures.empty place refl freed.given freed.order freed.lock_is c.self.invariant.holds);
      room = room_after c.self.inside.entries c.put.new.items c.self.inside.events c.release.new.events c.self.inside.sessions.items (lock c.self.inside.locks) (lock c.release.new.locks)
          c.self.inside.owed c.self.inside.owed_events (c.self.inside.owed - (c.len-2.result + 1)) (c.self.inside.owed_events - 1) c.args.c r c.idle.new.session c.self.invariant.room lt at
          (omega (arith, needs, len, empty, phase, room.0)) (omega (arith, needs_event, phase_event, one.0)) (omega (arith, put_len, put_cap, room.0, fit)) (omega (arith, freed_room, freed_cap, fit_events, one.0, needs_event));
      woken = c.release.ensures.none;
      spent = spent_idle c.self.inside.sessions.items c.args.c r _ c.idle.new.session lt at c.idle.ensures refl c.self.invariant.spent;
    }

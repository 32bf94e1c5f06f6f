use Rattle.std.proofs.Common.{◌≡◌, ◌+◌, ◌-◌, ◌<◌, ◌++◌, [], ◌∷◌, length, refl, ◌∙◌, ap, subst, arith, length-append}
use Rattle.lock_manager.specs.Table.{lock}
use Rattle.std.specs.Prelude.{IsTrue, ◌↔◌}
use Rattle.store_api.specs.Effects.{Undoes, is_done, without_txn}
use Rattle.store_api.specs.View.{changes_in}
use Rattle.journal_model.specs.declared.journal.Entry.TheVariants as entry
use Rattle.session_engine.specs.declared.session.Session.{Session}
use Rattle.session_engine.specs.State.{ends_in, opens, txn_of}
use Rattle.session_engine.specs.Engine.{state}
use Rattle.session_engine.proofs.CountLemmas.{may_hold}
use Rattle.session_engine.proofs.RoomLemmas.{room_for, releases_for, room_after}
use Rattle.session_engine.proofs.StepLemmas.{stored_after, refused_content}
use Rattle.session_engine.proofs.ContainerLemmas.{leaves_container}
use Rattle.session_engine.proofs.EndLemmas.{undoes_transaction, rolls_back, closes, leaves_pages, leaves_done}
use Rattle.session_engine.proofs.SpentLemmas.{itself, spent_idle, spent_kept}
use Rattle.session_engine.proofs.PaceLemmas.{acts_frame, paces_inside, paces_stopped, paces_unmade}
use Rattle.session_engine.proofs.engine.Engine.leave.Goals as goal

pub undo_one-requires-clause-few : goal.undo_one-requires-clause-few
undo_one-requires-clause-few g c =
    may_hold (state c.self.inside.entries c.self.inside.events c.self.inside.locks c.self.inside.sessions.items (g.S.RowStore.view c.self.inside.store) c.self.inside.tables.entries) c.self.inside.last _ c.self.invariant.holds

pub put-requires : goal.put-requires
put-requires g c =
    let lt : c.args.c < length c.self.inside.sessions.items = omega arith in
    let needs : ends_in c.index_mut-session.result.now.phase ≡ 1 = ap ends_in c.in-Leaving.is in
    let room = room_for c.self.inside.entries c.self.inside.events c.self.inside.sessions.items (lock c.self.inside.locks) c.self.inside.owed c.self.inside.owed_events c.args.c 1 c.index_mut-session.result.now c.self.invariant.room lt c.index_mut-session.ensures.value (omega (arith, needs)) in
    omega (arith, room.1)

pub overflow_sub-self : goal.overflow_sub-self
overflow_sub-self g c =
    let lt : c.args.c < length c.self.inside.sessions.items = omega arith in
    let needs : ends_in c.index_mut-session.result.now.phase ≡ 1 = ap ends_in c.in-Leaving.is in
    (room_for c.self.inside.entries c.self.inside.events c.self.inside.sessions.items (lock c.self.inside.locks) c.self.inside.owed c.self.inside.owed_events c.args.c 1 c.index_mut-session.result.now c.self.invariant.room lt c.index_mut-session.ensures.value (omega (arith, needs))).0

pub invariant_of-self : goal.invariant_of-self
invariant_of-self g c =
    let lt : c.args.c < length c.self.inside.sessions.items = omega arith in
    let r = c.index_mut-session.result.now in
    let at = c.index_mut-session.ensures.value in
    let is = c.in-Leaving.is in
    let needs : ends_in r.phase ≡ 1 = ap ends_in is in
    let actor = c.actor_of-actor.ensures in
    let back = (subst (λ u. Undoes c.actor_of-actor.result c.index_mut-session.result.now.txn.0 0 (g.S.RowStore.view c.self.inside.store) (g.S.RowStore.view c.undo_one.new.self) u) c.in-Ok-Undid.field-0-is c.in-Ok-Undid.ensures.ok).0 in
    let popped = c.in-Some.ensures.items in
    let more = length-append c.pop.new.self.items (c.in-Some.did ∷ []) in
    let fewer : length r.made.items ≡ length c.pop.new.self.items + 1 = ap length popped ∙ more in
    let put_len = c.put.ensures.len in
    let put_cap = c.put.ensures.capacity in
    let fit = c.self.invariant.room.entries_fit in
    let room = room_for c.self.inside.entries c.self.inside.events c.self.inside.sessions.items (lock c.self.inside.locks) c.self.inside.owed c.self.inside.owed_events c.args.c 1 r c.self.invariant.room lt at (omega (arith, needs)) in
    record {
      holds = rw (c.put.ensures.items, c.unlist.ensures) (undoes_transaction (state c.self.inside.entries c.self.inside.events c.self.inside.locks c.self.inside.sessions.items (g.S.RowStore.view c.self.inside.store) c.self.inside.tables.entries)
          c.self.inside.last c.args.c r c.pop.new.self (g.S.RowStore.view c.undo_one.new.self) c.in-Some.did _ _ back.0 back.1.rest lt at is c.in-true.is popped back.1.newest back.1.stored.stored
          (λ b ne. c.in-Ok-Undid.ensures.frame.others b (λ e. ne (e ∙ actor))) c.in-Ok-Undid.ensures.frame.limit_same c.self.invariant.holds);
      room = room_after c.self.inside.entries c.put.new.items c.self.inside.events c.self.inside.events c.self.inside.sessions.items (lock c.self.inside.locks) (lock c.self.inside.locks)
          c.self.inside.owed c.self.inside.owed_events (c.self.inside.owed - 1) c.self.inside.owed_events c.args.c r _ c.self.invariant.room lt at
          (omega (arith, fewer, room.0)) (omega arith) (omega (arith, put_len, put_cap, room.0, fit)) c.self.invariant.room.events_fit;
      woken = c.self.invariant.woken;
      spent = spent_kept c.self.inside.sessions.items c.args.c r _ lt at (itself r.closed) (itself r.spans) (itself r.begun) c.self.invariant.spent;
    }

pub put-requires-in-Ok-Done : goal.put-requires-in-Ok-Done
put-requires-in-Ok-Done g c =
    let lt : c.args.c < length c.self.inside.sessions.items = omega arith in
    let needs : ends_in c.index_mut-session.result.now.phase ≡ 1 = ap ends_in c.in-Leaving.is in
    let room = room_for c.self.inside.entries c.self.inside.events c.self.inside.sessions.items (lock c.self.inside.locks) c.self.inside.owed c.self.inside.owed_events c.args.c 1 c.index_mut-session.result.now c.self.invariant.room lt c.index_mut-session.ensures.value (omega (arith, needs)) in
    omega (arith, room.1)

pub overflow_sub-self-in-Ok-Done : goal.overflow_sub-self-in-Ok-Done
overflow_sub-self-in-Ok-Done g c =
    let lt : c.args.c < length c.self.inside.sessions.items = omega arith in
    let r = c.index_mut-session.result.now in
    let needs : ends_in r.phase ≡ 1 = ap ends_in c.in-Leaving.is in
    let len = c.len-in-Ok-Done.ensures in
    (room_for c.self.inside.entries c.self.inside.events c.self.inside.sessions.items (lock c.self.inside.locks) c.self.inside.owed c.self.inside.owed_events c.args.c (c.len-in-Ok-Done.result + 1) r c.self.invariant.room lt c.index_mut-session.ensures.value (omega (arith, needs, len))).0

pub overflow_sub-self-in-Ok-Done-2 : goal.overflow_sub-self-in-Ok-Done-2
overflow_sub-self-in-Ok-Done-2 g c =
    let lt : c.args.c < length c.self.inside.sessions.items = omega arith in
    let r = c.index_mut-session.result.now in
    let needs : opens r.phase ≡ 1 = ap opens c.in-Leaving.is in
    let one = releases_for c.self.inside.entries c.self.inside.events c.self.inside.sessions.items (lock c.self.inside.locks) c.self.inside.owed c.self.inside.owed_events c.args.c r c.self.invariant.room lt c.index_mut-session.ensures.value in
    omega (arith, one.0, needs)

pub release-requires-clause-room : goal.release-requires-clause-room
release-requires-clause-room g c =
    let lt : c.args.c < length c.self.inside.sessions.items = omega arith in
    let r = c.index_mut-session.result.now in
    let needs : opens r.phase ≡ 1 = ap opens c.in-Leaving.is in
    let one = releases_for c.self.inside.entries c.self.inside.events c.self.inside.sessions.items (lock c.self.inside.locks) c.self.inside.owed c.self.inside.owed_events c.args.c r c.self.invariant.room lt c.index_mut-session.ensures.value in
    omega (arith, one.1, needs)

pub invariant_of-self-in-Ok-Done : goal.invariant_of-self-in-Ok-Done
invariant_of-self-in-Ok-Done g c =
    let lt : c.args.c < length c.self.inside.sessions.items = omega arith in
    let r = c.index_mut-session.result.now in
    let at = c.index_mut-session.ensures.value in
    let is = c.in-Leaving.is in
    let needs : ends_in r.phase ≡ 1 = ap ends_in is in
    let needs_event : opens r.phase ≡ 1 = ap opens is in
    let actor = c.actor_of-actor.ensures in
    let len = c.len-in-Ok-Done.ensures in
    let put_len = c.put-in-Ok-Done.ensures.len in
    let put_cap = c.put-in-Ok-Done.ensures.capacity in
    let fit = c.self.invariant.room.entries_fit in
    let fit_events = c.self.invariant.room.events_fit in
    let room = room_for c.self.inside.entries c.self.inside.events c.self.inside.sessions.items (lock c.self.inside.locks) c.self.inside.owed c.self.inside.owed_events c.args.c (c.len-in-Ok-Done.result + 1) r c.self.invariant.room lt at (omega (arith, needs, len)) in
    let one = releases_for c.self.inside.entries c.self.inside.events c.self.inside.sessions.items (lock c.self.inside.locks) c.self.inside.owed c.self.inside.owed_events c.args.c r c.self.invariant.room lt at in
    let freed = c.release.ensures.given in
    let freed_room = freed.room in
    let freed_cap = freed.capacity in
    let new = c.idle.ensures.is in
    let empty : length c.idle.new.session.made.items ≡ 0 = ap length c.idle.ensures.empty in
    let phase : ends_in c.idle.new.session.phase ≡ 0 = ap (λ (s : Session). ends_in s.phase) new in
    let phase_event : opens c.idle.new.session.phase ≡ 0 = ap (λ (s : Session). opens s.phase) new in
    let appended = length-append c.self.inside.entries.items (entry.RolledBack r.txn ∷ []) in
    let place_is = c.len-place.ensures in
    let place : c.len-place.result ≡ length (c.self.inside.entries.items ++ entry.RolledBack r.txn ∷ []) = omega (arith, appended, place_is, put_len) in
    let v = g.S.RowStore.view c.self.inside.store in
    let v1 = g.S.RowStore.view c.undo_one.new.self in
    let v2 = g.S.RowStore.view c.rolled_back-answer.new.self in
    let same = (subst (λ u. Undoes c.actor_of-actor.result c.index_mut-session.result.now.txn.0 0 (g.S.RowStore.view c.self.inside.store) (g.S.RowStore.view c.undo_one.new.self) u) c.in-Ok-Done.field-0-is c.in-Ok-Done.ensures.ok).0.stored in
    let content = stored_after _ _ _ _ c.rolled_back-answer.result c.rolled_back-answer.ensures.ok c.rolled_back-answer.ensures.err ∙ ap (λ d. without_txn d (txn_of r)) same in
    let st = state c.self.inside.entries c.self.inside.events c.self.inside.locks c.self.inside.sessions.items v c.self.inside.tables.entries in
    record {
      holds = rw (c.put-in-Ok-Done.ensures.items, new, freed.events_are) (rolls_back st c.self.inside.last c.args.c c.len-place.result r c.idle.new.session.made v2 c.self.inside.locks c.release.new.locks lt at is c.idle.ensures.empty
          (leaves_done st c.self.inside.last c.args.c r lt at is c.in-true.is ((subst (λ u. IsTrue (is_done u) ↔ (length (changes_in ((g.S.RowStore.view c.self.inside.store).content.changes c.index_mut-session.result.now.txn.0)) ≡ 0)) c.in-Ok-Done.field-0-is c.in-Ok-Done.ensures.done).0 refl) c.self.invariant.holds)
          (closes (txn_of r) (c.args.c + 1) v v2 content (λ b ne. c.rolled_back-answer.ensures.frame.everyone b ∙ c.in-Ok-Done.ensures.frame.others b (λ e. ne (e ∙ actor))) (c.rolled_back-answer.ensures.frame.limit_same ∙ c.in-Ok-Done.ensures.frame.limit_same))
          place refl freed.given freed.order freed.lock_is c.self.invariant.holds);
      room = room_after c.self.inside.entries c.put-in-Ok-Done.new.items c.self.inside.events c.release.new.events c.self.inside.sessions.items (lock c.self.inside.locks) (lock c.release.new.locks)
          c.self.inside.owed c.self.inside.owed_events (c.self.inside.owed - (c.len-in-Ok-Done.result + 1)) (c.self.inside.owed_events - 1) c.args.c r c.idle.new.session c.self.invariant.room lt at
          (omega (arith, needs, len, empty, phase, room.0)) (omega (arith, needs_event, phase_event, one.0)) (omega (arith, put_len, put_cap, room.0, fit)) (omega (arith, freed_room, freed_cap, fit_events, one.0, needs_event));
      woken = c.release.ensures.none;
      spent = spent_idle c.self.inside.sessions.items c.args.c r _ c.idle.new.session lt at c.idle.ensures refl c.self.invariant.spent;
    }

pub invariant_of-self-in-Ok-Onward : goal.invariant_of-self-in-Ok-Onward
invariant_of-self-in-Ok-Onward g c =
    let lt : c.args.c < length c.self.inside.sessions.items = omega arith in
    let actor = c.actor_of-actor.ensures in
    record {
      holds = leaves_pages (state c.self.inside.entries c.self.inside.events c.self.inside.locks c.self.inside.sessions.items (g.S.RowStore.view c.self.inside.store) c.self.inside.tables.entries)
          c.self.inside.last c.args.c c.index_mut-session.result.now (g.S.RowStore.view c.undo_one.new.self) lt c.index_mut-session.ensures.value c.in-Leaving.is (subst (λ u. Undoes c.actor_of-actor.result c.index_mut-session.result.now.txn.0 0 (g.S.RowStore.view c.self.inside.store) (g.S.RowStore.view c.undo_one.new.self) u) c.in-Ok-Onward.field-0-is c.in-Ok-Onward.ensures.ok).0.stored
          (λ b ne. c.in-Ok-Onward.ensures.frame.others b (λ e. ne (e ∙ actor))) c.in-Ok-Onward.ensures.frame.limit_same c.self.invariant.holds;
      room = room_after c.self.inside.entries c.self.inside.entries c.self.inside.events c.self.inside.events c.self.inside.sessions.items (lock c.self.inside.locks) (lock c.self.inside.locks)
          c.self.inside.owed c.self.inside.owed_events c.self.inside.owed c.self.inside.owed_events c.args.c c.index_mut-session.result.now c.index_mut-session.result.now c.self.invariant.room lt c.index_mut-session.ensures.value refl refl c.self.invariant.room.entries_fit c.self.invariant.room.events_fit;
      woken = c.self.invariant.woken;
      spent = spent_kept c.self.inside.sessions.items c.args.c c.index_mut-session.result.now _ lt c.index_mut-session.ensures.value (itself c.index_mut-session.result.now.closed) (itself c.index_mut-session.result.now.spans) (itself c.index_mut-session.result.now.begun) c.self.invariant.spent;
    }

pub invariant_of-self-in-Ok-UndidContainer : goal.invariant_of-self-in-Ok-UndidContainer
invariant_of-self-in-Ok-UndidContainer g c =
    let lt : c.args.c < length c.self.inside.sessions.items = omega arith in
    let actor = c.actor_of-actor.ensures in
    record {
      holds = leaves_container (state c.self.inside.entries c.self.inside.events c.self.inside.locks c.self.inside.sessions.items (g.S.RowStore.view c.self.inside.store) c.self.inside.tables.entries)
          c.self.inside.last c.args.c c.index_mut-session.result.now (g.S.RowStore.view c.undo_one.new.self) lt c.index_mut-session.ensures.value c.in-Leaving.is c.in-true.is
          (subst (λ u. Undoes c.actor_of-actor.result c.index_mut-session.result.now.txn.0 0 (g.S.RowStore.view c.self.inside.store) (g.S.RowStore.view c.undo_one.new.self) u) c.in-Ok-UndidContainer.field-0-is c.in-Ok-UndidContainer.ensures.ok).0
          (λ b ne. c.in-Ok-UndidContainer.ensures.frame.others b (λ e. ne (e ∙ actor))) c.in-Ok-UndidContainer.ensures.frame.limit_same c.self.invariant.holds;
      room = room_after c.self.inside.entries c.self.inside.entries c.self.inside.events c.self.inside.events c.self.inside.sessions.items (lock c.self.inside.locks) (lock c.self.inside.locks)
          c.self.inside.owed c.self.inside.owed_events c.self.inside.owed c.self.inside.owed_events c.args.c c.index_mut-session.result.now c.index_mut-session.result.now c.self.invariant.room lt c.index_mut-session.ensures.value refl refl c.self.invariant.room.entries_fit c.self.invariant.room.events_fit;
      woken = c.self.invariant.woken;
      spent = spent_kept c.self.inside.sessions.items c.args.c c.index_mut-session.result.now _ lt c.index_mut-session.ensures.value (itself c.index_mut-session.result.now.closed) (itself c.index_mut-session.result.now.spans) (itself c.index_mut-session.result.now.begun) c.self.invariant.spent;
    }

pub invariant_of-self-in-Ok-Held : goal.invariant_of-self-in-Ok-Held
invariant_of-self-in-Ok-Held g c =
    let lt : c.args.c < length c.self.inside.sessions.items = omega arith in
    let actor = c.actor_of-actor.ensures in
    record {
      holds = leaves_pages (state c.self.inside.entries c.self.inside.events c.self.inside.locks c.self.inside.sessions.items (g.S.RowStore.view c.self.inside.store) c.self.inside.tables.entries)
          c.self.inside.last c.args.c c.index_mut-session.result.now (g.S.RowStore.view c.let_go.new.self) lt c.index_mut-session.ensures.value c.in-Leaving.is (c.let_go.ensures.same ∙ (subst (λ u. Undoes c.actor_of-actor.result c.index_mut-session.result.now.txn.0 0 (g.S.RowStore.view c.self.inside.store) (g.S.RowStore.view c.undo_one.new.self) u) c.in-Ok-Held.field-0-is c.in-Ok-Held.ensures.ok).0.stored)
          (λ b ne. c.let_go.ensures.frame.others b (λ e. ne (e ∙ actor)) ∙ c.in-Ok-Held.ensures.frame.others b (λ e. ne (e ∙ actor))) (c.let_go.ensures.frame.limit_same ∙ c.in-Ok-Held.ensures.frame.limit_same) c.self.invariant.holds;
      room = room_after c.self.inside.entries c.self.inside.entries c.self.inside.events c.self.inside.events c.self.inside.sessions.items (lock c.self.inside.locks) (lock c.self.inside.locks)
          c.self.inside.owed c.self.inside.owed_events c.self.inside.owed c.self.inside.owed_events c.args.c c.index_mut-session.result.now c.index_mut-session.result.now c.self.invariant.room lt c.index_mut-session.ensures.value refl refl c.self.invariant.room.entries_fit c.self.invariant.room.events_fit;
      woken = c.self.invariant.woken;
      spent = spent_kept c.self.inside.sessions.items c.args.c c.index_mut-session.result.now _ lt c.index_mut-session.ensures.value (itself c.index_mut-session.result.now.closed) (itself c.index_mut-session.result.now.spans) (itself c.index_mut-session.result.now.begun) c.self.invariant.spent;
    }

pub invariant_of-self-in-Err : goal.invariant_of-self-in-Err
invariant_of-self-in-Err g c =
    let lt : c.args.c < length c.self.inside.sessions.items = omega arith in
    let actor = c.actor_of-actor.ensures in
    record {
      holds = leaves_pages (state c.self.inside.entries c.self.inside.events c.self.inside.locks c.self.inside.sessions.items (g.S.RowStore.view c.self.inside.store) c.self.inside.tables.entries)
          c.self.inside.last c.args.c c.index_mut-session.result.now (g.S.RowStore.view c.undo_one.new.self) lt c.index_mut-session.ensures.value c.in-Leaving.is
          (refused_content _ _ _ _ c.in-Err.answer c.in-Err.ensures.err) (λ b ne. c.in-Err.ensures.frame.others b (λ e. ne (e ∙ actor))) c.in-Err.ensures.frame.limit_same c.self.invariant.holds;
      room = room_after c.self.inside.entries c.self.inside.entries c.self.inside.events c.self.inside.events c.self.inside.sessions.items (lock c.self.inside.locks) (lock c.self.inside.locks)
          c.self.inside.owed c.self.inside.owed_events c.self.inside.owed c.self.inside.owed_events c.args.c c.index_mut-session.result.now c.index_mut-session.result.now c.self.invariant.room lt c.index_mut-session.ensures.value refl refl c.self.invariant.room.entries_fit c.self.invariant.room.events_fit;
      woken = c.self.invariant.woken;
      spent = spent_kept c.self.inside.sessions.items c.args.c c.index_mut-session.result.now _ lt c.index_mut-session.ensures.value (itself c.index_mut-session.result.now.closed) (itself c.index_mut-session.result.now.spans) (itself c.index_mut-session.result.now.begun) c.self.invariant.spent;
    }

pub returns-in-Ok-UndidContainer-clause-paces : goal.returns-in-Ok-UndidContainer-clause-paces
returns-in-Ok-UndidContainer-clause-paces g c =
    paces_inside g.S.RowStore.view c.args.c _ _ _ _ _ _ _ c.args.self.now _ _ _ c.self.view_is
    (paces_unmade c.args.c c.actor_of-actor.result c.index_mut-session.result.now.txn.0 0 _ c.self.inside.sessions.items c.index_mut-session.result.now _ _ _ _ refl
    (subst (λ u. Undoes c.actor_of-actor.result c.index_mut-session.result.now.txn.0 0 (g.S.RowStore.view c.self.inside.store) (g.S.RowStore.view c.undo_one.new.self) u) c.in-Ok-UndidContainer.field-0-is c.in-Ok-UndidContainer.ensures.ok)
    (acts_frame _ _ _ _ c.actor_of-actor.ensures c.in-Ok-UndidContainer.ensures.frame))

pub returns-in-Err-clause-paces : goal.returns-in-Err-clause-paces
returns-in-Err-clause-paces g c =
    paces_stopped g.S.RowStore.view c.args.c c.halt.result c.self.inside.sessions.items _ _ _ _ c.args.self.now c.halt.new.self _ _ _ c.self.view_is c.halt.ensures.nexts c.halt.ensures.entries c.halt.ensures.store c.halt.ensures.halted
    (acts_frame _ _ _ _ c.actor_of-actor.ensures c.in-Err.ensures.frame)

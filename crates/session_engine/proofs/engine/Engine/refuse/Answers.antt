use Rattle.std.proofs.Common.{◌≡◌, ◌≢◌, ◌+◌, ◌-◌, ◌<◌, [], ◌∷◌, length, refl, sym, ◌∙◌, ap, subst, arith, length-append}
use Rattle.lock_manager.specs.Table.{lock}
use Rattle.std.specs.Prelude.{IsTrue, ◌↔◌}
use Rattle.store_api.specs.declared.slot.Item.TheVariants.{Changed}
use Rattle.store_api.specs.Effects.{Undoes, is_done}
use Rattle.store_api.specs.View.{changes_in}
use Rattle.session_engine.specs.State.{ends_in, opens}
use Rattle.session_engine.specs.Engine.{state}
use Rattle.session_engine.proofs.CountLemmas.{may_hold}
use Rattle.session_engine.proofs.RoomLemmas.{room_for, room_after}
use Rattle.session_engine.proofs.StepLemmas.{refused_content}
use Rattle.session_engine.proofs.ContainerLemmas.{refuses_container}
use Rattle.session_engine.proofs.EndLemmas.{undoes_statement, refuses_pages}
use Rattle.session_engine.proofs.TellLemmas.{refusal_of, refusal_mark, refusal_open, tells_refusal, told_ends, told_opens, not_done}
use Rattle.session_engine.proofs.SpentLemmas.{itself, spent_kept}
use Rattle.session_engine.proofs.PaceLemmas.{acts_frame, paces_inside, paces_stopped, paces_unmade}
use Rattle.session_engine.proofs.engine.Engine.refuse.Goals as goal

pub undo_one-requires-clause-few : goal.undo_one-requires-clause-few
undo_one-requires-clause-few g c =
    may_hold (state c.self.inside.entries c.self.inside.events c.self.inside.locks c.self.inside.sessions.items (g.S.RowStore.view c.self.inside.store) c.self.inside.tables.entries) c.self.inside.last _ c.self.invariant.holds

pub put-requires : goal.put-requires
put-requires g c =
    let lt : c.args.c < length c.self.inside.sessions.items = omega arith in
    let needs : ends_in c.index_mut-session.result.now.phase ≡ 2 = ap ends_in c.in-Refusing.is in
    let room = room_for c.self.inside.entries c.self.inside.events c.self.inside.sessions.items (lock c.self.inside.locks) c.self.inside.owed c.self.inside.owed_events c.args.c 1 c.index_mut-session.result.now c.self.invariant.room lt c.index_mut-session.ensures.value (omega (arith, needs)) in
    omega (arith, room.1)

pub overflow_sub-self : goal.overflow_sub-self
overflow_sub-self g c =
    let lt : c.args.c < length c.self.inside.sessions.items = omega arith in
    let needs : ends_in c.index_mut-session.result.now.phase ≡ 2 = ap ends_in c.in-Refusing.is in
    (room_for c.self.inside.entries c.self.inside.events c.self.inside.sessions.items (lock c.self.inside.locks) c.self.inside.owed c.self.inside.owed_events c.args.c 1 c.index_mut-session.result.now c.self.invariant.room lt c.index_mut-session.ensures.value (omega (arith, needs))).0

pub invariant_of-self : goal.invariant_of-self
invariant_of-self g c =
    let lt : c.args.c < length c.self.inside.sessions.items = omega arith in
    let r = c.index_mut-session.result.now in
    let at = c.index_mut-session.ensures.value in
    let is = c.in-Refusing.is in
    let needs : ends_in r.phase ≡ 2 = ap ends_in is in
    let actor = c.actor_of-actor.ensures in
    let with = refusal_of (state c.self.inside.entries c.self.inside.events c.self.inside.locks c.self.inside.sessions.items (g.S.RowStore.view c.self.inside.store) c.self.inside.tables.entries)
    c.self.inside.last c.args.c c.index_mut-session.result.now lt c.index_mut-session.ensures.value c.in-Refusing.is c.self.invariant.holds in
    let back = (subst (λ u. Undoes c.actor_of-actor.result c.index_mut-session.result.now.txn.0 c.index_mut-session.result.now.mark (g.S.RowStore.view c.self.inside.store) (g.S.RowStore.view c.undo_one.new.self) u) c.in-Ok-Undid.field-0-is c.in-Ok-Undid.ensures.ok).0 in
    let popped = c.in-Some.ensures.items in
    let done = subst (λ u. IsTrue (is_done u) ↔ (length (changes_in ((g.S.RowStore.view c.self.inside.store).content.changes r.txn.0)) ≡ r.mark)) c.in-Ok-Undid.field-0-is c.in-Ok-Undid.ensures.done in
    let more_than : length (Changed c.in-Ok-Undid.table c.in-Ok-Undid._rid back.0 ∷ back.1.rest) ≢ r.mark = λ same. not_done (done.1 (ap (λ i. length (changes_in i)) back.1.newest ∙ same)) in
    let more = length-append c.pop.new.self.items (c.in-Some.did ∷ []) in
    let fewer : length r.made.items ≡ length c.pop.new.self.items + 1 = ap length popped ∙ more in
    let put_len = c.put.ensures.len in
    let put_cap = c.put.ensures.capacity in
    let fit = c.self.invariant.room.entries_fit in
    let room = room_for c.self.inside.entries c.self.inside.events c.self.inside.sessions.items (lock c.self.inside.locks) c.self.inside.owed c.self.inside.owed_events c.args.c 1 r c.self.invariant.room lt at (omega (arith, needs)) in
    record {
      holds = rw (c.put.ensures.items, c.unlist.ensures) (undoes_statement (state c.self.inside.entries c.self.inside.events c.self.inside.locks c.self.inside.sessions.items (g.S.RowStore.view c.self.inside.store) c.self.inside.tables.entries)
          c.self.inside.last c.args.c r c.pop.new.self (g.S.RowStore.view c.undo_one.new.self) with.why c.in-Some.did _ _ back.0 back.1.rest lt at is with.planned popped back.1.newest more_than back.1.stored.stored
          (λ b ne. c.in-Ok-Undid.ensures.frame.others b (λ e. ne (e ∙ actor))) c.in-Ok-Undid.ensures.frame.limit_same c.self.invariant.holds);
      room = room_after c.self.inside.entries c.put.new.items c.self.inside.events c.self.inside.events c.self.inside.sessions.items (lock c.self.inside.locks) (lock c.self.inside.locks)
          c.self.inside.owed c.self.inside.owed_events (c.self.inside.owed - 1) c.self.inside.owed_events c.args.c r _ c.self.invariant.room lt at
          (omega (arith, fewer, room.0)) (omega arith) (omega (arith, put_len, put_cap, room.0, fit)) c.self.invariant.room.events_fit;
      woken = c.self.invariant.woken;
      spent = spent_kept c.self.inside.sessions.items c.args.c r _ lt at (itself r.closed) (itself r.spans) (itself r.begun) c.self.invariant.spent;
    }

pub undo_one-requires-clause-begun : goal.undo_one-requires-clause-begun
undo_one-requires-clause-begun g c =
    let lt : c.args.c < length c.self.inside.sessions.items = omega arith in
    refusal_open (state c.self.inside.entries c.self.inside.events c.self.inside.locks c.self.inside.sessions.items (g.S.RowStore.view c.self.inside.store) c.self.inside.tables.entries)
    c.self.inside.last c.args.c c.index_mut-session.result.now lt c.index_mut-session.ensures.value c.in-Refusing.is c.self.invariant.holds

pub undo_one-requires-clause-within : goal.undo_one-requires-clause-within
undo_one-requires-clause-within g c =
    let lt : c.args.c < length c.self.inside.sessions.items = omega arith in
    refusal_mark (state c.self.inside.entries c.self.inside.events c.self.inside.locks c.self.inside.sessions.items (g.S.RowStore.view c.self.inside.store) c.self.inside.tables.entries)
    c.self.inside.last c.args.c c.index_mut-session.result.now lt c.index_mut-session.ensures.value c.in-Refusing.is c.self.invariant.holds

pub invariant_of-self-in-Ok-Onward : goal.invariant_of-self-in-Ok-Onward
invariant_of-self-in-Ok-Onward g c =
    let lt : c.args.c < length c.self.inside.sessions.items = omega arith in
    let actor = c.actor_of-actor.ensures in
    let with = refusal_of (state c.self.inside.entries c.self.inside.events c.self.inside.locks c.self.inside.sessions.items (g.S.RowStore.view c.self.inside.store) c.self.inside.tables.entries)
    c.self.inside.last c.args.c c.index_mut-session.result.now lt c.index_mut-session.ensures.value c.in-Refusing.is c.self.invariant.holds in
    record {
      holds = refuses_pages (state c.self.inside.entries c.self.inside.events c.self.inside.locks c.self.inside.sessions.items (g.S.RowStore.view c.self.inside.store) c.self.inside.tables.entries)
          c.self.inside.last c.args.c c.index_mut-session.result.now with.why (g.S.RowStore.view c.undo_one.new.self) lt c.index_mut-session.ensures.value c.in-Refusing.is with.planned (subst (λ u. Undoes c.actor_of-actor.result c.index_mut-session.result.now.txn.0 c.index_mut-session.result.now.mark (g.S.RowStore.view c.self.inside.store) (g.S.RowStore.view c.undo_one.new.self) u) c.in-Ok-Onward.field-0-is c.in-Ok-Onward.ensures.ok).0.stored
          (λ b ne. c.in-Ok-Onward.ensures.frame.others b (λ e. ne (e ∙ actor))) c.in-Ok-Onward.ensures.frame.limit_same c.self.invariant.holds;
      room = room_after c.self.inside.entries c.self.inside.entries c.self.inside.events c.self.inside.events c.self.inside.sessions.items (lock c.self.inside.locks) (lock c.self.inside.locks)
          c.self.inside.owed c.self.inside.owed_events c.self.inside.owed c.self.inside.owed_events c.args.c c.index_mut-session.result.now c.index_mut-session.result.now c.self.invariant.room lt c.index_mut-session.ensures.value refl refl c.self.invariant.room.entries_fit c.self.invariant.room.events_fit;
      woken = c.self.invariant.woken;
      spent = spent_kept c.self.inside.sessions.items c.args.c c.index_mut-session.result.now _ lt c.index_mut-session.ensures.value (itself c.index_mut-session.result.now.closed) (itself c.index_mut-session.result.now.spans) (itself c.index_mut-session.result.now.begun) c.self.invariant.spent;
    }

pub invariant_of-self-in-Ok-UndidContainer : goal.invariant_of-self-in-Ok-UndidContainer
invariant_of-self-in-Ok-UndidContainer g c =
    let lt : c.args.c < length c.self.inside.sessions.items = omega arith in
    let actor = c.actor_of-actor.ensures in
    let with = refusal_of (state c.self.inside.entries c.self.inside.events c.self.inside.locks c.self.inside.sessions.items (g.S.RowStore.view c.self.inside.store) c.self.inside.tables.entries)
    c.self.inside.last c.args.c c.index_mut-session.result.now lt c.index_mut-session.ensures.value c.in-Refusing.is c.self.invariant.holds in
    record {
      holds = refuses_container (state c.self.inside.entries c.self.inside.events c.self.inside.locks c.self.inside.sessions.items (g.S.RowStore.view c.self.inside.store) c.self.inside.tables.entries)
          c.self.inside.last c.args.c c.index_mut-session.result.now (g.S.RowStore.view c.undo_one.new.self) with.why lt c.index_mut-session.ensures.value c.in-Refusing.is with.planned
          (subst (λ u. Undoes c.actor_of-actor.result c.index_mut-session.result.now.txn.0 c.index_mut-session.result.now.mark (g.S.RowStore.view c.self.inside.store) (g.S.RowStore.view c.undo_one.new.self) u) c.in-Ok-UndidContainer.field-0-is c.in-Ok-UndidContainer.ensures.ok).0
          (λ same. not_done ((subst (λ u. IsTrue (is_done u) ↔ (length (changes_in ((g.S.RowStore.view c.self.inside.store).content.changes c.index_mut-session.result.now.txn.0)) ≡ c.index_mut-session.result.now.mark)) c.in-Ok-UndidContainer.field-0-is c.in-Ok-UndidContainer.ensures.done).1 same))
          (λ b ne. c.in-Ok-UndidContainer.ensures.frame.others b (λ e. ne (e ∙ actor))) c.in-Ok-UndidContainer.ensures.frame.limit_same c.self.invariant.holds;
      room = room_after c.self.inside.entries c.self.inside.entries c.self.inside.events c.self.inside.events c.self.inside.sessions.items (lock c.self.inside.locks) (lock c.self.inside.locks)
          c.self.inside.owed c.self.inside.owed_events c.self.inside.owed c.self.inside.owed_events c.args.c c.index_mut-session.result.now c.index_mut-session.result.now c.self.invariant.room lt c.index_mut-session.ensures.value refl refl c.self.invariant.room.entries_fit c.self.invariant.room.events_fit;
      woken = c.self.invariant.woken;
      spent = spent_kept c.self.inside.sessions.items c.args.c c.index_mut-session.result.now _ lt c.index_mut-session.ensures.value (itself c.index_mut-session.result.now.closed) (itself c.index_mut-session.result.now.spans) (itself c.index_mut-session.result.now.begun) c.self.invariant.spent;
    }

pub invariant_of-self-in-Ok-Held : goal.invariant_of-self-in-Ok-Held
invariant_of-self-in-Ok-Held g c =
    let lt : c.args.c < length c.self.inside.sessions.items = omega arith in
    let actor = c.actor_of-actor.ensures in
    let with = refusal_of (state c.self.inside.entries c.self.inside.events c.self.inside.locks c.self.inside.sessions.items (g.S.RowStore.view c.self.inside.store) c.self.inside.tables.entries)
    c.self.inside.last c.args.c c.index_mut-session.result.now lt c.index_mut-session.ensures.value c.in-Refusing.is c.self.invariant.holds in
    record {
      holds = refuses_pages (state c.self.inside.entries c.self.inside.events c.self.inside.locks c.self.inside.sessions.items (g.S.RowStore.view c.self.inside.store) c.self.inside.tables.entries)
          c.self.inside.last c.args.c c.index_mut-session.result.now with.why (g.S.RowStore.view c.let_go.new.self) lt c.index_mut-session.ensures.value c.in-Refusing.is with.planned (c.let_go.ensures.same ∙ (subst (λ u. Undoes c.actor_of-actor.result c.index_mut-session.result.now.txn.0 c.index_mut-session.result.now.mark (g.S.RowStore.view c.self.inside.store) (g.S.RowStore.view c.undo_one.new.self) u) c.in-Ok-Held.field-0-is c.in-Ok-Held.ensures.ok).0.stored)
          (λ b ne. c.let_go.ensures.frame.others b (λ e. ne (e ∙ actor)) ∙ c.in-Ok-Held.ensures.frame.others b (λ e. ne (e ∙ actor))) (c.let_go.ensures.frame.limit_same ∙ c.in-Ok-Held.ensures.frame.limit_same) c.self.invariant.holds;
      room = room_after c.self.inside.entries c.self.inside.entries c.self.inside.events c.self.inside.events c.self.inside.sessions.items (lock c.self.inside.locks) (lock c.self.inside.locks)
          c.self.inside.owed c.self.inside.owed_events c.self.inside.owed c.self.inside.owed_events c.args.c c.index_mut-session.result.now c.index_mut-session.result.now c.self.invariant.room lt c.index_mut-session.ensures.value refl refl c.self.invariant.room.entries_fit c.self.invariant.room.events_fit;
      woken = c.self.invariant.woken;
      spent = spent_kept c.self.inside.sessions.items c.args.c c.index_mut-session.result.now _ lt c.index_mut-session.ensures.value (itself c.index_mut-session.result.now.closed) (itself c.index_mut-session.result.now.spans) (itself c.index_mut-session.result.now.begun) c.self.invariant.spent;
    }

pub invariant_of-self-in-Err : goal.invariant_of-self-in-Err
invariant_of-self-in-Err g c =
    let lt : c.args.c < length c.self.inside.sessions.items = omega arith in
    let actor = c.actor_of-actor.ensures in
    let with = refusal_of (state c.self.inside.entries c.self.inside.events c.self.inside.locks c.self.inside.sessions.items (g.S.RowStore.view c.self.inside.store) c.self.inside.tables.entries)
    c.self.inside.last c.args.c c.index_mut-session.result.now lt c.index_mut-session.ensures.value c.in-Refusing.is c.self.invariant.holds in
    record {
      holds = refuses_pages (state c.self.inside.entries c.self.inside.events c.self.inside.locks c.self.inside.sessions.items (g.S.RowStore.view c.self.inside.store) c.self.inside.tables.entries)
          c.self.inside.last c.args.c c.index_mut-session.result.now with.why (g.S.RowStore.view c.undo_one.new.self) lt c.index_mut-session.ensures.value c.in-Refusing.is with.planned
          (refused_content _ _ _ _ c.in-Err.answer c.in-Err.ensures.err) (λ b ne. c.in-Err.ensures.frame.others b (λ e. ne (e ∙ actor))) c.in-Err.ensures.frame.limit_same c.self.invariant.holds;
      room = room_after c.self.inside.entries c.self.inside.entries c.self.inside.events c.self.inside.events c.self.inside.sessions.items (lock c.self.inside.locks) (lock c.self.inside.locks)
          c.self.inside.owed c.self.inside.owed_events c.self.inside.owed c.self.inside.owed_events c.args.c c.index_mut-session.result.now c.index_mut-session.result.now c.self.invariant.room lt c.index_mut-session.ensures.value refl refl c.self.invariant.room.entries_fit c.self.invariant.room.events_fit;
      woken = c.self.invariant.woken;
      spent = spent_kept c.self.inside.sessions.items c.args.c c.index_mut-session.result.now _ lt c.index_mut-session.ensures.value (itself c.index_mut-session.result.now.closed) (itself c.index_mut-session.result.now.spans) (itself c.index_mut-session.result.now.begun) c.self.invariant.spent;
    }

pub put-requires-in-Refuse : goal.put-requires-in-Refuse
put-requires-in-Refuse g c =
    let lt : c.args.c < length c.self.inside.sessions.items = omega arith in
    let needs : ends_in c.index_mut-session.result.now.phase ≡ 2 = ap ends_in c.in-Refusing.is in
    let room = room_for c.self.inside.entries c.self.inside.events c.self.inside.sessions.items (lock c.self.inside.locks) c.self.inside.owed c.self.inside.owed_events c.args.c 1 c.index_mut-session.result.now c.self.invariant.room lt c.index_mut-session.ensures.value (omega (arith, needs)) in
    omega (arith, room.1)

pub overflow_sub-self-in-Refuse : goal.overflow_sub-self-in-Refuse
overflow_sub-self-in-Refuse g c =
    let lt : c.args.c < length c.self.inside.sessions.items = omega arith in
    let needs : ends_in c.index_mut-session.result.now.phase ≡ 2 = ap ends_in c.in-Refusing.is in
    (room_for c.self.inside.entries c.self.inside.events c.self.inside.sessions.items (lock c.self.inside.locks) c.self.inside.owed c.self.inside.owed_events c.args.c 1 c.index_mut-session.result.now c.self.invariant.room lt c.index_mut-session.ensures.value (omega (arith, needs))).0

pub invariant_of-self-in-Refuse : goal.invariant_of-self-in-Refuse
invariant_of-self-in-Refuse g c =
    let lt : c.args.c < length c.self.inside.sessions.items = omega arith in
    let r = c.index_mut-session.result.now in
    let at = c.index_mut-session.ensures.value in
    let is = c.in-Refusing.is in
    let needs : ends_in r.phase ≡ 2 = ap ends_in is in
    let needs_event : opens r.phase ≡ 1 = ap opens is in
    let actor = c.actor_of-actor.ensures in
    let put_len = c.put-in-Refuse.ensures.len in
    let put_cap = c.put-in-Refuse.ensures.capacity in
    let fit = c.self.invariant.room.entries_fit in
    let same = (subst (λ u. Undoes c.actor_of-actor.result c.index_mut-session.result.now.txn.0 c.index_mut-session.result.now.mark (g.S.RowStore.view c.self.inside.store) (g.S.RowStore.view c.undo_one.new.self) u) c.in-Ok-Done.field-0-is c.in-Ok-Done.ensures.ok).0.stored in
    let done = (subst (λ u. IsTrue (is_done u) ↔ (length (changes_in ((g.S.RowStore.view c.self.inside.store).content.changes r.txn.0)) ≡ r.mark)) c.in-Ok-Done.field-0-is c.in-Ok-Done.ensures.done).0 refl in
    let follows = c.phase_refused-session.ensures in
    let left : ends_in c.phase_refused-session.result ≡ 1 = told_ends c.phase_refused-session.result c.in-Refuse.why r.automatic r.first follows in
    let left_event : opens c.phase_refused-session.result ≡ 1 = told_opens c.phase_refused-session.result _ follows in
    let room = room_for c.self.inside.entries c.self.inside.events c.self.inside.sessions.items (lock c.self.inside.locks) c.self.inside.owed c.self.inside.owed_events c.args.c 1 r c.self.invariant.room lt at (omega (arith, needs)) in
    record {
      holds = rw c.put-in-Refuse.ensures.items (tells_refusal (state c.self.inside.entries c.self.inside.events c.self.inside.locks c.self.inside.sessions.items (g.S.RowStore.view c.self.inside.store) c.self.inside.tables.entries)
          c.self.inside.last c.args.c r c.in-Refuse.why (g.S.RowStore.view c.undo_one.new.self) c.phase_refused-session.result c.replace-planned.new.dest lt at is (sym c.replace-planned.ensures.value ∙ c.in-Refuse.is) done same
          (λ b ne. c.in-Ok-Done.ensures.frame.others b (λ e. ne (e ∙ actor))) c.in-Ok-Done.ensures.frame.limit_same follows c.self.invariant.holds);
      room = room_after c.self.inside.entries c.put-in-Refuse.new.items c.self.inside.events c.self.inside.events c.self.inside.sessions.items (lock c.self.inside.locks) (lock c.self.inside.locks)
          c.self.inside.owed c.self.inside.owed_events (c.self.inside.owed - 1) c.self.inside.owed_events c.args.c r _ c.self.invariant.room lt at
          (omega (arith, needs, left, room.0)) (omega (arith, needs_event, left_event)) (omega (arith, put_len, put_cap, room.0, fit)) c.self.invariant.room.events_fit;
      woken = c.self.invariant.woken;
      spent = spent_kept c.self.inside.sessions.items c.args.c r _ lt at (itself r.closed) (itself r.spans) (itself r.begun) c.self.invariant.spent;
    }

pub returns-in-Ok-UndidContainer-clause-paces : goal.returns-in-Ok-UndidContainer-clause-paces
returns-in-Ok-UndidContainer-clause-paces g c =
    paces_inside g.S.RowStore.view c.args.c _ _ _ _ _ _ _ c.args.self.now _ _ _ c.self.view_is
    (paces_unmade c.args.c c.actor_of-actor.result c.index_mut-session.result.now.txn.0 c.index_mut-session.result.now.mark _ c.self.inside.sessions.items c.index_mut-session.result.now _ _ _ _ refl
    (subst (λ u. Undoes c.actor_of-actor.result c.index_mut-session.result.now.txn.0 c.index_mut-session.result.now.mark (g.S.RowStore.view c.self.inside.store) (g.S.RowStore.view c.undo_one.new.self) u) c.in-Ok-UndidContainer.field-0-is c.in-Ok-UndidContainer.ensures.ok)
    (acts_frame _ _ _ _ c.actor_of-actor.ensures c.in-Ok-UndidContainer.ensures.frame))

pub returns-in-Err-clause-paces : goal.returns-in-Err-clause-paces
returns-in-Err-clause-paces g c =
    paces_stopped g.S.RowStore.view c.args.c c.halt.result c.self.inside.sessions.items _ _ _ _ c.args.self.now c.halt.new.self _ _ _ c.self.view_is c.halt.ensures.nexts c.halt.ensures.entries c.halt.ensures.store c.halt.ensures.halted
    (acts_frame _ _ _ _ c.actor_of-actor.ensures c.in-Err.ensures.frame)

use Rattle.std.proofs.Common.{◌-◌, ◌<◌, length, refl, sym, ◌∙◌, ap, subst, arith, false}
use Rattle.lock_manager.specs.Table.{lock}
use Rattle.lock_modes.specs.declared.event.LockEvent.TheVariants.{Granted, Queued}
use Rattle.lock_modes.specs.Lock.{has_grant, request, apply}
use Rattle.lock_modes.specs.Proper.{IsRefused, MayHave}
use Rattle.session_engine.specs.Engine.{state}
use Rattle.session_engine.proofs.RoomLemmas.{room_for, room_after}
use Rattle.session_engine.proofs.WantLemmas.{asks_at_once, asks_and_waits, wakes, starves, unblocked_idle, wanted_ends, queue_longer, queue_no_longer}
use Rattle.session_engine.specs.declared.session.Session.{Session}
use Rattle.session_engine.proofs.SpentLemmas.{itself, spent_kept}
use Rattle.session_engine.proofs.PaceLemmas.{acts_none, asks_inside, paces_inside, paces_starved, paces_woken}
use Rattle.session_engine.proofs.engine.Engine.ask.Goals as goal

pub invariant_of-self-then-session : goal.invariant_of-self-then-session
invariant_of-self-then-session g c =
    let lt : c.args.c < length c.self.inside.sessions.items = omega arith in
    let st = state c.self.inside.entries c.self.inside.events c.self.inside.locks c.self.inside.sessions.items (g.S.RowStore.view c.self.inside.store) c.self.inside.tables.entries in
    let r = c.index_mut-session.result.now in
    let at = c.index_mut-session.ensures.value in
    let wants = sym c.wanted.ensures ∙ c.in-Some.is in
    let ends = wanted_ends r.phase r.order r.plan c.in-Some.name c.in-Some.mode wants in
    let idle = unblocked_idle (lock c.self.inside.locks) r.txn c.in_default-blocker.ensures.edge c.laws.ensures.settled in
    record {
      holds = rw c.behind-session.ensures (wakes st c.self.inside.last c.args.c r c.in-Some.name c.in-Some.mode lt at wants c.if-session.true idle c.self.invariant.holds);
      room = rw c.behind-session.ensures (room_after c.self.inside.entries c.self.inside.entries c.self.inside.events c.self.inside.events c.self.inside.sessions.items (lock c.self.inside.locks) (lock c.self.inside.locks)
          c.self.inside.owed c.self.inside.owed_events c.self.inside.owed c.self.inside.owed_events c.args.c r _ c.self.invariant.room lt at
          (omega (arith, ends.0, ends.2)) (omega (arith, ends.1, ends.3)) c.self.invariant.room.entries_fit c.self.invariant.room.events_fit);
      woken = c.self.invariant.woken;
      spent = spent_kept c.self.inside.sessions.items c.args.c r _ lt at (itself r.closed) (itself r.spans) (itself r.begun) c.self.invariant.spent;
    }

pub overflow_sub-self : goal.overflow_sub-self
overflow_sub-self g c =
    let lt : c.args.c < length c.self.inside.sessions.items = omega arith in
    let r = c.index_mut-session.result.now in
    let ends = wanted_ends r.phase r.order r.plan c.in-Some.name c.in-Some.mode (sym c.wanted.ensures ∙ c.in-Some.is) in
    (room_for c.self.inside.entries c.self.inside.events c.self.inside.sessions.items (lock c.self.inside.locks) c.self.inside.owed c.self.inside.owed_events c.args.c 1 r c.self.invariant.room lt c.index_mut-session.ensures.value (omega (arith, ends.0))).0

pub invariant_of-self-in_default-room : goal.invariant_of-self-in_default-room
invariant_of-self-in_default-room g c =
    let lt : c.args.c < length c.self.inside.sessions.items = omega arith in
    let st = state c.self.inside.entries c.self.inside.events c.self.inside.locks c.self.inside.sessions.items (g.S.RowStore.view c.self.inside.store) c.self.inside.tables.entries in
    let r = c.index_mut-session.result.now in
    let at = c.index_mut-session.ensures.value in
    let wants = sym c.wanted.ensures ∙ c.in-Some.is in
    let ends = wanted_ends r.phase r.order r.plan c.in-Some.name c.in-Some.mode wants in
    let kept = c.room_to_ask-room.ensures.kept in
    let fit = c.self.invariant.room.entries_fit in
    let fit_events = c.self.invariant.room.events_fit in
    let one = (room_for c.self.inside.entries c.self.inside.events c.self.inside.sessions.items (lock c.self.inside.locks) c.self.inside.owed c.self.inside.owed_events c.args.c 1 r c.self.invariant.room lt at (omega (arith, ends.0))).0 in
    record {
      holds = rw (c.room_to_ask-room.ensures.events, c.room_to_ask-room.ensures.same, c.starve.ensures) (starves st c.self.inside.last c.args.c r c.in-Some.name c.in-Some.mode lt at wants c.if-session.false c.self.invariant.holds);
      room = rw (c.room_to_ask-room.ensures.same, c.starve.ensures) (room_after c.self.inside.entries c.self.inside.entries c.self.inside.events c.room_to_ask-room.new.events c.self.inside.sessions.items (lock c.self.inside.locks) (lock c.self.inside.locks)
          c.self.inside.owed c.self.inside.owed_events (c.self.inside.owed - 1) c.self.inside.owed_events c.args.c r _ c.self.invariant.room lt at
          (omega (arith, ends.0, one)) (omega (arith, ends.1)) (omega (arith, fit)) (omega (arith, kept.0, kept.1, fit_events)));
      woken = c.room_to_ask-room.ensures.woken ∙ c.self.invariant.woken;
      spent = spent_kept c.self.inside.sessions.items c.args.c r c.starve.new.session lt at (ap (λ (x : Session). x.closed) c.starve.ensures) (ap (λ (x : Session). x.spans) c.starve.ensures) (ap (λ (x : Session). x.begun) c.starve.ensures) c.self.invariant.spent;
    }

pub invariant_of-self-in-Granted : goal.invariant_of-self-in-Granted
invariant_of-self-in-Granted g c =
    let lt : c.args.c < length c.self.inside.sessions.items = omega arith in
    let st = state c.self.inside.entries c.self.inside.events c.self.inside.locks c.self.inside.sessions.items (g.S.RowStore.view c.self.inside.store) c.self.inside.tables.entries in
    let r = c.index_mut-session.result.now in
    let at = c.index_mut-session.ensures.value in
    let wants = sym c.wanted.ensures ∙ c.in-Some.is in
    let ends = wanted_ends r.phase r.order r.plan c.in-Some.name c.in-Some.mode wants in
    let room = c.in-Ok.ensures.room in
    let fit = c.self.invariant.room.entries_fit in
    let waiters = c.waiters-waiters.ensures.exact in
    let shorter = queue_no_longer (lock c.self.inside.locks) r.txn c.in-Some.name c.in-Some.mode in
    let len = c.put.ensures.len in
    let cap = c.put.ensures.capacity in
    let same = c.in-Ok.ensures.same in
    let now = c.in-Granted.ensures.ok refl ∙ ap (λ l. apply l (Granted r.txn c.in-Some.name c.in-Some.mode)) same in
    let may = subst (λ l. MayHave l (request r.txn c.in-Some.name c.in-Some.mode)) same c.in-Granted.ensures.cause in
    record {
      holds = rw (c.put.ensures.items, c.in-Ok.ensures.events, now, c.behind-session-in-Granted.ensures) (asks_at_once st c.self.inside.last c.len-place.result c.args.c r c.in-Some.name c.in-Some.mode lt at wants c.if-session.false (let p = c.len-place.ensures in omega (arith, p)) may c.self.invariant.holds);
      room = rw (now, c.behind-session-in-Granted.ensures) (room_after c.self.inside.entries c.self.inside.entries c.self.inside.events c.put.new.items c.self.inside.sessions.items (lock c.self.inside.locks) (apply (lock c.self.inside.locks) (Granted r.txn c.in-Some.name c.in-Some.mode))
          c.self.inside.owed c.self.inside.owed_events c.self.inside.owed c.self.inside.owed_events c.args.c r _ c.self.invariant.room lt at
          (omega (arith, ends.0, ends.2)) (omega (arith, ends.1, ends.3)) fit (omega (arith, room.0, waiters, shorter, len, cap)));
      woken = c.in-Granted.ensures.woken ∙ c.in-Ok.ensures.woken ∙ c.self.invariant.woken;
      spent = spent_kept c.self.inside.sessions.items c.args.c r _ lt at (itself r.closed) (itself r.spans) (itself r.begun) c.self.invariant.spent;
    }

pub enqueue-requires-clause-room : goal.enqueue-requires-clause-room
enqueue-requires-clause-room g c =
    let room = c.in-Ok.ensures.room in
    let held = c.in-Conflict.ensures.held c.in-Conflict.field-0 refl c.index_mut-session.result.now.txn in
    omega (arith, room.1, held)

pub invariant_of-self-in-Conflict : goal.invariant_of-self-in-Conflict
invariant_of-self-in-Conflict g c =
    let lt : c.args.c < length c.self.inside.sessions.items = omega arith in
    let st = state c.self.inside.entries c.self.inside.events c.self.inside.locks c.self.inside.sessions.items (g.S.RowStore.view c.self.inside.store) c.self.inside.tables.entries in
    let r = c.index_mut-session.result.now in
    let at = c.index_mut-session.ensures.value in
    let actor = c.actor_of.ensures in
    let wants = sym c.wanted.ensures ∙ c.in-Some.is in
    let room = c.in-Ok.ensures.room in
    let fit = c.self.invariant.room.entries_fit in
    let waiters = c.waiters-waiters.ensures.exact in
    let longer = queue_longer (has_grant (lock c.self.inside.locks).grants r.txn c.in-Some.name) (lock c.self.inside.locks) (request r.txn c.in-Some.name c.in-Some.mode) in
    let len = c.put-in-Conflict.ensures.len in
    let cap = c.put-in-Conflict.ensures.capacity in
    let same = c.in-Ok.ensures.same in
    let kept = c.in-Conflict.ensures.err c.in-Conflict.field-0 refl ∙ same in
    let now = c.enqueue.ensures.ok ∙ ap (λ l. apply l (Queued r.txn c.in-Some.name c.in-Some.mode)) kept in
    let refused = subst (λ l. IsRefused l (request r.txn c.in-Some.name c.in-Some.mode)) same c.in-Conflict.ensures.cause.0 in
    record {
      holds = rw (c.put-in-Conflict.ensures.items, c.in-Ok.ensures.events, now) (asks_and_waits st c.self.inside.last c.len-place.result c.args.c r c.in-Some.name c.in-Some.mode (g.S.RowStore.view c.let_go.new.self) lt at wants c.if-session.false (let p = c.len-place.ensures in omega (arith, p)) refused
          c.let_go.ensures.same (λ b ne. c.let_go.ensures.frame.others b (λ e. ne (e ∙ actor))) c.let_go.ensures.frame.limit_same c.self.invariant.holds);
      room = rw now (room_after c.self.inside.entries c.self.inside.entries c.self.inside.events c.put-in-Conflict.new.items c.self.inside.sessions.items (lock c.self.inside.locks) (apply (lock c.self.inside.locks) (Queued r.txn c.in-Some.name c.in-Some.mode))
          c.self.inside.owed c.self.inside.owed_events c.self.inside.owed c.self.inside.owed_events c.args.c r _ c.self.invariant.room lt at
          refl refl fit (omega (arith, room.0, waiters, longer, len, cap)));
      woken = c.enqueue.ensures.woken ∙ c.in-Conflict.ensures.woken ∙ c.in-Ok.ensures.woken ∙ c.self.invariant.woken;
      spent = spent_kept c.self.inside.sessions.items c.args.c r _ lt at (itself r.closed) (itself r.spans) (itself r.begun) c.self.invariant.spent;
    }

pub returns-then-session-clause-paces : goal.returns-then-session-clause-paces
returns-then-session-clause-paces g c =
    let lt : c.args.c < length c.self.inside.sessions.items = omega arith in
    let r = c.index_mut-session.result.now in
    paces_inside g.S.RowStore.view c.args.c _ _ _ _ _ _ _ c.args.self.now _ _ _ c.self.view_is
    (paces_woken c.args.c c.self.inside.sessions.items r _ (c.in-Some.name, c.in-Some.mode) _ _ _ _ lt c.index_mut-session.ensures.value (sym c.wanted.ensures ∙ c.in-Some.is)
    (ap (λ p. record r { phase = p; queued = false }) c.behind-session.ensures) (acts_none _ _))

pub returns-in_default-room-clause-paces : goal.returns-in_default-room-clause-paces
returns-in_default-room-clause-paces g c =
    paces_inside g.S.RowStore.view c.args.c _ _ _ _ _ _ _ c.args.self.now _ _ _ c.self.view_is
    (paces_starved c.args.c c.self.inside.sessions.items c.starve.new.session _ _ _ _ (asks_inside _ c.args.c _ _ _ _ _ _ c.self.view_is c.requires.here) (ap (λ (x : Session). x.phase) c.starve.ensures) (acts_none _ _))

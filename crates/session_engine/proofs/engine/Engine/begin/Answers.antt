use Rattle.std.proofs.Common.{◌≡◌, ◌+◌, ◌<◌, length, ◌∙◌, ap, subst, arith, refl}
use Rattle.lock_manager.specs.Table.{lock}
use Rattle.session_engine.specs.Beginning.{IsNext}
use Rattle.session_engine.specs.State.{ends_in, opens}
use Rattle.session_engine.specs.Engine.{state}
use Rattle.session_engine.proofs.CountLemmas.{may_begin}
use Rattle.session_engine.proofs.RoomLemmas.{room_after}
use Rattle.session_engine.proofs.StepLemmas.{kept_content, still_engine}
use Rattle.session_engine.proofs.StartLemmas.{first_statement, turned, idle_made, begun_opens}
use Rattle.session_engine.specs.declared.session.Session.{Session}
use Rattle.session_engine.proofs.SpentLemmas.{spent_open}
use Rattle.session_engine.proofs.PaceLemmas.{acts_none, paces_halted, paces_inside, acts_still, paces_stopped}
use Rattle.session_engine.specs.declared.step.Step.TheVariants.{Memory}
use Rattle.session_engine.proofs.engine.Engine.begin.Goals as goal

pub begin-requires-clause-few : goal.begin-requires-clause-few
begin-requires-clause-few g c = may_begin (state c.self.inside.entries c.self.inside.events c.self.inside.locks c.self.inside.sessions.items (g.S.RowStore.view c.self.inside.store) c.self.inside.tables.entries) c.self.inside.last c.self.invariant.holds

pub invariant_of-self-in-Ok-begin : goal.invariant_of-self-in-Ok-begin
invariant_of-self-in-Ok-begin g c =
    let lt : c.args.c < length c.self.inside.sessions.items = omega arith in
    let st = state c.self.inside.entries c.self.inside.events c.self.inside.locks c.self.inside.sessions.items (g.S.RowStore.view c.self.inside.store) c.self.inside.tables.entries in
    let r = c.index_mut-session.result.now in
    let at = c.index_mut-session.ensures.value in
    let is = c.in-Idle.is in
    let next = subst (IsNext c.index_mut-session.result.now) c.in-Some-found.is c.in-Ok.ensures.next in
    let ok = c.in-Ok-begin.ensures.ok in
    let frame = c.in-Ok-begin.ensures.frame in
    let empty = ap length (idle_made st c.self.inside.last c.args.c r lt at is c.self.invariant.holds) in
    let was : ends_in r.phase ≡ 0 = ap ends_in is in
    let shut : opens r.phase ≡ 0 = ap opens is in
    let room = c.in-Ok.ensures.room in
    let ends = c.ends.ensures.exact in
    let few = c.ends.ensures.few in
    let waiters = c.waiters-waiters.ensures.exact in
    let len = c.put.ensures.len in
    let cap = c.put.ensures.capacity in
    let opened = ap (λ s. opens s.phase) c.start.ensures ∙ begun_opens c.in-Some-found.asked.long in
    let made = ap (λ s. length s.made.items) c.start.ensures in
    record {
      holds = rw (c.put.ensures.items, c.in-Ok.ensures.entries, c.in-Ok.ensures.events, c.started.ensures, c.start.ensures)
          (first_statement st c.self.inside.last c.args.c r c.in-Some.txn c.in-Some-found.asked.text c.in-Some-found.asked.long c.in-Some-found.asked.order (g.S.RowStore.view c.begin.new.self)
          lt at is c.in-false.is next.0 next.1.long next.1.order c.in-Some.ensures.0 ok.1.stored frame.everyone frame.limit_same c.self.invariant.holds);
      room = room_after c.self.inside.entries c.put.new.items c.self.inside.events c.get_ready-ready.new.events c.self.inside.sessions.items (lock c.self.inside.locks) (lock c.self.inside.locks)
          c.self.inside.owed c.self.inside.owed_events (c.self.inside.owed + c.ends.result) (c.self.inside.owed_events + 1) c.args.c r c.start.new.session c.self.invariant.room lt at
          (omega (arith, empty, was, ends, made)) (omega (arith, shut, opened)) (let fit = room.entries_fit in omega (arith, fit, len, cap, few)) (let fit = room.events_fit in omega (arith, fit, waiters));
      woken = c.self.invariant.woken;
      spent = spent_open c.self.inside.sessions.items c.args.c c.start.new.session (ap (λ (x : Session). x.closed) c.start.ensures ∙ c.in-false.is) c.self.invariant.spent;
    }

pub invariant_of-self-in-Err-Full : goal.invariant_of-self-in-Err-Full
invariant_of-self-in-Err-Full g c =
    let lt : c.args.c < length c.self.inside.sessions.items = omega arith in
    let st = state c.self.inside.entries c.self.inside.events c.self.inside.locks c.self.inside.sessions.items (g.S.RowStore.view c.self.inside.store) c.self.inside.tables.entries in
    let r = c.index_mut-session.result.now in
    let at = c.index_mut-session.ensures.value in
    let is = c.in-Idle.is in
    let next = subst (IsNext c.index_mut-session.result.now) c.in-Some-found.is c.in-Ok.ensures.next in
    let frame = c.in-Err-Full.ensures.frame in
    let full = c.in-Err-Full.ensures.err in
    let empty = ap length (idle_made st c.self.inside.last c.args.c r lt at is c.self.invariant.holds) in
    let was : ends_in r.phase ≡ 0 = ap ends_in is in
    let shut : opens r.phase ≡ 0 = ap opens is in
    let room = c.in-Ok.ensures.room in
    let waiters = c.waiters-waiters.ensures.exact in
    let len = c.put-in-Err-Full.ensures.len in
    let cap = c.put-in-Err-Full.ensures.capacity in
    let len2 = c.put-in-Err-Full-2.ensures.len in
    let cap2 = c.put-in-Err-Full-2.ensures.capacity in
    let now : ends_in c.turn_away.new.session.phase ≡ 1 = ap (λ s. ends_in s.phase) c.turn_away.ensures in
    let opened : opens c.turn_away.new.session.phase ≡ 1 = ap (λ s. opens s.phase) c.turn_away.ensures in
    let made = ap (λ s. length s.made.items) c.turn_away.ensures in
    record {
      holds = rw (c.put-in-Err-Full-2.ensures.items, c.put-in-Err-Full.ensures.items, c.in-Ok.ensures.entries, c.in-Ok.ensures.events, c.started-in-Err-Full.ensures, c.text_of.ensures, c.turned_away.ensures, c.turn_away.ensures)
          (turned st c.self.inside.last c.args.c r c.in-Some.txn c.in-Some-found.asked.text (g.S.RowStore.view c.begin.new.self)
          lt at is c.in-false.is next.0 c.in-Some.ensures.0 (c.law.ensures.begun c.in-Some.txn.0 (let free = c.in-Some.ensures.1 in let no = c.next_txn.ensures in omega (arith, free, no)))
          (kept_content _ _ _ _ _ _ full) frame.everyone frame.limit_same c.self.invariant.holds);
      room = room_after c.self.inside.entries c.put-in-Err-Full-2.new.items c.self.inside.events c.get_ready-ready.new.events c.self.inside.sessions.items (lock c.self.inside.locks) (lock c.self.inside.locks)
          c.self.inside.owed c.self.inside.owed_events (c.self.inside.owed + 1) (c.self.inside.owed_events + 1) c.args.c r c.turn_away.new.session c.self.invariant.room lt at
          (omega (arith, empty, was, now, made)) (omega (arith, shut, opened)) (let fit = room.entries_fit in omega (arith, fit, len, cap, len2, cap2)) (let fit = room.events_fit in omega (arith, fit, waiters));
      woken = c.self.invariant.woken;
      spent = spent_open c.self.inside.sessions.items c.args.c c.turn_away.new.session (ap (λ (x : Session). x.closed) c.turn_away.ensures ∙ c.in-false.is) c.self.invariant.spent;
    }

pub invariant_of-self-in-Err : goal.invariant_of-self-in-Err
invariant_of-self-in-Err g c =
    let lt : c.args.c < length c.self.inside.sessions.items = omega arith in
    let frame = c.in-Err.ensures.frame in
    let room = c.in-Ok.ensures.room in
    let waiters = c.waiters-waiters.ensures.exact in
    still_engine c.self.inside.entries c.get_ready-ready.new.entries c.self.inside.events c.get_ready-ready.new.events c.self.inside.locks c.self.inside.sessions.items (g.S.RowStore.view c.self.inside.store) (g.S.RowStore.view c.begin.new.self)
    c.self.inside.tables.entries c.self.inside.last c.self.inside.owed c.self.inside.owed_events c.args.c c.index_mut-session.result.now c.self.invariant lt c.index_mut-session.ensures.value
    c.in-Ok.ensures.entries c.in-Ok.ensures.events (let fit = room.entries_fit in omega (arith, fit)) (let fit = room.events_fit in omega (arith, fit, waiters))
    (kept_content _ _ _ _ _ _ c.in-Err.ensures.err) frame.everyone frame.limit_same

pub returns-in_default-fresh-clause-paces : goal.returns-in_default-fresh-clause-paces
returns-in_default-fresh-clause-paces g c =
    paces_inside g.S.RowStore.view c.args.c _ _ _ _ _ _ _ c.args.self.now _ _ _ c.self.view_is
    (paces_halted c.args.c Memory c.self.inside.sessions.items c.index_mut-session.result.now _ _ _ _ refl refl (acts_none _ _))

pub returns-in_default-ready-clause-paces : goal.returns-in_default-ready-clause-paces
returns-in_default-ready-clause-paces g c =
    paces_inside g.S.RowStore.view c.args.c _ _ _ _ _ _ _ c.args.self.now _ _ _ c.self.view_is
    (paces_halted c.args.c Memory c.self.inside.sessions.items c.index_mut-session.result.now _ _ _ _ refl refl (acts_none _ _))

pub returns-in-Err-Memory-clause-paces : goal.returns-in-Err-Memory-clause-paces
returns-in-Err-Memory-clause-paces g c =
    paces_inside g.S.RowStore.view c.args.c _ _ _ _ _ _ _ c.args.self.now _ _ _ c.self.view_is
    (paces_halted c.args.c Memory c.self.inside.sessions.items c.index_mut-session.result.now _ _ _ _ refl refl (acts_still _ _ _ c.in-Err-Memory.ensures.frame))

pub returns-in-Err-clause-paces : goal.returns-in-Err-clause-paces
returns-in-Err-clause-paces g c =
    paces_stopped g.S.RowStore.view c.args.c c.halt.result c.self.inside.sessions.items _ _ _ _ c.args.self.now c.halt.new.self _ _ _ c.self.view_is c.halt.ensures.nexts (c.halt.ensures.entries ∙ c.in-Ok.ensures.entries) c.halt.ensures.store c.halt.ensures.halted
    (acts_still _ _ _ c.in-Err.ensures.frame)

pub invariant_of-self-in-Err-Memory : goal.invariant_of-self-in-Err-Memory
invariant_of-self-in-Err-Memory g c =
    let lt : c.args.c < length c.self.inside.sessions.items = omega arith in
    let frame = c.in-Err-Memory.ensures.frame in
    let room = c.in-Ok.ensures.room in
    let waiters = c.waiters-waiters.ensures.exact in
    still_engine c.self.inside.entries c.get_ready-ready.new.entries c.self.inside.events c.get_ready-ready.new.events c.self.inside.locks c.self.inside.sessions.items (g.S.RowStore.view c.self.inside.store) (g.S.RowStore.view c.begin.new.self)
    c.self.inside.tables.entries c.self.inside.last c.self.inside.owed c.self.inside.owed_events c.args.c c.index_mut-session.result.now c.self.invariant lt c.index_mut-session.ensures.value
    c.in-Ok.ensures.entries c.in-Ok.ensures.events (let fit = room.entries_fit in omega (arith, fit)) (let fit = room.events_fit in omega (arith, fit, waiters))
    (kept_content _ _ _ _ _ _ c.in-Err-Memory.ensures.err) frame.everyone frame.limit_same

use Rattle.std.proofs.Common.{◌≡◌, ◌+◌, ◌<◌, ◌-◌, length, ◌∙◌, ap, subst, arith, refl}
use Rattle.lock_manager.specs.Table.{lock}
use Rattle.session_engine.specs.Beginning.{IsNext}
use Rattle.session_engine.specs.State.{ends_in, opens}
use Rattle.session_engine.specs.Engine.{state}
use Rattle.session_engine.proofs.RoomLemmas.{room_after}
use Rattle.session_engine.proofs.StartLemmas.{next_statement, begun_opens, begun_ends}
use Rattle.session_engine.specs.declared.session.Session.{Session}
use Rattle.session_engine.proofs.SpentLemmas.{spent_open}
use Rattle.session_engine.proofs.PaceLemmas.{acts_none, paces_halted, paces_inside}
use Rattle.session_engine.specs.declared.step.Step.TheVariants.{Memory}
use Rattle.session_engine.proofs.engine.Engine.resume.Goals as goal

pub started-requires : goal.started-requires
started-requires g c = let few = c.self.invariant.holds.few in let limit = c.law.ensures.limit in omega (arith, few, limit.1)

pub invariant_of-self-2 : goal.invariant_of-self-2
invariant_of-self-2 g c =
    let lt : c.args.c < length c.self.inside.sessions.items = omega arith in
    let st = state c.self.inside.entries c.self.inside.events c.self.inside.locks c.self.inside.sessions.items (g.S.RowStore.view c.self.inside.store) c.self.inside.tables.entries in
    let r = c.index_mut-session.result.now in
    let at = c.index_mut-session.ensures.value in
    let is = c.in-Resting.is in
    let next = subst (IsNext c.index_mut-session.result.now) c.in-Some.is c.in-Ok.ensures.next in
    let was : ends_in r.phase ≡ 1 = ap ends_in is in
    let shut : opens r.phase ≡ 1 = ap opens is in
    let room = c.in-Ok.ensures.room in
    let ends = c.ends.ensures.exact in
    let few = c.ends.ensures.few in
    let waiters = c.waiters-waiters.ensures.exact in
    let len = c.put.ensures.len in
    let cap = c.put.ensures.capacity in
    let opened = ap (λ s. opens s.phase) c.start.ensures ∙ begun_opens c.in-Some.asked.long in
    let more = ap (λ s. ends_in s.phase) c.start.ensures in
    let two = begun_ends c.in-Some.asked.long in
    let made = ap (λ s. length s.made.items) c.start.ensures in
    record {
      holds = rw (c.put.ensures.items, c.in-Ok.ensures.entries, c.in-Ok.ensures.events, c.started.ensures, c.start.ensures)
          (next_statement st c.self.inside.last c.args.c r c.in-Some.asked.text c.place-mark.result c.in-Some.asked.long c.in-Some.asked.order
          lt at is c.in-false.is next.0 c.place-mark.ensures next.1.long next.1.order c.self.invariant.holds);
      room = room_after c.self.inside.entries c.put.new.items c.self.inside.events c.get_ready-ready.new.events c.self.inside.sessions.items (lock c.self.inside.locks) (lock c.self.inside.locks)
          c.self.inside.owed c.self.inside.owed_events (c.self.inside.owed + (c.ends.result - 1)) c.self.inside.owed_events c.args.c r c.start.new.session c.self.invariant.room lt at
          (omega (arith, was, ends, made, more, two)) (omega (arith, shut, opened)) (let fit = room.entries_fit in omega (arith, fit, len, cap, few)) (let fit = room.events_fit in omega (arith, fit, waiters));
      woken = c.self.invariant.woken;
      spent = spent_open c.self.inside.sessions.items c.args.c c.start.new.session (ap (λ (x : Session). x.closed) c.start.ensures ∙ c.in-false.is) c.self.invariant.spent;
    }

pub returns-in_default-ready-clause-paces : goal.returns-in_default-ready-clause-paces
returns-in_default-ready-clause-paces g c =
    paces_inside g.S.RowStore.view c.args.c _ _ _ _ _ _ _ c.args.self.now _ _ _ c.self.view_is
    (paces_halted c.args.c Memory c.self.inside.sessions.items c.index_mut-session.result.now _ _ _ _ refl refl (acts_none _ _))

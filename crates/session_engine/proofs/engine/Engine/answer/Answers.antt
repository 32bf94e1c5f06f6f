use Rattle.std.proofs.Common.{◌≡◌, ◌-◌, ◌<◌, length, sym, ◌∙◌, ap, arith}
use Rattle.lock_manager.specs.Table.{lock}
use Rattle.session_engine.specs.declared.session.Plan.TheVariants as plan
use Rattle.session_engine.specs.State.{ends_in, opens}
use Rattle.session_engine.specs.Engine.{state}
use Rattle.session_engine.proofs.ReadLemmas.{Reading, answers_rows, working_owes, ended_of}
use Rattle.session_engine.proofs.RoomLemmas.{room_after}
use Rattle.session_engine.proofs.TellLemmas.{done_ends}
use Rattle.session_engine.proofs.SpentLemmas.{itself, spent_kept}
use Rattle.session_engine.proofs.engine.Engine.answer.Goals as goal

pub put-requires : goal.put-requires
put-requires g c =
    let lt : c.args.c < length c.self.inside.sessions.items = omega arith in
    let one = (working_owes c.self.inside.entries c.self.inside.events c.self.inside.locks c.self.inside.sessions.items (g.S.RowStore.view c.self.inside.store) c.self.inside.tables.entries c.self.inside.last c.self.inside.owed c.self.inside.owed_events c.args.c c.index_mut-session.result.now c.self.invariant lt c.index_mut-session.ensures.value c.in-Working.is).1 in
    omega (arith, one)

pub overflow_sub-self-in-Select-planned : goal.overflow_sub-self-in-Select-planned
overflow_sub-self-in-Select-planned g c =
    let lt : c.args.c < length c.self.inside.sessions.items = omega arith in
    let one = (working_owes c.self.inside.entries c.self.inside.events c.self.inside.locks c.self.inside.sessions.items (g.S.RowStore.view c.self.inside.store) c.self.inside.tables.entries c.self.inside.last c.self.inside.owed c.self.inside.owed_events c.args.c c.index_mut-session.result.now c.self.invariant lt c.index_mut-session.ensures.value c.in-Working.is).0 in
    let three = c.ends.ensures.exact in
    omega (arith, one, three)

pub invariant_of-self : goal.invariant_of-self
invariant_of-self g c =
    let lt : c.args.c < length c.self.inside.sessions.items = omega arith in
    let st = state c.self.inside.entries c.self.inside.events c.self.inside.locks c.self.inside.sessions.items (g.S.RowStore.view c.self.inside.store) c.self.inside.tables.entries in
    let r = c.index_mut-session.result.now in
    let at = c.index_mut-session.ensures.value in
    let is = c.in-Working.is in
    let scan = c.in-Select-planned.scan in
    let actor = c.actor_of-actor.ensures in
    let planned : c.index_mut-session.result.now.plan ≡ plan.Select c.in-Select-planned.scan = sym c.in-Select-planned.ensures.value in
    let both : plan.Select c.in-Select-planned.scan ≡ plan.Select c.in-Select.scan = c.in-Select-planned.ensures.value ∙ c.in-Select.is in
    let h : Reading st c.self.inside.last c.args.c c.index_mut-session.result.now c.in-Select-planned.scan = record { within = lt; at = at; phase = is; planned = planned; holds = c.self.invariant.holds } in
    let here : c.len-place.result ≡ length c.self.inside.entries.items = (let p = c.len-place.ensures in omega (arith, p)) in
    let follows = c.phase_done-session.ensures in
    let needs : ends_in r.phase ≡ 3 = ap ends_in is in
    let needs_event : opens r.phase ≡ 1 = ap opens is in
    let three = c.ends.ensures.exact in
    let then = c.ends-in-Select-planned.ensures.exact in
    let left = done_ends r.automatic c.phase_done-session.result follows in
    let len = c.put.ensures.len in
    let cap = c.put.ensures.capacity in
    let one = working_owes c.self.inside.entries c.self.inside.events c.self.inside.locks c.self.inside.sessions.items (g.S.RowStore.view c.self.inside.store) c.self.inside.tables.entries c.self.inside.last c.self.inside.owed c.self.inside.owed_events c.args.c r c.self.invariant lt at is in
    let fit = c.self.invariant.room.entries_fit in
    record {
      holds = rw (c.put.ensures.items, c.told_rows.ensures, c.replace-planned.ensures.after) (answers_rows st c.self.inside.last c.args.c c.len-place.result r scan c.phase_done-session.result (g.S.RowStore.view c.let_go.new.self) h here
          (ended_of c.in-Select-planned.scan c.in-Select.scan both c.in-Ended.is)
          c.let_go.ensures.same (λ b ne. c.let_go.ensures.frame.others b (λ e. ne (e ∙ actor))) c.let_go.ensures.frame.limit_same follows);
      room = room_after c.self.inside.entries c.put.new.items c.self.inside.events c.self.inside.events c.self.inside.sessions.items (lock c.self.inside.locks) (lock c.self.inside.locks)
          c.self.inside.owed c.self.inside.owed_events (c.self.inside.owed - (c.ends.result - c.ends-in-Select-planned.result)) c.self.inside.owed_events c.args.c r _ c.self.invariant.room lt at
          (omega (arith, needs, three, then, left.0, left.1, one.0)) (omega (arith, needs_event, left.2)) (omega (arith, fit, len, cap, three, then, left.0, left.1, one.0)) c.self.invariant.room.events_fit;
      woken = c.self.invariant.woken;
      spent = spent_kept c.self.inside.sessions.items c.args.c r _ lt at (itself r.closed) (itself r.spans) (itself r.begun) c.self.invariant.spent;
    }

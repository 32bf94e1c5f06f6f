use Rattle.std.proofs.Common.{◌≡◌, ◌-◌, ◌<◌, length, set, refl, ◌∙◌, ap, subst, arith, Some, true, inl, inr, rules}
use Rattle.dby_types.specs.declared.state.SqlState.TheVariants as state
use Rattle.std.proofs.lemmas.Bool.{both_ways}
use Rattle.session_engine.specs.Engine.{state as state_of}
use Rattle.session_engine.specs.Filling.{IsRoomy}
use Rattle.session_engine.specs.State.{ends_in, opens}
use Rattle.session_engine.proofs.CountLemmas.{may_hold}
use Rattle.session_engine.proofs.ReadLemmas.{working_owes}
use Rattle.session_engine.proofs.FillLemmas.{Filling, fill_at, fill_described, fill_starves, fill_spent, fill_on, engine_with}
use Rattle.session_engine.specs.Pacing.{Paces, nexts_of}
use Rattle.session_engine.specs.declared.next.Next.TheVariants as next
use Rattle.session_engine.specs.declared.next.Work.TheVariants as work
use Rattle.session_engine.specs.declared.step.Event.TheVariants as event
use Rattle.session_engine.specs.declared.step.Step.TheVariants.{Went}
use Rattle.session_engine.proofs.PaceLemmas.{acts_same, here_inside, inside, paces_refused, paces_stopped}
use Rattle.session_engine.specs.declared.session.Session.{Session}
use Rattle.session_engine.proofs.KeptLemmas.{kept_scripts}
use Rattle.session_engine.proofs.engine.Engine.widen.Goals as goal

pub room_for_row-requires-clause-described : goal.room_for_row-requires-clause-described
room_for_row-requires-clause-described g c =
    let lt : c.args.c < length c.self.inside.sessions.items = omega arith in
    let st = state_of c.self.inside.entries c.self.inside.events c.self.inside.locks c.self.inside.sessions.items (g.S.RowStore.view c.self.inside.store) c.self.inside.tables.entries in
    let r = c.index_mut-session.result.now in
    let at = c.index_mut-session.ensures.value in
    let fill = c.in-Insert.fill in
    let actor = c.actor_of-actor.ensures in
    let h : Filling st c.self.inside.last c.args.c c.index_mut-session.result.now c.in-Insert.fill = record { within = lt; at = at; phase = c.in-Working.is; planned = c.in-Insert.is; holds = c.self.invariant.holds } in
    fill_described st c.self.inside.last c.args.c r fill h

pub room_for_row-requires-clause-few : goal.room_for_row-requires-clause-few
room_for_row-requires-clause-few g c =
    may_hold (state_of c.self.inside.entries c.self.inside.events c.self.inside.locks c.self.inside.sessions.items (g.S.RowStore.view c.self.inside.store) c.self.inside.tables.entries) c.self.inside.last _ c.self.invariant.holds

pub invariant_of-self : goal.invariant_of-self
invariant_of-self g c =
    let lt : c.args.c < length c.self.inside.sessions.items = omega arith in
    let st = state_of c.self.inside.entries c.self.inside.events c.self.inside.locks c.self.inside.sessions.items (g.S.RowStore.view c.self.inside.store) c.self.inside.tables.entries in
    let r = c.index_mut-session.result.now in
    let at = c.index_mut-session.ensures.value in
    let fill = c.in-Insert.fill in
    let actor = c.actor_of-actor.ensures in
    let h : Filling st c.self.inside.last c.args.c c.index_mut-session.result.now c.in-Insert.fill = record { within = lt; at = at; phase = c.in-Working.is; planned = c.in-Insert.is; holds = c.self.invariant.holds } in
    let p = (fill_at st c.self.inside.last c.args.c r fill h).3 in
    engine_with c.self.inside.entries c.self.inside.entries c.self.inside.events c.self.inside.locks c.self.inside.sessions.items (g.S.RowStore.view c.self.inside.store) (g.S.RowStore.view c.room_for_row.new.store) c.self.inside.tables.entries c.self.inside.last c.self.inside.owed c.self.inside.owed c.self.inside.owed_events c.args.c r _ c.self.invariant lt at refl
    refl refl c.self.invariant.room.entries_fit
    (fill_on st c.self.inside.last c.args.c r fill true (g.S.RowStore.view c.room_for_row.new.store) h (record { content = c.in-Ok-Made.ensures.moves.content; others = λ b ne. c.in-Ok-Made.ensures.moves.others b (λ e. ne (e ∙ actor)); limit_same = c.in-Ok-Made.ensures.moves.limit_same }) (λ on. subst (λ a. ((g.S.RowStore.view c.room_for_row.new.store).actors a).room ≡ Some c.in-Insert.fill.number) actor (subst (IsRoomy c.actor_of-actor.result c.in-Insert.fill.number (g.S.RowStore.view c.self.inside.store) (g.S.RowStore.view c.room_for_row.new.store)) c.in-Ok-Made.field-0-is c.in-Ok-Made.ensures.made)))

pub invariant_of-self-in-Ok-Onward : goal.invariant_of-self-in-Ok-Onward
invariant_of-self-in-Ok-Onward g c =
    let lt : c.args.c < length c.self.inside.sessions.items = omega arith in
    let st = state_of c.self.inside.entries c.self.inside.events c.self.inside.locks c.self.inside.sessions.items (g.S.RowStore.view c.self.inside.store) c.self.inside.tables.entries in
    let r = c.index_mut-session.result.now in
    let at = c.index_mut-session.ensures.value in
    let fill = c.in-Insert.fill in
    let actor = c.actor_of-actor.ensures in
    let h : Filling st c.self.inside.last c.args.c c.index_mut-session.result.now c.in-Insert.fill = record { within = lt; at = at; phase = c.in-Working.is; planned = c.in-Insert.is; holds = c.self.invariant.holds } in
    let p = (fill_at st c.self.inside.last c.args.c r fill h).3 in
    engine_with c.self.inside.entries c.self.inside.entries c.self.inside.events c.self.inside.locks c.self.inside.sessions.items (g.S.RowStore.view c.self.inside.store) (g.S.RowStore.view c.room_for_row.new.store) c.self.inside.tables.entries c.self.inside.last c.self.inside.owed c.self.inside.owed c.self.inside.owed_events c.args.c r _ c.self.invariant lt at refl
    refl refl c.self.invariant.room.entries_fit
    (fill_on st c.self.inside.last c.args.c r fill c.in-Insert.fill.has_room (g.S.RowStore.view c.room_for_row.new.store) h (record { content = c.in-Ok-Onward.ensures.moves.content; others = λ b ne. c.in-Ok-Onward.ensures.moves.others b (λ e. ne (e ∙ actor)); limit_same = c.in-Ok-Onward.ensures.moves.limit_same }) (λ on. absurd (both_ways c.in-Insert.fill.has_room c.in-false.is on)))

pub invariant_of-self-in-Ok-Held : goal.invariant_of-self-in-Ok-Held
invariant_of-self-in-Ok-Held g c =
    let lt : c.args.c < length c.self.inside.sessions.items = omega arith in
    let st = state_of c.self.inside.entries c.self.inside.events c.self.inside.locks c.self.inside.sessions.items (g.S.RowStore.view c.self.inside.store) c.self.inside.tables.entries in
    let r = c.index_mut-session.result.now in
    let at = c.index_mut-session.ensures.value in
    let fill = c.in-Insert.fill in
    let actor = c.actor_of-actor.ensures in
    let h : Filling st c.self.inside.last c.args.c c.index_mut-session.result.now c.in-Insert.fill = record { within = lt; at = at; phase = c.in-Working.is; planned = c.in-Insert.is; holds = c.self.invariant.holds } in
    let p = (fill_at st c.self.inside.last c.args.c r fill h).3 in
    engine_with c.self.inside.entries c.self.inside.entries c.self.inside.events c.self.inside.locks c.self.inside.sessions.items (g.S.RowStore.view c.self.inside.store) (g.S.RowStore.view c.let_go.new.self) c.self.inside.tables.entries c.self.inside.last c.self.inside.owed c.self.inside.owed c.self.inside.owed_events c.args.c r _ c.self.invariant lt at refl
    refl refl c.self.invariant.room.entries_fit
    (fill_on st c.self.inside.last c.args.c r fill c.in-Insert.fill.has_room (g.S.RowStore.view c.let_go.new.self) h (record { content = c.let_go.ensures.same ∙ c.in-Ok-Held.ensures.moves.content; others = λ b ne. c.let_go.ensures.frame.others b (λ e. ne (e ∙ actor)) ∙ c.in-Ok-Held.ensures.moves.others b (λ e. ne (e ∙ actor)); limit_same = c.let_go.ensures.frame.limit_same ∙ c.in-Ok-Held.ensures.moves.limit_same }) (λ on. absurd (both_ways c.in-Insert.fill.has_room c.in-false.is on)))

pub invariant_of-self-in-Err : goal.invariant_of-self-in-Err
invariant_of-self-in-Err g c =
    let lt : c.args.c < length c.self.inside.sessions.items = omega arith in
    let st = state_of c.self.inside.entries c.self.inside.events c.self.inside.locks c.self.inside.sessions.items (g.S.RowStore.view c.self.inside.store) c.self.inside.tables.entries in
    let r = c.index_mut-session.result.now in
    let at = c.index_mut-session.ensures.value in
    let fill = c.in-Insert.fill in
    let actor = c.actor_of-actor.ensures in
    let h : Filling st c.self.inside.last c.args.c c.index_mut-session.result.now c.in-Insert.fill = record { within = lt; at = at; phase = c.in-Working.is; planned = c.in-Insert.is; holds = c.self.invariant.holds } in
    let p = (fill_at st c.self.inside.last c.args.c r fill h).3 in
    engine_with c.self.inside.entries c.self.inside.entries c.self.inside.events c.self.inside.locks c.self.inside.sessions.items (g.S.RowStore.view c.self.inside.store) (g.S.RowStore.view c.room_for_row.new.store) c.self.inside.tables.entries c.self.inside.last c.self.inside.owed c.self.inside.owed c.self.inside.owed_events c.args.c r _ c.self.invariant lt at refl
    refl refl c.self.invariant.room.entries_fit
    (fill_on st c.self.inside.last c.args.c r fill c.in-Insert.fill.has_room (g.S.RowStore.view c.room_for_row.new.store) h (record { content = c.in-Err.ensures.moves.content; others = λ b ne. c.in-Err.ensures.moves.others b (λ e. ne (e ∙ actor)); limit_same = c.in-Err.ensures.moves.limit_same }) (λ on. absurd (both_ways c.in-Insert.fill.has_room c.in-false.is on)))

pub overflow_sub-self : goal.overflow_sub-self
overflow_sub-self g c =
    let lt : c.args.c < length c.self.inside.sessions.items = omega arith in
    let one = (working_owes c.self.inside.entries c.self.inside.events c.self.inside.locks c.self.inside.sessions.items (g.S.RowStore.view c.self.inside.store) c.self.inside.tables.entries c.self.inside.last c.self.inside.owed c.self.inside.owed_events c.args.c c.index_mut-session.result.now c.self.invariant lt c.index_mut-session.ensures.value c.in-Working.is).0 in
    omega (arith, one)

pub overflow_sub-self-in-Ok-NoLog : goal.overflow_sub-self-in-Ok-NoLog
overflow_sub-self-in-Ok-NoLog g c =
    let lt : c.args.c < length c.self.inside.sessions.items = omega arith in
    let one = (working_owes c.self.inside.entries c.self.inside.events c.self.inside.locks c.self.inside.sessions.items (g.S.RowStore.view c.self.inside.store) c.self.inside.tables.entries c.self.inside.last c.self.inside.owed c.self.inside.owed_events c.args.c c.index_mut-session.result.now c.self.invariant lt c.index_mut-session.ensures.value c.in-Working.is).0 in
    omega (arith, one)

pub overflow_sub-self-in-Err-Memory : goal.overflow_sub-self-in-Err-Memory
overflow_sub-self-in-Err-Memory g c =
    let lt : c.args.c < length c.self.inside.sessions.items = omega arith in
    let one = (working_owes c.self.inside.entries c.self.inside.events c.self.inside.locks c.self.inside.sessions.items (g.S.RowStore.view c.self.inside.store) c.self.inside.tables.entries c.self.inside.last c.self.inside.owed c.self.inside.owed_events c.args.c c.index_mut-session.result.now c.self.invariant lt c.index_mut-session.ensures.value c.in-Working.is).0 in
    omega (arith, one)

pub invariant_of-self-in-Ok-NoPages : goal.invariant_of-self-in-Ok-NoPages
invariant_of-self-in-Ok-NoPages g c =
    let lt : c.args.c < length c.self.inside.sessions.items = omega arith in
    let st = state_of c.self.inside.entries c.self.inside.events c.self.inside.locks c.self.inside.sessions.items (g.S.RowStore.view c.self.inside.store) c.self.inside.tables.entries in
    let r = c.index_mut-session.result.now in
    let at = c.index_mut-session.ensures.value in
    let fill = c.in-Insert.fill in
    let actor = c.actor_of-actor.ensures in
    let h : Filling st c.self.inside.last c.args.c c.index_mut-session.result.now c.in-Insert.fill = record { within = lt; at = at; phase = c.in-Working.is; planned = c.in-Insert.is; holds = c.self.invariant.holds } in
    let needs : ends_in r.phase ≡ 3 = ap ends_in c.in-Working.is in
    let opened : opens r.phase ≡ 1 = ap opens c.in-Working.is in
    let one = (working_owes c.self.inside.entries c.self.inside.events c.self.inside.locks c.self.inside.sessions.items (g.S.RowStore.view c.self.inside.store) c.self.inside.tables.entries c.self.inside.last c.self.inside.owed c.self.inside.owed_events c.args.c c.index_mut-session.result.now c.self.invariant lt c.index_mut-session.ensures.value c.in-Working.is).0 in
    let fit = c.self.invariant.room.entries_fit in
    rw c.run_out.ensures (engine_with c.self.inside.entries c.self.inside.entries c.self.inside.events c.self.inside.locks c.self.inside.sessions.items (g.S.RowStore.view c.self.inside.store) (g.S.RowStore.view c.room_for_row.new.store) c.self.inside.tables.entries c.self.inside.last c.self.inside.owed (c.self.inside.owed - 1) c.self.inside.owed_events c.args.c r _ c.self.invariant lt at refl
    (omega (arith, needs, one)) (omega (arith, opened)) (omega (arith, fit, one))
    (fill_spent st c.self.inside.last c.args.c r fill state.PagesSpent (g.S.RowStore.view c.room_for_row.new.store) h (record { content = c.in-Ok-NoPages.ensures.moves.content; others = λ b ne. c.in-Ok-NoPages.ensures.moves.others b (λ e. ne (e ∙ actor)); limit_same = c.in-Ok-NoPages.ensures.moves.limit_same }) (inl refl)))

pub invariant_of-self-in-Ok-NoLog : goal.invariant_of-self-in-Ok-NoLog
invariant_of-self-in-Ok-NoLog g c =
    let lt : c.args.c < length c.self.inside.sessions.items = omega arith in
    let st = state_of c.self.inside.entries c.self.inside.events c.self.inside.locks c.self.inside.sessions.items (g.S.RowStore.view c.self.inside.store) c.self.inside.tables.entries in
    let r = c.index_mut-session.result.now in
    let at = c.index_mut-session.ensures.value in
    let fill = c.in-Insert.fill in
    let actor = c.actor_of-actor.ensures in
    let h : Filling st c.self.inside.last c.args.c c.index_mut-session.result.now c.in-Insert.fill = record { within = lt; at = at; phase = c.in-Working.is; planned = c.in-Insert.is; holds = c.self.invariant.holds } in
    let needs : ends_in r.phase ≡ 3 = ap ends_in c.in-Working.is in
    let opened : opens r.phase ≡ 1 = ap opens c.in-Working.is in
    let one = (working_owes c.self.inside.entries c.self.inside.events c.self.inside.locks c.self.inside.sessions.items (g.S.RowStore.view c.self.inside.store) c.self.inside.tables.entries c.self.inside.last c.self.inside.owed c.self.inside.owed_events c.args.c c.index_mut-session.result.now c.self.invariant lt c.index_mut-session.ensures.value c.in-Working.is).0 in
    let fit = c.self.invariant.room.entries_fit in
    rw c.run_out-in-Ok-NoLog.ensures (engine_with c.self.inside.entries c.self.inside.entries c.self.inside.events c.self.inside.locks c.self.inside.sessions.items (g.S.RowStore.view c.self.inside.store) (g.S.RowStore.view c.room_for_row.new.store) c.self.inside.tables.entries c.self.inside.last c.self.inside.owed (c.self.inside.owed - 1) c.self.inside.owed_events c.args.c r _ c.self.invariant lt at refl
    (omega (arith, needs, one)) (omega (arith, opened)) (omega (arith, fit, one))
    (fill_spent st c.self.inside.last c.args.c r fill state.LogSpent (g.S.RowStore.view c.room_for_row.new.store) h (record { content = c.in-Ok-NoLog.ensures.moves.content; others = λ b ne. c.in-Ok-NoLog.ensures.moves.others b (λ e. ne (e ∙ actor)); limit_same = c.in-Ok-NoLog.ensures.moves.limit_same }) (inr refl)))

pub invariant_of-self-in-Err-Memory : goal.invariant_of-self-in-Err-Memory
invariant_of-self-in-Err-Memory g c =
    let lt : c.args.c < length c.self.inside.sessions.items = omega arith in
    let st = state_of c.self.inside.entries c.self.inside.events c.self.inside.locks c.self.inside.sessions.items (g.S.RowStore.view c.self.inside.store) c.self.inside.tables.entries in
    let r = c.index_mut-session.result.now in
    let at = c.index_mut-session.ensures.value in
    let fill = c.in-Insert.fill in
    let actor = c.actor_of-actor.ensures in
    let h : Filling st c.self.inside.last c.args.c c.index_mut-session.result.now c.in-Insert.fill = record { within = lt; at = at; phase = c.in-Working.is; planned = c.in-Insert.is; holds = c.self.invariant.holds } in
    let needs : ends_in r.phase ≡ 3 = ap ends_in c.in-Working.is in
    let opened : opens r.phase ≡ 1 = ap opens c.in-Working.is in
    let one = (working_owes c.self.inside.entries c.self.inside.events c.self.inside.locks c.self.inside.sessions.items (g.S.RowStore.view c.self.inside.store) c.self.inside.tables.entries c.self.inside.last c.self.inside.owed c.self.inside.owed_events c.args.c c.index_mut-session.result.now c.self.invariant lt c.index_mut-session.ensures.value c.in-Working.is).0 in
    let fit = c.self.invariant.room.entries_fit in
    rw c.starve.ensures (engine_with c.self.inside.entries c.self.inside.entries c.self.inside.events c.self.inside.locks c.self.inside.sessions.items (g.S.RowStore.view c.self.inside.store) (g.S.RowStore.view c.room_for_row.new.store) c.self.inside.tables.entries c.self.inside.last c.self.inside.owed (c.self.inside.owed - 1) c.self.inside.owed_events c.args.c r _ c.self.invariant lt at refl
    (omega (arith, needs, one)) (omega (arith, opened)) (omega (arith, fit, one))
    (fill_starves st c.self.inside.last c.args.c r fill r.made (g.S.RowStore.view c.room_for_row.new.store) h (record { content = c.in-Err-Memory.ensures.moves.content; others = λ b ne. c.in-Err-Memory.ensures.moves.others b (λ e. ne (e ∙ actor)); limit_same = c.in-Err-Memory.ensures.moves.limit_same }) refl))

pub returns-in-Ok-NoPages-clause-paces : goal.returns-in-Ok-NoPages-clause-paces
returns-in-Ok-NoPages-clause-paces g c =
    inside (λ es d ns. Paces c.args.c (Went event.Fix) ns (nexts_of (set c.self.inside.sessions.items c.args.c c.run_out.new.session)) es c.self.inside.entries.items (g.S.RowStore.view d) (g.S.RowStore.view c.room_for_row.new.store)) _ _ _ _ _ _ _ c.self.view_is
    (paces_refused c.args.c event.Fix c.self.inside.sessions.items c.run_out.new.session (next.Work work.Widen) _ _ (g.S.RowStore.view c.self.inside.store) (g.S.RowStore.view c.room_for_row.new.store)
    (here_inside _ c.args.c (next.Work work.Widen) _ _ _ _ _ _ c.self.view_is c.requires.here) refl refl (omega arith) (ap (λ (y : Session). y.phase) c.run_out.ensures) (acts_same _ _ _ _ c.actor_of-actor.ensures c.in-Ok-NoPages.ensures.acts))

pub returns-in-Ok-NoLog-clause-paces : goal.returns-in-Ok-NoLog-clause-paces
returns-in-Ok-NoLog-clause-paces g c =
    inside (λ es d ns. Paces c.args.c (Went event.Fix) ns (nexts_of (set c.self.inside.sessions.items c.args.c c.run_out-in-Ok-NoLog.new.session)) es c.self.inside.entries.items (g.S.RowStore.view d) (g.S.RowStore.view c.room_for_row.new.store)) _ _ _ _ _ _ _ c.self.view_is
    (paces_refused c.args.c event.Fix c.self.inside.sessions.items c.run_out-in-Ok-NoLog.new.session (next.Work work.Widen) _ _ (g.S.RowStore.view c.self.inside.store) (g.S.RowStore.view c.room_for_row.new.store)
    (here_inside _ c.args.c (next.Work work.Widen) _ _ _ _ _ _ c.self.view_is c.requires.here) refl refl (omega arith) (ap (λ (y : Session). y.phase) c.run_out-in-Ok-NoLog.ensures) (acts_same _ _ _ _ c.actor_of-actor.ensures c.in-Ok-NoLog.ensures.acts))

pub returns-in-Err : goal.returns-in-Err
returns-in-Err g c = record {
  same = c.halt.ensures.same ∙ kept_scripts c.self.inside.sessions.items c.args.c c.index_mut-session.result.now _ c.index_mut-session.ensures.value refl ∙ ap (λ e. e.0) c.self.view_is;
  grows = search rules;
  stops = search rules;
  cause = search rules;
  goes = search rules;
  paces = paces_stopped g.S.RowStore.view c.args.c c.halt.result c.self.inside.sessions.items _ _ _ _ c.args.self.now c.halt.new.self _ _ _ c.self.view_is c.halt.ensures.nexts c.halt.ensures.entries c.halt.ensures.store c.halt.ensures.halted
      (acts_same _ _ _ _ c.actor_of-actor.ensures c.in-Err.ensures.acts);
  why = search rules;
}

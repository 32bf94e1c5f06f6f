use Rattle.std.proofs.Common.{◌≡◌, ◌-◌, ◌<◌, length, sym, ◌∙◌, ap, arith, true}
use Rattle.session_engine.specs.State.{ends_in, opens}
use Rattle.session_engine.specs.Engine.{state}
use Rattle.session_engine.specs.Listing.{is_listed}
use Rattle.session_engine.proofs.FillLemmas.{engine_with}
use Rattle.session_engine.proofs.LayLemmas.{answers_done}
use Rattle.session_engine.proofs.MakeLemmas.{Making}
use Rattle.session_engine.proofs.ReadLemmas.{working_owes}
use Rattle.session_engine.proofs.TellLemmas.{done_ends}
use Rattle.session_engine.proofs.SpentLemmas.{itself, stays_of}
use Rattle.session_engine.proofs.engine.Engine.done.Goals as goal

pub put-requires : goal.put-requires
put-requires g c =
    let lt : c.args.c < length c.self.inside.sessions.items = omega arith in
    let one = (working_owes c.self.inside.entries c.self.inside.events c.self.inside.locks c.self.inside.sessions.items (g.S.RowStore.view c.self.inside.store) c.self.inside.tables.entries c.self.inside.last c.self.inside.owed c.self.inside.owed_events c.args.c c.index_mut-session.result.now c.self.invariant lt c.index_mut-session.ensures.value c.in-Working.is).1 in
    omega (arith, one)

pub overflow_sub-self-2 : goal.overflow_sub-self-2
overflow_sub-self-2 g c =
    let lt : c.args.c < length c.self.inside.sessions.items = omega arith in
    let one = (working_owes c.self.inside.entries c.self.inside.events c.self.inside.locks c.self.inside.sessions.items (g.S.RowStore.view c.self.inside.store) c.self.inside.tables.entries c.self.inside.last c.self.inside.owed c.self.inside.owed_events c.args.c c.index_mut-session.result.now c.self.invariant lt c.index_mut-session.ensures.value c.in-Working.is).0 in
    let three = c.ends.ensures.exact in
    omega (arith, one, three)

pub invariant_of-self : goal.invariant_of-self
invariant_of-self g c =
    let lt : c.args.c < length c.self.inside.sessions.items = omega arith in
    let st = state c.self.inside.entries c.self.inside.events c.self.inside.locks c.self.inside.sessions.items (g.S.RowStore.view c.self.inside.store) c.self.inside.tables.entries in
    let r = c.index_mut-session.result.now in
    let at = c.index_mut-session.ensures.value in
    let is = c.in-Working.is in
    let make = c.in-Create.make in
    let actor = c.actor_of-actor.ensures in
    let h : Making st c.self.inside.last c.args.c c.index_mut-session.result.now c.in-Create.make = record { within = lt; at = at; phase = is; planned = c.in-Create.is; holds = c.self.invariant.holds } in
    let here : c.len-place.result ≡ length c.self.inside.entries.items = (let p = c.len-place.ensures in omega (arith, p)) in
    let listed : is_listed c.in-Create.make ≡ true = sym c.is_listed.ensures ∙ c.in-true.is in
    let follows = c.phase_done-session.ensures in
    let needs : ends_in r.phase ≡ 3 = ap ends_in is in
    let needs_event : opens r.phase ≡ 1 = ap opens is in
    let three = c.ends.ensures.exact in
    let then = c.ends-2.ensures.exact in
    let left = done_ends r.automatic c.phase_done-session.result follows in
    let len = c.put.ensures.len in
    let cap = c.put.ensures.capacity in
    let one = working_owes c.self.inside.entries c.self.inside.events c.self.inside.locks c.self.inside.sessions.items (g.S.RowStore.view c.self.inside.store) c.self.inside.tables.entries c.self.inside.last c.self.inside.owed c.self.inside.owed_events c.args.c c.index_mut-session.result.now c.self.invariant lt c.index_mut-session.ensures.value c.in-Working.is in
    let fit = c.self.invariant.room.entries_fit in
    engine_with c.self.inside.entries c.put.new.items c.self.inside.events c.self.inside.locks c.self.inside.sessions.items (g.S.RowStore.view c.self.inside.store) (g.S.RowStore.view c.let_go.new.self) c.self.inside.tables.entries c.self.inside.last c.self.inside.owed (c.self.inside.owed - (c.ends.result - c.ends-2.result)) c.self.inside.owed_events c.args.c r _ c.self.invariant lt at (itself (stays_of r))
    (omega (arith, needs, three, then, left.0, left.1, one.0)) (omega (arith, needs_event, left.2)) (omega (arith, fit, len, cap, three, then, left.0, left.1, one.0))
    (rw (c.put.ensures.items, c.told_done.ensures) (answers_done st c.self.inside.last c.args.c c.len-place.result r make c.phase_done-session.result (g.S.RowStore.view c.let_go.new.self) h here listed
    (record { content = c.let_go.ensures.same; others = λ b ne. c.let_go.ensures.frame.others b (λ e. ne (e ∙ actor)); limit_same = c.let_go.ensures.frame.limit_same }) follows))

use Rattle.std.proofs.Common.{◌≡◌, ◌+◌, ◌<◌, ◌≤◌, length, refl, ap, arith, true}
use Rattle.lock_manager.specs.Table.{lock}
use Rattle.session_engine.specs.State.{ends_in, opens}
use Rattle.session_engine.specs.Engine.{state}
use Rattle.session_engine.proofs.RoomLemmas.{room_after}
use Rattle.session_engine.proofs.EndLemmas.{gives_up}
use Rattle.session_engine.proofs.SpentLemmas.{spent_set}
use Rattle.session_engine.proofs.PaceLemmas.{gave_up, here_inside, through_at}
use Rattle.session_engine.specs.declared.next.Close.TheVariants as close
use Rattle.session_engine.specs.declared.next.Next.TheVariants as next
use Rattle.session_engine.specs.State.{world_of}
use Rattle.session_engine.specs.declared.session.Phase.TheVariants.{Leaving, Resting}
use Rattle.session_engine.proofs.StepLemmas.{own_session, phase_at}
use Rattle.session_engine.proofs.engine.Engine.give_up.Goals as goal

pub invariant_of-self : goal.invariant_of-self
invariant_of-self g c =
    let through : length c.index_mut-session.result.now.spans ≤ c.index_mut-session.result.now.begun =
    through_at c.self.inside.sessions.items c.args.c c.index_mut-session.result.now (omega arith) c.index_mut-session.ensures.value (here_inside _ c.args.c (next.Close close.GiveUp) _ _ _ _ _ _ c.self.view_is c.requires.here) in
    let lt : c.args.c < length c.self.inside.sessions.items = omega arith in
    let r = c.index_mut-session.result.now in
    let at = c.index_mut-session.ensures.value in
    let needs : ends_in r.phase ≡ 1 = ap ends_in c.in-Resting.is in
    let needs_event : opens r.phase ≡ 1 = ap opens c.in-Resting.is in
    record {
      holds = gives_up (state c.self.inside.entries c.self.inside.events c.self.inside.locks c.self.inside.sessions.items (g.S.RowStore.view c.self.inside.store) c.self.inside.tables.entries) c.self.inside.last c.args.c r lt at c.in-Resting.is c.self.invariant.holds;
      room = room_after c.self.inside.entries c.self.inside.entries c.self.inside.events c.self.inside.events c.self.inside.sessions.items (lock c.self.inside.locks) (lock c.self.inside.locks)
          c.self.inside.owed c.self.inside.owed_events c.self.inside.owed c.self.inside.owed_events c.args.c r _ c.self.invariant.room lt at
          (omega (arith, needs)) (omega (arith, needs_event)) c.self.invariant.room.entries_fit c.self.invariant.room.events_fit;
      woken = c.self.invariant.woken;
      spent = spent_set c.self.inside.sessions.items c.args.c _ (λ e. through) c.self.invariant.spent;
    }

pub returns-clause-leaves : goal.returns-clause-leaves
returns-clause-leaves g c =
    let lt : c.args.c < length c.self.inside.sessions.items = omega arith in
    let st = state c.self.inside.entries c.self.inside.events c.self.inside.locks c.self.inside.sessions.items (g.S.RowStore.view c.self.inside.store) c.self.inside.tables.entries in
    let r = c.index_mut-session.result.now in
    let own = own_session st c.self.inside.last c.args.c r lt c.index_mut-session.ensures.value c.self.invariant.holds in
    let rests = phase_at Resting (world_of st.es) st.lock st.view c.self.inside.last (c.args.c + 1) r c.in-Resting.is own in
    gave_up c.self.inside.sessions.items c.args.c (record r { phase = Leaving; closed = true }) _ _ _ _ _ _ c.self.view_is refl rests.2

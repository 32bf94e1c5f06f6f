use Rattle.std.proofs.Common.{rules, ◌<◌, length, refl, sym, ◌∙◌, ap, subst, arith}
use Rattle.session_engine.specs.Engine.{state}
use Rattle.session_engine.specs.Scanning.{IsSought}
use Rattle.session_engine.specs.declared.session.Plan.TheVariants as plan
use Rattle.session_engine.proofs.CountLemmas.{may_hold}
use Rattle.session_engine.proofs.ReadLemmas.{Reading, scan_described, scan_finds, scan_stays, scan_starves, scan_goes, scan_fails, working_owes}
use Rattle.session_engine.specs.declared.next.Next.TheVariants as next
use Rattle.session_engine.specs.declared.next.Work.TheVariants as work
use Rattle.session_engine.specs.declared.scanning.Sought.TheVariants as sought
use Rattle.session_engine.proofs.KeptLemmas.{kept_scripts}
use Rattle.session_engine.proofs.PaceLemmas.{acts_frame, here_inside, looks_from, paces_stopped}
use Rattle.session_engine.proofs.engine.Engine.seek.Goals as goal

pub seek_row-requires-clause-described : goal.seek_row-requires-clause-described
seek_row-requires-clause-described g c =
    let lt : c.args.c < length c.self.inside.sessions.items = omega arith in
    let st = state c.self.inside.entries c.self.inside.events c.self.inside.locks c.self.inside.sessions.items (g.S.RowStore.view c.self.inside.store) c.self.inside.tables.entries in
    let r = c.index_mut-session.result.now in
    let at = c.index_mut-session.ensures.value in
    let scan = c.in-Select.scan in
    let actor = c.actor_of-actor.ensures in
    let h : Reading st c.self.inside.last c.args.c c.index_mut-session.result.now c.in-Select.scan = record { within = lt; at = at; phase = c.in-Working.is; planned = c.in-Select.is; holds = c.self.invariant.holds } in
    scan_described st c.self.inside.last c.args.c r scan h

pub seek_row-requires-clause-few : goal.seek_row-requires-clause-few
seek_row-requires-clause-few g c =
    may_hold (state c.self.inside.entries c.self.inside.events c.self.inside.locks c.self.inside.sessions.items (g.S.RowStore.view c.self.inside.store) c.self.inside.tables.entries) c.self.inside.last _ c.self.invariant.holds

pub invariant_of-self : goal.invariant_of-self
invariant_of-self g c =
    let lt : c.args.c < length c.self.inside.sessions.items = omega arith in
    let st = state c.self.inside.entries c.self.inside.events c.self.inside.locks c.self.inside.sessions.items (g.S.RowStore.view c.self.inside.store) c.self.inside.tables.entries in
    let r = c.index_mut-session.result.now in
    let at = c.index_mut-session.ensures.value in
    let scan = c.in-Select.scan in
    let actor = c.actor_of-actor.ensures in
    let h : Reading st c.self.inside.last c.args.c c.index_mut-session.result.now c.in-Select.scan = record { within = lt; at = at; phase = c.in-Working.is; planned = c.in-Select.is; holds = c.self.invariant.holds } in
    let from = looks_from c.self.inside.sessions.items c.args.c r scan c.args.after lt at (here_inside _ c.args.c (next.Work (work.Seek c.args.after)) _ _ _ _ _ _ c.self.view_is c.requires.here) c.in-Working.is c.in-Select.is in
    scan_goes c.self.inside.entries c.self.inside.events c.self.inside.locks c.self.inside.sessions.items (g.S.RowStore.view c.self.inside.store) (g.S.RowStore.view c.seek_row.new.store) c.self.inside.tables.entries c.self.inside.last c.self.inside.owed c.self.inside.owed_events c.args.c r (plan.Select (record scan { at = c.in-Ok-Came.at })) c.self.invariant lt at
    (scan_finds st c.self.inside.last c.args.c r scan c.in-Ok-Came.at (g.S.RowStore.view c.seek_row.new.store) h c.in-Ok-Came.ensures.content (λ b ne. c.in-Ok-Came.ensures.frame.others b (λ e. ne (e ∙ actor))) c.in-Ok-Came.ensures.frame.limit_same (subst (λ a. IsSought (g.S.RowStore.view c.self.inside.store).content.heaps c.in-Select.scan.number a (sought.Came c.in-Ok-Came.at)) (sym from) (subst (IsSought (g.S.RowStore.view c.self.inside.store).content.heaps c.in-Select.scan.number c.args.after) c.in-Ok-Came.field-0-is c.in-Ok-Came.ensures.sought)))

pub invariant_of-self-in-Ok-Onward : goal.invariant_of-self-in-Ok-Onward
invariant_of-self-in-Ok-Onward g c =
    let lt : c.args.c < length c.self.inside.sessions.items = omega arith in
    let st = state c.self.inside.entries c.self.inside.events c.self.inside.locks c.self.inside.sessions.items (g.S.RowStore.view c.self.inside.store) c.self.inside.tables.entries in
    let r = c.index_mut-session.result.now in
    let at = c.index_mut-session.ensures.value in
    let scan = c.in-Select.scan in
    let actor = c.actor_of-actor.ensures in
    let h : Reading st c.self.inside.last c.args.c c.index_mut-session.result.now c.in-Select.scan = record { within = lt; at = at; phase = c.in-Working.is; planned = c.in-Select.is; holds = c.self.invariant.holds } in
    scan_goes c.self.inside.entries c.self.inside.events c.self.inside.locks c.self.inside.sessions.items (g.S.RowStore.view c.self.inside.store) (g.S.RowStore.view c.seek_row.new.store) c.self.inside.tables.entries c.self.inside.last c.self.inside.owed c.self.inside.owed_events c.args.c r (plan.Select scan) c.self.invariant lt at
    (scan_stays st c.self.inside.last c.args.c r scan (g.S.RowStore.view c.seek_row.new.store) h c.in-Ok-Onward.ensures.content (λ b ne. c.in-Ok-Onward.ensures.frame.others b (λ e. ne (e ∙ actor))) c.in-Ok-Onward.ensures.frame.limit_same)

pub invariant_of-self-in-Ok-Held : goal.invariant_of-self-in-Ok-Held
invariant_of-self-in-Ok-Held g c =
    let lt : c.args.c < length c.self.inside.sessions.items = omega arith in
    let st = state c.self.inside.entries c.self.inside.events c.self.inside.locks c.self.inside.sessions.items (g.S.RowStore.view c.self.inside.store) c.self.inside.tables.entries in
    let r = c.index_mut-session.result.now in
    let at = c.index_mut-session.ensures.value in
    let scan = c.in-Select.scan in
    let actor = c.actor_of-actor.ensures in
    let h : Reading st c.self.inside.last c.args.c c.index_mut-session.result.now c.in-Select.scan = record { within = lt; at = at; phase = c.in-Working.is; planned = c.in-Select.is; holds = c.self.invariant.holds } in
    scan_goes c.self.inside.entries c.self.inside.events c.self.inside.locks c.self.inside.sessions.items (g.S.RowStore.view c.self.inside.store) (g.S.RowStore.view c.let_go.new.self) c.self.inside.tables.entries c.self.inside.last c.self.inside.owed c.self.inside.owed_events c.args.c r (plan.Select scan) c.self.invariant lt at
    (scan_stays st c.self.inside.last c.args.c r scan (g.S.RowStore.view c.let_go.new.self) h (c.let_go.ensures.same ∙ c.in-Ok-Held.ensures.content) (λ b ne. c.let_go.ensures.frame.others b (λ e. ne (e ∙ actor)) ∙ c.in-Ok-Held.ensures.frame.others b (λ e. ne (e ∙ actor))) (c.let_go.ensures.frame.limit_same ∙ c.in-Ok-Held.ensures.frame.limit_same))

pub invariant_of-self-in-Err-Memory : goal.invariant_of-self-in-Err-Memory
invariant_of-self-in-Err-Memory g c =
    let lt : c.args.c < length c.self.inside.sessions.items = omega arith in
    let st = state c.self.inside.entries c.self.inside.events c.self.inside.locks c.self.inside.sessions.items (g.S.RowStore.view c.self.inside.store) c.self.inside.tables.entries in
    let r = c.index_mut-session.result.now in
    let at = c.index_mut-session.ensures.value in
    let scan = c.in-Select.scan in
    let actor = c.actor_of-actor.ensures in
    let h : Reading st c.self.inside.last c.args.c c.index_mut-session.result.now c.in-Select.scan = record { within = lt; at = at; phase = c.in-Working.is; planned = c.in-Select.is; holds = c.self.invariant.holds } in
    scan_fails c.self.inside.entries c.self.inside.events c.self.inside.locks c.self.inside.sessions.items (g.S.RowStore.view c.self.inside.store) (g.S.RowStore.view c.seek_row.new.store) c.self.inside.tables.entries c.self.inside.last c.self.inside.owed c.self.inside.owed_events c.args.c r c.starve.new.session c.self.invariant lt at c.in-Working.is c.starve.ensures
    (scan_starves st c.self.inside.last c.args.c r scan (plan.Select scan) (g.S.RowStore.view c.seek_row.new.store) h c.in-Err-Memory.ensures.content (λ b ne. c.in-Err-Memory.ensures.frame.others b (λ e. ne (e ∙ actor))) c.in-Err-Memory.ensures.frame.limit_same)

pub invariant_of-self-in-Err : goal.invariant_of-self-in-Err
invariant_of-self-in-Err g c =
    let lt : c.args.c < length c.self.inside.sessions.items = omega arith in
    let st = state c.self.inside.entries c.self.inside.events c.self.inside.locks c.self.inside.sessions.items (g.S.RowStore.view c.self.inside.store) c.self.inside.tables.entries in
    let r = c.index_mut-session.result.now in
    let at = c.index_mut-session.ensures.value in
    let scan = c.in-Select.scan in
    let actor = c.actor_of-actor.ensures in
    let h : Reading st c.self.inside.last c.args.c c.index_mut-session.result.now c.in-Select.scan = record { within = lt; at = at; phase = c.in-Working.is; planned = c.in-Select.is; holds = c.self.invariant.holds } in
    scan_goes c.self.inside.entries c.self.inside.events c.self.inside.locks c.self.inside.sessions.items (g.S.RowStore.view c.self.inside.store) (g.S.RowStore.view c.seek_row.new.store) c.self.inside.tables.entries c.self.inside.last c.self.inside.owed c.self.inside.owed_events c.args.c r (plan.Select scan) c.self.invariant lt at
    (scan_stays st c.self.inside.last c.args.c r scan (g.S.RowStore.view c.seek_row.new.store) h c.in-Err.ensures.content (λ b ne. c.in-Err.ensures.frame.others b (λ e. ne (e ∙ actor))) c.in-Err.ensures.frame.limit_same)

pub overflow_sub-self : goal.overflow_sub-self
overflow_sub-self g c =
    let lt : c.args.c < length c.self.inside.sessions.items = omega arith in
    let one = (working_owes c.self.inside.entries c.self.inside.events c.self.inside.locks c.self.inside.sessions.items (g.S.RowStore.view c.self.inside.store) c.self.inside.tables.entries c.self.inside.last c.self.inside.owed c.self.inside.owed_events c.args.c c.index_mut-session.result.now c.self.invariant lt c.index_mut-session.ensures.value c.in-Working.is).0 in
    omega (arith, one)

pub returns-in-Err : goal.returns-in-Err
returns-in-Err g c = record {
  same = c.halt.ensures.same ∙ kept_scripts c.self.inside.sessions.items c.args.c c.index_mut-session.result.now _ c.index_mut-session.ensures.value refl ∙ ap (λ e. e.0) c.self.view_is;
  grows = search rules;
  stops = search rules;
  cause = search rules;
  goes = search rules;
  paces = paces_stopped g.S.RowStore.view c.args.c c.halt.result c.self.inside.sessions.items _ _ _ _ c.args.self.now c.halt.new.self _ _ _ c.self.view_is c.halt.ensures.nexts c.halt.ensures.entries c.halt.ensures.store c.halt.ensures.halted
      (acts_frame _ _ _ _ c.actor_of-actor.ensures c.in-Err.ensures.frame);
  why = search rules;
}

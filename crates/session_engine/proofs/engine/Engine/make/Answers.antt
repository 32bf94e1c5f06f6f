use Rattle.std.proofs.Common.{◌≡◌, ◌≢◌, ◌-◌, ◌<◌, length, refl, sym, ◌∙◌, ap, subst, arith, None, inl, inr, rules}
use Rattle.dby_types.specs.declared.state.SqlState.TheVariants as state
use Rattle.session_engine.specs.declared.creating.Contained.TheVariants as contained
use Rattle.session_engine.specs.declared.session.Session.{Session}
use Rattle.session_engine.specs.Creating.{IsBare, IsContained, IsTaken}
use Rattle.session_engine.specs.Engine.{state as state_of}
use Rattle.session_engine.specs.State.{ends_in, opens}
use Rattle.session_engine.proofs.CountLemmas.{may_hold}
use Rattle.session_engine.proofs.FillLemmas.{engine_with}
use Rattle.session_engine.proofs.MakeLemmas.{Making, make_at, make_open, make_short, make_on, make_bare, bare_starves, make_spent, makes}
use Rattle.session_engine.proofs.ReadLemmas.{working_owes}
use Rattle.session_engine.proofs.KeptLemmas.{kept_scripts, grows_halted}
use Rattle.session_engine.proofs.PaceLemmas.{paces_stopped, acts_same}
use Rattle.session_engine.proofs.engine.Engine.make.Goals as goal

pub new_heap-requires-clause-begun : goal.new_heap-requires-clause-begun
new_heap-requires-clause-begun g c =
    let lt : c.args.c < length c.self.inside.sessions.items = omega arith in
    let st = state_of c.self.inside.entries c.self.inside.events c.self.inside.locks c.self.inside.sessions.items (g.S.RowStore.view c.self.inside.store) c.self.inside.tables.entries in
    let r = c.index_mut-session.result.now in
    let at = c.index_mut-session.ensures.value in
    let took = subst (IsTaken c.index_mut-session.result.now c.take_unmade.new.session) c.in-Some.is c.take_unmade.ensures in
    let actor = c.actor_of-actor.ensures in
    let h : Making st c.self.inside.last c.args.c c.index_mut-session.result.now c.in-Some.make = record { within = lt; at = at; phase = c.in-Working.is; planned = took.planned; holds = c.self.invariant.holds } in
    subst (λ t. (g.S.RowStore.view c.self.inside.store).content.changes t ≢ None) (sym (ap (λ (s : Session). s.txn.0) took.after)) (make_open st c.self.inside.last c.args.c r c.in-Some.make h)

pub new_heap-requires-clause-hold : goal.new_heap-requires-clause-hold
new_heap-requires-clause-hold g c =
    may_hold (state_of c.self.inside.entries c.self.inside.events c.self.inside.locks c.self.inside.sessions.items (g.S.RowStore.view c.self.inside.store) c.self.inside.tables.entries) c.self.inside.last _ c.self.invariant.holds

pub new_heap-requires-clause-few : goal.new_heap-requires-clause-few
new_heap-requires-clause-few g c =
    let lt : c.args.c < length c.self.inside.sessions.items = omega arith in
    let st = state_of c.self.inside.entries c.self.inside.events c.self.inside.locks c.self.inside.sessions.items (g.S.RowStore.view c.self.inside.store) c.self.inside.tables.entries in
    let r = c.index_mut-session.result.now in
    let at = c.index_mut-session.ensures.value in
    let took = subst (IsTaken c.index_mut-session.result.now c.take_unmade.new.session) c.in-Some.is c.take_unmade.ensures in
    let actor = c.actor_of-actor.ensures in
    let h : Making st c.self.inside.last c.args.c c.index_mut-session.result.now c.in-Some.make = record { within = lt; at = at; phase = c.in-Working.is; planned = took.planned; holds = c.self.invariant.holds } in
    (make_at st c.self.inside.last c.args.c r c.in-Some.make h).3.bears.few

pub new_heap-requires-clause-short : goal.new_heap-requires-clause-short
new_heap-requires-clause-short g c =
    let lt : c.args.c < length c.self.inside.sessions.items = omega arith in
    let st = state_of c.self.inside.entries c.self.inside.events c.self.inside.locks c.self.inside.sessions.items (g.S.RowStore.view c.self.inside.store) c.self.inside.tables.entries in
    let r = c.index_mut-session.result.now in
    let at = c.index_mut-session.ensures.value in
    let took = subst (IsTaken c.index_mut-session.result.now c.take_unmade.new.session) c.in-Some.is c.take_unmade.ensures in
    let actor = c.actor_of-actor.ensures in
    let h : Making st c.self.inside.last c.args.c c.index_mut-session.result.now c.in-Some.make = record { within = lt; at = at; phase = c.in-Working.is; planned = took.planned; holds = c.self.invariant.holds } in
    make_short st c.self.inside.last c.args.c r c.in-Some.make h

pub invariant_of-self : goal.invariant_of-self
invariant_of-self g c =
    let lt : c.args.c < length c.self.inside.sessions.items = omega arith in
    let st = state_of c.self.inside.entries c.self.inside.events c.self.inside.locks c.self.inside.sessions.items (g.S.RowStore.view c.self.inside.store) c.self.inside.tables.entries in
    let r = c.index_mut-session.result.now in
    let at = c.index_mut-session.ensures.value in
    let took = subst (IsTaken c.index_mut-session.result.now c.take_unmade.new.session) c.in-Some.is c.take_unmade.ensures in
    let actor = c.actor_of-actor.ensures in
    let h : Making st c.self.inside.last c.args.c c.index_mut-session.result.now c.in-Some.make = record { within = lt; at = at; phase = c.in-Working.is; planned = took.planned; holds = c.self.invariant.holds } in
    rw took.after (engine_with c.self.inside.entries c.self.inside.entries c.self.inside.events c.self.inside.locks c.self.inside.sessions.items (g.S.RowStore.view c.self.inside.store) (g.S.RowStore.view c.new_heap.new.store) c.self.inside.tables.entries c.self.inside.last c.self.inside.owed c.self.inside.owed c.self.inside.owed_events c.args.c r _ c.self.invariant lt at refl
    refl refl c.self.invariant.room.entries_fit
    (makes st c.self.inside.last c.args.c r c.in-Some.make c.new_heap.new.make (g.S.RowStore.view c.new_heap.new.store) h took.bare c.law.ensures (subst (λ t. IsContained t c.in-Some.make c.new_heap.new.make (g.S.RowStore.view c.self.inside.store) (g.S.RowStore.view c.new_heap.new.store) contained.Made) (ap (λ (s : Session). s.txn.0) took.after) (subst (IsContained c.take_unmade.new.session.txn.0 c.in-Some.make c.new_heap.new.make (g.S.RowStore.view c.self.inside.store) (g.S.RowStore.view c.new_heap.new.store)) c.in-Ok-Made.field-0-is c.in-Ok-Made.ensures.made)) (λ b ne. c.in-Ok-Made.ensures.stays.others b (λ e. ne (e ∙ actor))) c.in-Ok-Made.ensures.stays.limit_same))

pub invariant_of-self-in-Ok-Onward : goal.invariant_of-self-in-Ok-Onward
invariant_of-self-in-Ok-Onward g c =
    let lt : c.args.c < length c.self.inside.sessions.items = omega arith in
    let st = state_of c.self.inside.entries c.self.inside.events c.self.inside.locks c.self.inside.sessions.items (g.S.RowStore.view c.self.inside.store) c.self.inside.tables.entries in
    let r = c.index_mut-session.result.now in
    let at = c.index_mut-session.ensures.value in
    let took = subst (IsTaken c.index_mut-session.result.now c.take_unmade.new.session) c.in-Some.is c.take_unmade.ensures in
    let actor = c.actor_of-actor.ensures in
    let h : Making st c.self.inside.last c.args.c c.index_mut-session.result.now c.in-Some.make = record { within = lt; at = at; phase = c.in-Working.is; planned = took.planned; holds = c.self.invariant.holds } in
    let same = (subst (λ t. IsContained t c.in-Some.make c.new_heap.new.make (g.S.RowStore.view c.self.inside.store) (g.S.RowStore.view c.new_heap.new.store) contained.Onward) (ap (λ (s : Session). s.txn.0) took.after) (subst (IsContained c.take_unmade.new.session.txn.0 c.in-Some.make c.new_heap.new.make (g.S.RowStore.view c.self.inside.store) (g.S.RowStore.view c.new_heap.new.store)) c.in-Ok-Onward.field-0-is c.in-Ok-Onward.ensures.made)) in
    rw (took.after, same.0) (engine_with c.self.inside.entries c.self.inside.entries c.self.inside.events c.self.inside.locks c.self.inside.sessions.items (g.S.RowStore.view c.self.inside.store) (g.S.RowStore.view c.new_heap.new.store) c.self.inside.tables.entries c.self.inside.last c.self.inside.owed c.self.inside.owed c.self.inside.owed_events c.args.c r _ c.self.invariant lt at refl
    refl refl c.self.invariant.room.entries_fit
    (make_on st c.self.inside.last c.args.c c.in-Some.make.def.number r c.in-Some.make (g.S.RowStore.view c.new_heap.new.store) h took.bare (record { content = same.1; others = λ b ne. c.in-Ok-Onward.ensures.stays.others b (λ e. ne (e ∙ actor)); limit_same = c.in-Ok-Onward.ensures.stays.limit_same })))

pub invariant_of-self-in-Err : goal.invariant_of-self-in-Err
invariant_of-self-in-Err g c =
    let lt : c.args.c < length c.self.inside.sessions.items = omega arith in
    let st = state_of c.self.inside.entries c.self.inside.events c.self.inside.locks c.self.inside.sessions.items (g.S.RowStore.view c.self.inside.store) c.self.inside.tables.entries in
    let r = c.index_mut-session.result.now in
    let at = c.index_mut-session.ensures.value in
    let took = subst (IsTaken c.index_mut-session.result.now c.take_unmade.new.session) c.in-Some.is c.take_unmade.ensures in
    let actor = c.actor_of-actor.ensures in
    let h : Making st c.self.inside.last c.args.c c.index_mut-session.result.now c.in-Some.make = record { within = lt; at = at; phase = c.in-Working.is; planned = took.planned; holds = c.self.invariant.holds } in
    let left = subst (λ t. IsBare t c.in-Some.make c.new_heap.new.make (g.S.RowStore.view c.self.inside.store) (g.S.RowStore.view c.new_heap.new.store)) (ap (λ (s : Session). s.txn.0) took.after) c.in-Err.ensures.err in
    rw took.after (engine_with c.self.inside.entries c.self.inside.entries c.self.inside.events c.self.inside.locks c.self.inside.sessions.items (g.S.RowStore.view c.self.inside.store) (g.S.RowStore.view c.new_heap.new.store) c.self.inside.tables.entries c.self.inside.last c.self.inside.owed c.self.inside.owed c.self.inside.owed_events c.args.c r _ c.self.invariant lt at refl
    refl refl c.self.invariant.room.entries_fit
    (make_bare st c.self.inside.last c.args.c r c.in-Some.make c.new_heap.new.make (g.S.RowStore.view c.new_heap.new.store) h took.bare c.law.ensures left (λ b ne. c.in-Err.ensures.stays.others b (λ e. ne (e ∙ actor))) c.in-Err.ensures.stays.limit_same))

pub invariant_of-self-in-Ok-NoPages : goal.invariant_of-self-in-Ok-NoPages
invariant_of-self-in-Ok-NoPages g c =
    let lt : c.args.c < length c.self.inside.sessions.items = omega arith in
    let st = state_of c.self.inside.entries c.self.inside.events c.self.inside.locks c.self.inside.sessions.items (g.S.RowStore.view c.self.inside.store) c.self.inside.tables.entries in
    let r = c.index_mut-session.result.now in
    let at = c.index_mut-session.ensures.value in
    let took = subst (IsTaken c.index_mut-session.result.now c.take_unmade.new.session) c.in-Some.is c.take_unmade.ensures in
    let actor = c.actor_of-actor.ensures in
    let h : Making st c.self.inside.last c.args.c c.index_mut-session.result.now c.in-Some.make = record { within = lt; at = at; phase = c.in-Working.is; planned = took.planned; holds = c.self.invariant.holds } in
    let needs : ends_in r.phase ≡ 3 = ap ends_in c.in-Working.is in
    let opened : opens r.phase ≡ 1 = ap opens c.in-Working.is in
    let one = (working_owes c.self.inside.entries c.self.inside.events c.self.inside.locks c.self.inside.sessions.items (g.S.RowStore.view c.self.inside.store) c.self.inside.tables.entries c.self.inside.last c.self.inside.owed c.self.inside.owed_events c.args.c c.index_mut-session.result.now c.self.invariant lt c.index_mut-session.ensures.value c.in-Working.is).0 in
    let fit = c.self.invariant.room.entries_fit in
    let same = (subst (λ t. IsContained t c.in-Some.make c.new_heap.new.make (g.S.RowStore.view c.self.inside.store) (g.S.RowStore.view c.new_heap.new.store) contained.NoPages) (ap (λ (s : Session). s.txn.0) took.after) (subst (IsContained c.take_unmade.new.session.txn.0 c.in-Some.make c.new_heap.new.make (g.S.RowStore.view c.self.inside.store) (g.S.RowStore.view c.new_heap.new.store)) c.in-Ok-NoPages.field-0-is c.in-Ok-NoPages.ensures.made)) in
    rw (c.run_out.ensures, took.after) (engine_with c.self.inside.entries c.self.inside.entries c.self.inside.events c.self.inside.locks c.self.inside.sessions.items (g.S.RowStore.view c.self.inside.store) (g.S.RowStore.view c.new_heap.new.store) c.self.inside.tables.entries c.self.inside.last c.self.inside.owed (c.self.inside.owed - 1) c.self.inside.owed_events c.args.c r _ c.self.invariant lt at refl
    (omega (arith, needs, one)) (omega (arith, opened)) (omega (arith, fit, one))
    (make_spent st c.self.inside.last c.args.c r c.in-Some.make state.PagesSpent (g.S.RowStore.view c.new_heap.new.store) h (record { content = same.1; others = λ b ne. c.in-Ok-NoPages.ensures.stays.others b (λ e. ne (e ∙ actor)); limit_same = c.in-Ok-NoPages.ensures.stays.limit_same }) (inl refl)))

pub invariant_of-self-in-Ok-NoLog : goal.invariant_of-self-in-Ok-NoLog
invariant_of-self-in-Ok-NoLog g c =
    let lt : c.args.c < length c.self.inside.sessions.items = omega arith in
    let st = state_of c.self.inside.entries c.self.inside.events c.self.inside.locks c.self.inside.sessions.items (g.S.RowStore.view c.self.inside.store) c.self.inside.tables.entries in
    let r = c.index_mut-session.result.now in
    let at = c.index_mut-session.ensures.value in
    let took = subst (IsTaken c.index_mut-session.result.now c.take_unmade.new.session) c.in-Some.is c.take_unmade.ensures in
    let actor = c.actor_of-actor.ensures in
    let h : Making st c.self.inside.last c.args.c c.index_mut-session.result.now c.in-Some.make = record { within = lt; at = at; phase = c.in-Working.is; planned = took.planned; holds = c.self.invariant.holds } in
    let needs : ends_in r.phase ≡ 3 = ap ends_in c.in-Working.is in
    let opened : opens r.phase ≡ 1 = ap opens c.in-Working.is in
    let one = (working_owes c.self.inside.entries c.self.inside.events c.self.inside.locks c.self.inside.sessions.items (g.S.RowStore.view c.self.inside.store) c.self.inside.tables.entries c.self.inside.last c.self.inside.owed c.self.inside.owed_events c.args.c c.index_mut-session.result.now c.self.invariant lt c.index_mut-session.ensures.value c.in-Working.is).0 in
    let fit = c.self.invariant.room.entries_fit in
    let same = (subst (λ t. IsContained t c.in-Some.make c.new_heap.new.make (g.S.RowStore.view c.self.inside.store) (g.S.RowStore.view c.new_heap.new.store) contained.NoLog) (ap (λ (s : Session). s.txn.0) took.after) (subst (IsContained c.take_unmade.new.session.txn.0 c.in-Some.make c.new_heap.new.make (g.S.RowStore.view c.self.inside.store) (g.S.RowStore.view c.new_heap.new.store)) c.in-Ok-NoLog.field-0-is c.in-Ok-NoLog.ensures.made)) in
    rw (c.run_out-in-Ok-NoLog.ensures, took.after) (engine_with c.self.inside.entries c.self.inside.entries c.self.inside.events c.self.inside.locks c.self.inside.sessions.items (g.S.RowStore.view c.self.inside.store) (g.S.RowStore.view c.new_heap.new.store) c.self.inside.tables.entries c.self.inside.last c.self.inside.owed (c.self.inside.owed - 1) c.self.inside.owed_events c.args.c r _ c.self.invariant lt at refl
    (omega (arith, needs, one)) (omega (arith, opened)) (omega (arith, fit, one))
    (make_spent st c.self.inside.last c.args.c r c.in-Some.make state.LogSpent (g.S.RowStore.view c.new_heap.new.store) h (record { content = same.1; others = λ b ne. c.in-Ok-NoLog.ensures.stays.others b (λ e. ne (e ∙ actor)); limit_same = c.in-Ok-NoLog.ensures.stays.limit_same }) (inr refl)))

pub invariant_of-self-in-Err-Memory : goal.invariant_of-self-in-Err-Memory
invariant_of-self-in-Err-Memory g c =
    let lt : c.args.c < length c.self.inside.sessions.items = omega arith in
    let st = state_of c.self.inside.entries c.self.inside.events c.self.inside.locks c.self.inside.sessions.items (g.S.RowStore.view c.self.inside.store) c.self.inside.tables.entries in
    let r = c.index_mut-session.result.now in
    let at = c.index_mut-session.ensures.value in
    let took = subst (IsTaken c.index_mut-session.result.now c.take_unmade.new.session) c.in-Some.is c.take_unmade.ensures in
    let actor = c.actor_of-actor.ensures in
    let h : Making st c.self.inside.last c.args.c c.index_mut-session.result.now c.in-Some.make = record { within = lt; at = at; phase = c.in-Working.is; planned = took.planned; holds = c.self.invariant.holds } in
    let needs : ends_in r.phase ≡ 3 = ap ends_in c.in-Working.is in
    let opened : opens r.phase ≡ 1 = ap opens c.in-Working.is in
    let one = (working_owes c.self.inside.entries c.self.inside.events c.self.inside.locks c.self.inside.sessions.items (g.S.RowStore.view c.self.inside.store) c.self.inside.tables.entries c.self.inside.last c.self.inside.owed c.self.inside.owed_events c.args.c c.index_mut-session.result.now c.self.invariant lt c.index_mut-session.ensures.value c.in-Working.is).0 in
    let fit = c.self.invariant.room.entries_fit in
    let left = subst (λ t. IsBare t c.in-Some.make c.new_heap.new.make (g.S.RowStore.view c.self.inside.store) (g.S.RowStore.view c.new_heap.new.store)) (ap (λ (s : Session). s.txn.0) took.after) c.in-Err-Memory.ensures.err in
    rw (c.starve.ensures, took.after) (engine_with c.self.inside.entries c.self.inside.entries c.self.inside.events c.self.inside.locks c.self.inside.sessions.items (g.S.RowStore.view c.self.inside.store) (g.S.RowStore.view c.new_heap.new.store) c.self.inside.tables.entries c.self.inside.last c.self.inside.owed (c.self.inside.owed - 1) c.self.inside.owed_events c.args.c r _ c.self.invariant lt at refl
    (omega (arith, needs, one)) (omega (arith, opened)) (omega (arith, fit, one))
    (bare_starves st c.self.inside.last c.args.c r c.in-Some.make c.new_heap.new.make (g.S.RowStore.view c.new_heap.new.store) h c.law.ensures left (λ b ne. c.in-Err-Memory.ensures.stays.others b (λ e. ne (e ∙ actor))) c.in-Err-Memory.ensures.stays.limit_same))

pub overflow_sub-self : goal.overflow_sub-self
overflow_sub-self g c =
    let lt : c.args.c < length c.self.inside.sessions.items = omega arith in
    let one = (working_owes c.self.inside.entries c.self.inside.events c.self.inside.locks c.self.inside.sessions.items (g.S.RowStore.view c.self.inside.store) c.self.inside.tables.entries c.self.inside.last c.self.inside.owed c.self.inside.owed_events c.args.c c.index_mut-session.result.now c.self.invariant lt c.index_mut-session.ensures.value c.in-Working.is).0 in
    omega (arith, one)

pub overflow_sub-self-in-Ok-NoLog : goal.overflow_sub-self-in-Ok-NoLog
overflow_sub-self-in-Ok-NoLog g c =
    let lt : c.args.c < length c.self.inside.sessions.items = omega arith in
    let one = (working_owes c.self.inside.entries c.self.inside.events c.self.inside.locks c.self.inside.sessions.items (g.S.RowStore.view c.self.inside.store) c.self.inside.tables.entries c.self.inside.last c.self.inside.owed c.self.inside.owed_events c.args.c c.index_mut-session.result.now c.self.invariant lt c.index_mut-session.ensures.value c.in-Working.is).0 in
    omega (arith, one)

pub overflow_sub-self-in-Err-Memory : goal.overflow_sub-self-in-Err-Memory
overflow_sub-self-in-Err-Memory g c =
    let lt : c.args.c < length c.self.inside.sessions.items = omega arith in
    let one = (working_owes c.self.inside.entries c.self.inside.events c.self.inside.locks c.self.inside.sessions.items (g.S.RowStore.view c.self.inside.store) c.self.inside.tables.entries c.self.inside.last c.self.inside.owed c.self.inside.owed_events c.args.c c.index_mut-session.result.now c.self.invariant lt c.index_mut-session.ensures.value c.in-Working.is).0 in
    omega (arith, one)

pub returns-in-Err : goal.returns-in-Err
returns-in-Err g c =
    let took = subst (IsTaken c.index_mut-session.result.now c.take_unmade.new.session) c.in-Some.is c.take_unmade.ensures in
    record {
      same = c.halt.ensures.same ∙ kept_scripts c.self.inside.sessions.items c.args.c c.index_mut-session.result.now _ c.index_mut-session.ensures.value (ap (λ (x : Session). x.script) took.after) ∙ ap (λ e. e.0) c.self.view_is;
      grows = grows_halted _ _ _ _ c.halt.ensures.halted (c.halt.ensures.entries ∙ ap (λ e. e.1) c.self.view_is);
      stops = search rules;
      cause = search rules;
      goes = search rules;
      paces = paces_stopped g.S.RowStore.view c.args.c c.halt.result c.self.inside.sessions.items _ _ _ _ c.args.self.now c.halt.new.self _ _ _ c.self.view_is c.halt.ensures.nexts c.halt.ensures.entries c.halt.ensures.store c.halt.ensures.halted
          (acts_same _ _ _ _ c.actor_of-actor.ensures c.in-Err.ensures.acts);
      why = search rules;
    }

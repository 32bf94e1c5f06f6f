use Rattle.std.proofs.Common.{◌≡◌, ◌+◌, ◌-◌, ◌<◌, ◌++◌, [], ◌∷◌, length, length-append, refl, ◌∙◌, ap, subst, arith, None, false}
use Rattle.store_api.specs.Effects.{with_slot, slot_of}
use Rattle.session_engine.specs.Engine.{state}
use Rattle.session_engine.specs.Filling.{IsNextRow, inserted}
use Rattle.session_engine.specs.State.{ends_in, opens}
use Rattle.session_engine.proofs.ReadLemmas.{working_owes}
use Rattle.session_engine.proofs.StepLemmas.{kept_content}
use Rattle.session_engine.proofs.FillLemmas.{Filling, fill_stored, fill_starves, engine_with}
use Rattle.session_engine.proofs.PutLemmas.{fill_puts}
use Rattle.session_engine.proofs.engine.Engine.fill.Goals as goal

pub overflow_sub-self : goal.overflow_sub-self
overflow_sub-self g c =
    let lt : c.args.c < length c.self.inside.sessions.items = omega arith in
    let one = (working_owes c.self.inside.entries c.self.inside.events c.self.inside.locks c.self.inside.sessions.items (g.S.RowStore.view c.self.inside.store) c.self.inside.tables.entries c.self.inside.last c.self.inside.owed c.self.inside.owed_events c.args.c c.index_mut-session.result.now c.self.invariant lt c.index_mut-session.ensures.value c.in-Working.is).0 in
    omega (arith, one)

pub overflow_sub-self-in-Err : goal.overflow_sub-self-in-Err
overflow_sub-self-in-Err g c =
    let lt : c.args.c < length c.self.inside.sessions.items = omega arith in
    let one = (working_owes c.self.inside.entries c.self.inside.events c.self.inside.locks c.self.inside.sessions.items (g.S.RowStore.view c.self.inside.store) c.self.inside.tables.entries c.self.inside.last c.self.inside.owed c.self.inside.owed_events c.args.c c.index_mut-session.result.now c.self.invariant lt c.index_mut-session.ensures.value c.in-Working.is).0 in
    omega (arith, one)

pub put_row-requires-clause-fits : goal.put_row-requires-clause-fits
put_row-requires-clause-fits g c =
    let lt : c.args.c < length c.self.inside.sessions.items = omega arith in
    let st = state c.self.inside.entries c.self.inside.events c.self.inside.locks c.self.inside.sessions.items (g.S.RowStore.view c.self.inside.store) c.self.inside.tables.entries in
    let r = c.index_mut-session.result.now in
    let at = c.index_mut-session.ensures.value in
    let actor = c.actor_of-actor.ensures in
    let took = subst (IsNextRow c.index_mut-session.result.now c.next_row.new.session) c.in-Some.is c.next_row.ensures in
    let h : Filling st c.self.inside.last c.args.c c.index_mut-session.result.now took.fill = record { within = lt; at = at; phase = c.in-Working.is; planned = took.planned; holds = c.self.invariant.holds } in
    let stored = fill_stored st c.self.inside.last c.args.c r took.fill took.left c.in-Some.row h took.pops in
    (stored.0, ap (g.S.RowStore.view c.self.inside.store).content.columns took.number_is ∙ stored.1, stored.2)

pub invariant_of-self : goal.invariant_of-self
invariant_of-self g c =
    let lt : c.args.c < length c.self.inside.sessions.items = omega arith in
    let st = state c.self.inside.entries c.self.inside.events c.self.inside.locks c.self.inside.sessions.items (g.S.RowStore.view c.self.inside.store) c.self.inside.tables.entries in
    let r = c.index_mut-session.result.now in
    let at = c.index_mut-session.ensures.value in
    let actor = c.actor_of-actor.ensures in
    let took = subst (IsNextRow c.index_mut-session.result.now c.next_row.new.session) c.in-Some.is c.next_row.ensures in
    let h : Filling st c.self.inside.last c.args.c c.index_mut-session.result.now took.fill = record { within = lt; at = at; phase = c.in-Working.is; planned = took.planned; holds = c.self.invariant.holds } in
    let needs : ends_in r.phase ≡ 3 = ap ends_in c.in-Working.is in
    let opened : opens r.phase ≡ 1 = ap opens c.in-Working.is in
    let one = (working_owes c.self.inside.entries c.self.inside.events c.self.inside.locks c.self.inside.sessions.items (g.S.RowStore.view c.self.inside.store) c.self.inside.tables.entries c.self.inside.last c.self.inside.owed c.self.inside.owed_events c.args.c c.index_mut-session.result.now c.self.invariant lt c.index_mut-session.ensures.value c.in-Working.is).0 in
    let kept = c.room_to_change.ensures.kept in
    let fit = c.self.invariant.room.entries_fit in
    let same : c.room_to_change.new.made.items ≡ r.made.items = c.room_to_change.ensures.made ∙ ap (λ s. s.made.items) took.after in
    let size = ap length same in
    rw (c.starve.ensures, took.after) (engine_with c.self.inside.entries c.room_to_change.new.entries c.self.inside.events c.self.inside.locks c.self.inside.sessions.items (g.S.RowStore.view c.self.inside.store) (g.S.RowStore.view c.self.inside.store) c.self.inside.tables.entries c.self.inside.last c.self.inside.owed (c.self.inside.owed - 1) c.self.inside.owed_events c.args.c r _ c.self.invariant lt at refl
    (omega (arith, needs, one, size)) (omega (arith, opened)) (omega (arith, fit, kept.0, kept.1, one))
    (rw c.room_to_change.ensures.entries (fill_starves st c.self.inside.last c.args.c r took.fill c.room_to_change.new.made (g.S.RowStore.view c.self.inside.store) h (record { content = refl; others = λ b ne. refl; limit_same = refl }) same)))

pub invariant_of-self-in-Err : goal.invariant_of-self-in-Err
invariant_of-self-in-Err g c =
    let lt : c.args.c < length c.self.inside.sessions.items = omega arith in
    let st = state c.self.inside.entries c.self.inside.events c.self.inside.locks c.self.inside.sessions.items (g.S.RowStore.view c.self.inside.store) c.self.inside.tables.entries in
    let r = c.index_mut-session.result.now in
    let at = c.index_mut-session.ensures.value in
    let actor = c.actor_of-actor.ensures in
    let took = subst (IsNextRow c.index_mut-session.result.now c.next_row.new.session) c.in-Some.is c.next_row.ensures in
    let h : Filling st c.self.inside.last c.args.c c.index_mut-session.result.now took.fill = record { within = lt; at = at; phase = c.in-Working.is; planned = took.planned; holds = c.self.invariant.holds } in
    let needs : ends_in r.phase ≡ 3 = ap ends_in c.in-Working.is in
    let opened : opens r.phase ≡ 1 = ap opens c.in-Working.is in
    let one = (working_owes c.self.inside.entries c.self.inside.events c.self.inside.locks c.self.inside.sessions.items (g.S.RowStore.view c.self.inside.store) c.self.inside.tables.entries c.self.inside.last c.self.inside.owed c.self.inside.owed_events c.args.c c.index_mut-session.result.now c.self.invariant lt c.index_mut-session.ensures.value c.in-Working.is).0 in
    let kept = c.room_to_change.ensures.kept in
    let fit = c.self.invariant.room.entries_fit in
    let same : c.room_to_change.new.made.items ≡ r.made.items = c.room_to_change.ensures.made ∙ ap (λ s. s.made.items) took.after in
    let size = ap length same in
    rw (c.starve-in-Err.ensures, took.after) (engine_with c.self.inside.entries c.room_to_change.new.entries c.self.inside.events c.self.inside.locks c.self.inside.sessions.items (g.S.RowStore.view c.self.inside.store) (g.S.RowStore.view c.put_row.new.self) c.self.inside.tables.entries c.self.inside.last c.self.inside.owed (c.self.inside.owed - 1) c.self.inside.owed_events c.args.c r _ c.self.invariant lt at refl
    (omega (arith, needs, one, size)) (omega (arith, opened)) (omega (arith, fit, kept.0, kept.1, one))
    (rw c.room_to_change.ensures.entries (fill_starves st c.self.inside.last c.args.c r took.fill c.room_to_change.new.made (g.S.RowStore.view c.put_row.new.self) h (record { content = kept_content _ _ _ _ _ _ c.in-Err.ensures.err; others = λ b ne. c.in-Err.ensures.frame.others b (λ e. ne (e ∙ actor)); limit_same = c.in-Err.ensures.frame.limit_same }) same)))

pub invariant_of-self-in-Ok-put_row : goal.invariant_of-self-in-Ok-put_row
invariant_of-self-in-Ok-put_row g c =
    let lt : c.args.c < length c.self.inside.sessions.items = omega arith in
    let st = state c.self.inside.entries c.self.inside.events c.self.inside.locks c.self.inside.sessions.items (g.S.RowStore.view c.self.inside.store) c.self.inside.tables.entries in
    let r = c.index_mut-session.result.now in
    let at = c.index_mut-session.ensures.value in
    let actor = c.actor_of-actor.ensures in
    let took = subst (IsNextRow c.index_mut-session.result.now c.next_row.new.session) c.in-Some.is c.next_row.ensures in
    let h : Filling st c.self.inside.last c.args.c c.index_mut-session.result.now took.fill = record { within = lt; at = at; phase = c.in-Working.is; planned = took.planned; holds = c.self.invariant.holds } in
    let needs : ends_in r.phase ≡ 3 = ap ends_in c.in-Working.is in
    let opened : opens r.phase ≡ 1 = ap opens c.in-Working.is in
    let room = c.in-Ok.ensures.room in
    let same : c.room_to_change.new.made.items ≡ r.made.items = c.in-Ok.ensures.made ∙ ap (λ s. s.made.items) took.after in
    let pushed : c.put.new.items.items ≡ r.made.items ++ c.len-did.result ∷ [] = c.put.ensures.items ∙ ap (λ xs. xs ++ c.len-did.result ∷ []) same in
    let more = length-append r.made.items (c.len-did.result ∷ []) in
    let size = ap length pushed in
    let len = c.put-in-Ok-put_row.ensures.len in
    let cap = c.put-in-Ok-put_row.ensures.capacity in
    let here : c.len-did.result ≡ length c.self.inside.entries.items = (let p = c.len-did.ensures in omega (arith, p)) in
    let txn = ap (λ s. s.txn) took.after in
    let puts = c.in-Ok-put_row.ensures.ok in
    let none = subst (λ n. (g.S.RowStore.view c.self.inside.store).content.heaps n c.in-Ok-put_row.rid ≡ None) took.number_is puts.none in
    let stored = subst (λ n. (g.S.RowStore.view c.put_row.new.self).content ≡ with_slot (g.S.RowStore.view c.self.inside.store).content c.index_mut-session.result.now.txn.0 n c.in-Ok-put_row.rid (slot_of c.in-Some.row false)) took.number_is
    (subst (λ t. (g.S.RowStore.view c.put_row.new.self).content ≡ with_slot (g.S.RowStore.view c.self.inside.store).content t.0 c.in-Some.number c.in-Ok-put_row.rid (slot_of c.in-Some.row false)) txn puts.stored.stored) in
    let es : c.put-in-Ok-put_row.new.items.items ≡ c.self.inside.entries.items ++ inserted c.index_mut-session.result.now.txn took.fill.number c.in-Ok-put_row.rid c.in-Some.row ∷ [] =
    c.put-in-Ok-put_row.ensures.items ∙ ap (λ xs. xs ++ c.inserted.result ∷ []) c.in-Ok.ensures.entries
    ∙ ap (λ e. c.self.inside.entries.items ++ e ∷ []) (c.inserted.ensures ∙ ap (λ t. inserted t c.in-Some.number c.in-Ok-put_row.rid c.in-Some.row) txn ∙ ap (λ n. inserted c.index_mut-session.result.now.txn n c.in-Ok-put_row.rid c.in-Some.row) took.number_is) in
    rw took.after (engine_with c.self.inside.entries c.put-in-Ok-put_row.new.items c.self.inside.events c.self.inside.locks c.self.inside.sessions.items (g.S.RowStore.view c.self.inside.store) (g.S.RowStore.view c.put_row.new.self) c.self.inside.tables.entries c.self.inside.last c.self.inside.owed (c.self.inside.owed + 1) c.self.inside.owed_events c.args.c r _ c.self.invariant lt at refl
    (omega (arith, needs, size, more)) (omega (arith, opened)) (omega (arith, room.0, len, cap))
    (rw es ((fill_puts st c.self.inside.last c.args.c c.len-did.result r took.fill took.left c.put.new.items c.in-Ok-put_row.rid c.in-Some.row (g.S.RowStore.view c.put_row.new.self) h
    took.pops.rest took.pops.rows pushed here none stored (λ b ne. c.in-Ok-put_row.ensures.frame.others b (λ e. ne (e ∙ actor))) c.in-Ok-put_row.ensures.frame.limit_same))))

use Rattle.std.proofs.Common.{◌≡◌, ◌+◌, ◌-◌, ◌<◌, ◌++◌, [], ◌∷◌, length, length-append, refl, sym, ◌∙◌, ap, subst, arith, Some, None, false}
use Rattle.std.specs.Prelude.{Result, Ok, IfOk}
use Rattle.std.specs.declared.alloc.AllocError.{AllocError}
use Rattle.journal_model.specs.Catalog.{table_row}
use Rattle.store_api.specs.Effects.{with_slot, slot_of}
use Rattle.table_model.specs.Fitting.{fits_columns}
use Rattle.session_engine.specs.declared.listing.Listing.{Listing}
use Rattle.session_engine.specs.Engine.{state}
use Rattle.session_engine.specs.Filling.{inserted}
use Rattle.session_engine.specs.Listing.{IsTableToPut, IsListed}
use Rattle.session_engine.specs.State.{ends_in, opens}
use Rattle.session_engine.proofs.FillLemmas.{engine_with, engine_listing}
use Rattle.session_engine.proofs.LayLemmas.{lists, list_stored, list_room, list_absent, entry_of}
use Rattle.session_engine.proofs.MakeLemmas.{Making, make_open, make_starves}
use Rattle.session_engine.proofs.ReadLemmas.{working_owes}
use Rattle.session_engine.proofs.StepLemmas.{kept_content}
use Rattle.session_engine.proofs.KeptLemmas.{grows_nothing}
use Rattle.session_engine.specs.declared.step.Event.TheVariants as event
use Rattle.session_engine.proofs.engine.Engine.list.Goals as goal

pub overflow_sub-self : goal.overflow_sub-self
overflow_sub-self g c =
    let lt : c.args.c < length c.self.inside.sessions.items = omega arith in
    let one = (working_owes c.self.inside.entries c.self.inside.events c.self.inside.locks c.self.inside.sessions.items (g.S.RowStore.view c.self.inside.store) c.self.inside.tables.entries c.self.inside.last c.self.inside.owed c.self.inside.owed_events c.args.c c.index_mut-session.result.now c.self.invariant lt c.index_mut-session.ensures.value c.in-Working.is).0 in
    omega (arith, one)

pub overflow_sub-self-in-Err : goal.overflow_sub-self-in-Err
overflow_sub-self-in-Err g c =
    let lt : c.args.c < length c.self.inside.sessions.items = omega arith in
    let one = (working_owes c.self.inside.entries c.self.inside.events c.self.inside.locks c.self.inside.sessions.items (g.S.RowStore.view c.self.inside.store) c.self.inside.tables.entries c.self.inside.last c.self.inside.owed c.self.inside.owed_events c.args.c c.index_mut-session.result.now c.self.invariant lt c.index_mut-session.ensures.value c.in-Working.is).0 in
    omega (arith, one)

pub put_row-requires-clause-begun : goal.put_row-requires-clause-begun
put_row-requires-clause-begun g c =
    let lt : c.args.c < length c.self.inside.sessions.items = omega arith in
    let st = state c.self.inside.entries c.self.inside.events c.self.inside.locks c.self.inside.sessions.items (g.S.RowStore.view c.self.inside.store) c.self.inside.tables.entries in
    let r = c.index_mut-session.result.now in
    let at = c.index_mut-session.ensures.value in
    let actor = c.actor_of-actor.ensures in
    let took = subst (IsTableToPut c.index_mut-session.result.now c.table_to_put.new.session) c.in-Some.is c.table_to_put.ensures in
    let h : Making st c.self.inside.last c.args.c c.index_mut-session.result.now took.make = record { within = lt; at = at; phase = c.in-Working.is; planned = took.planned; holds = c.self.invariant.holds } in
    subst (λ t. (g.S.RowStore.view c.self.inside.store).content.changes t ≡ None → ⊥) (sym (ap (λ s. s.txn.0) took.after)) (make_open st c.self.inside.last c.args.c r took.make h)

pub put_row-requires-clause-room : goal.put_row-requires-clause-room
put_row-requires-clause-room g c =
    let lt : c.args.c < length c.self.inside.sessions.items = omega arith in
    let st = state c.self.inside.entries c.self.inside.events c.self.inside.locks c.self.inside.sessions.items (g.S.RowStore.view c.self.inside.store) c.self.inside.tables.entries in
    let r = c.index_mut-session.result.now in
    let at = c.index_mut-session.ensures.value in
    let actor = c.actor_of-actor.ensures in
    let took = subst (IsTableToPut c.index_mut-session.result.now c.table_to_put.new.session) c.in-Some.is c.table_to_put.ensures in
    let h : Making st c.self.inside.last c.args.c c.index_mut-session.result.now took.make = record { within = lt; at = at; phase = c.in-Working.is; planned = took.planned; holds = c.self.invariant.holds } in
    let put = subst (λ (x : Result Listing AllocError). IsListed took.make took.left (Some x)) (subst (λ (x : Result Listing AllocError). IfOk x (λ l. c.in-Some.listed ≡ Ok l)) c.in-Ok.ensures.same c.ready_to_list-roomy.ensures.same) took.does in
    subst (λ a. ((g.S.RowStore.view c.self.inside.store).actors a).room ≡ Some 1) (sym actor) (list_room st c.self.inside.last c.args.c r took.make h put.0.takes.had_room put.0.all)

pub put_row-requires-clause-fits : goal.put_row-requires-clause-fits
put_row-requires-clause-fits g c =
    let lt : c.args.c < length c.self.inside.sessions.items = omega arith in
    let st = state c.self.inside.entries c.self.inside.events c.self.inside.locks c.self.inside.sessions.items (g.S.RowStore.view c.self.inside.store) c.self.inside.tables.entries in
    let r = c.index_mut-session.result.now in
    let at = c.index_mut-session.ensures.value in
    let actor = c.actor_of-actor.ensures in
    let took = subst (IsTableToPut c.index_mut-session.result.now c.table_to_put.new.session) c.in-Some.is c.table_to_put.ensures in
    let h : Making st c.self.inside.last c.args.c c.index_mut-session.result.now took.make = record { within = lt; at = at; phase = c.in-Working.is; planned = took.planned; holds = c.self.invariant.holds } in
    let put = subst (λ (x : Result Listing AllocError). IsListed took.make took.left (Some x)) (subst (λ (x : Result Listing AllocError). IfOk x (λ l. c.in-Some.listed ≡ Ok l)) c.in-Ok.ensures.same c.ready_to_list-roomy.ensures.same) took.does in
    let stored = list_stored st c.self.inside.last c.args.c r took.make h put.0.takes.made put.0.all in
    (stored.0, stored.1, ap (fits_columns stored.0) put.1.row ∙ stored.2)

pub invariant_of-self : goal.invariant_of-self
invariant_of-self g c =
    let lt : c.args.c < length c.self.inside.sessions.items = omega arith in
    let st = state c.self.inside.entries c.self.inside.events c.self.inside.locks c.self.inside.sessions.items (g.S.RowStore.view c.self.inside.store) c.self.inside.tables.entries in
    let r = c.index_mut-session.result.now in
    let at = c.index_mut-session.ensures.value in
    let actor = c.actor_of-actor.ensures in
    let took = subst (IsTableToPut c.index_mut-session.result.now c.table_to_put.new.session) c.in-Some.is c.table_to_put.ensures in
    let h : Making st c.self.inside.last c.args.c c.index_mut-session.result.now took.make = record { within = lt; at = at; phase = c.in-Working.is; planned = took.planned; holds = c.self.invariant.holds } in
    let needs : ends_in r.phase ≡ 3 = ap ends_in c.in-Working.is in
    let opened : opens r.phase ≡ 1 = ap opens c.in-Working.is in
    let one = (working_owes c.self.inside.entries c.self.inside.events c.self.inside.locks c.self.inside.sessions.items (g.S.RowStore.view c.self.inside.store) c.self.inside.tables.entries c.self.inside.last c.self.inside.owed c.self.inside.owed_events c.args.c c.index_mut-session.result.now c.self.invariant lt c.index_mut-session.ensures.value c.in-Working.is).0 in
    let kept = c.ready.ensures.kept in
    let fit = c.self.invariant.room.entries_fit in
    let same : c.ready.new.made.items ≡ r.made.items = c.ready.ensures.made ∙ ap (λ s. s.made.items) took.after in
    let size = ap length same in
    rw (c.ready_to_list-roomy.ensures.tables, c.starve.ensures, took.after) (engine_with c.self.inside.entries c.ready.new.entries c.self.inside.events c.self.inside.locks c.self.inside.sessions.items (g.S.RowStore.view c.self.inside.store) (g.S.RowStore.view c.self.inside.store) c.self.inside.tables.entries c.self.inside.last c.self.inside.owed (c.self.inside.owed - 1) c.self.inside.owed_events c.args.c r _ c.self.invariant lt at refl
    (omega (arith, needs, one, size)) (omega (arith, opened)) (omega (arith, fit, kept.0, kept.1, one))
    (rw c.ready.ensures.entries (make_starves st c.self.inside.last c.args.c r took.make c.ready.new.made (g.S.RowStore.view c.self.inside.store) h (record { content = refl; others = λ b ne. refl; limit_same = refl }) same)))

pub invariant_of-self-in-Err : goal.invariant_of-self-in-Err
invariant_of-self-in-Err g c =
    let lt : c.args.c < length c.self.inside.sessions.items = omega arith in
    let st = state c.self.inside.entries c.self.inside.events c.self.inside.locks c.self.inside.sessions.items (g.S.RowStore.view c.self.inside.store) c.self.inside.tables.entries in
    let r = c.index_mut-session.result.now in
    let at = c.index_mut-session.ensures.value in
    let actor = c.actor_of-actor.ensures in
    let took = subst (IsTableToPut c.index_mut-session.result.now c.table_to_put.new.session) c.in-Some.is c.table_to_put.ensures in
    let h : Making st c.self.inside.last c.args.c c.index_mut-session.result.now took.make = record { within = lt; at = at; phase = c.in-Working.is; planned = took.planned; holds = c.self.invariant.holds } in
    let needs : ends_in r.phase ≡ 3 = ap ends_in c.in-Working.is in
    let opened : opens r.phase ≡ 1 = ap opens c.in-Working.is in
    let one = (working_owes c.self.inside.entries c.self.inside.events c.self.inside.locks c.self.inside.sessions.items (g.S.RowStore.view c.self.inside.store) c.self.inside.tables.entries c.self.inside.last c.self.inside.owed c.self.inside.owed_events c.args.c c.index_mut-session.result.now c.self.invariant lt c.index_mut-session.ensures.value c.in-Working.is).0 in
    let kept = c.ready.ensures.kept in
    let fit = c.self.invariant.room.entries_fit in
    let same : c.ready.new.made.items ≡ r.made.items = c.ready.ensures.made ∙ ap (λ s. s.made.items) took.after in
    let size = ap length same in
    rw (c.ready_to_list-roomy.ensures.tables, c.starve-in-Err.ensures, took.after) (engine_with c.self.inside.entries c.ready.new.entries c.self.inside.events c.self.inside.locks c.self.inside.sessions.items (g.S.RowStore.view c.self.inside.store) (g.S.RowStore.view c.put_row.new.self) c.self.inside.tables.entries c.self.inside.last c.self.inside.owed (c.self.inside.owed - 1) c.self.inside.owed_events c.args.c r _ c.self.invariant lt at refl
    (omega (arith, needs, one, size)) (omega (arith, opened)) (omega (arith, fit, kept.0, kept.1, one))
    (rw c.ready.ensures.entries (make_starves st c.self.inside.last c.args.c r took.make c.ready.new.made (g.S.RowStore.view c.put_row.new.self) h (record { content = kept_content _ _ _ _ _ _ c.in-Err.ensures.err; others = λ b ne. c.in-Err.ensures.frame.others b (λ e. ne (e ∙ actor)); limit_same = c.in-Err.ensures.frame.limit_same }) same)))

pub enlist-requires-clause-absent : goal.enlist-requires-clause-absent
enlist-requires-clause-absent g c =
    let lt : c.args.c < length c.self.inside.sessions.items = omega arith in
    let st = state c.self.inside.entries c.self.inside.events c.self.inside.locks c.self.inside.sessions.items (g.S.RowStore.view c.self.inside.store) c.self.inside.tables.entries in
    let r = c.index_mut-session.result.now in
    let at = c.index_mut-session.ensures.value in
    let actor = c.actor_of-actor.ensures in
    let took = subst (IsTableToPut c.index_mut-session.result.now c.table_to_put.new.session) c.in-Some.is c.table_to_put.ensures in
    let h : Making st c.self.inside.last c.args.c c.index_mut-session.result.now took.make = record { within = lt; at = at; phase = c.in-Working.is; planned = took.planned; holds = c.self.invariant.holds } in
    let put = subst (λ (x : Result Listing AllocError). IsListed took.make took.left (Some x)) (subst (λ (x : Result Listing AllocError). IfOk x (λ l. c.in-Some.listed ≡ Ok l)) c.in-Ok.ensures.same c.ready_to_list-roomy.ensures.same) took.does in
    rw (c.ready_to_list-roomy.ensures.tables, put.1.name) (list_absent st c.self.inside.last c.args.c r took.make h put.0.takes.made put.0.all)

pub invariant_of-self-in-Ok-put_row : goal.invariant_of-self-in-Ok-put_row
invariant_of-self-in-Ok-put_row g c =
    let lt : c.args.c < length c.self.inside.sessions.items = omega arith in
    let st = state c.self.inside.entries c.self.inside.events c.self.inside.locks c.self.inside.sessions.items (g.S.RowStore.view c.self.inside.store) c.self.inside.tables.entries in
    let r = c.index_mut-session.result.now in
    let at = c.index_mut-session.ensures.value in
    let actor = c.actor_of-actor.ensures in
    let took = subst (IsTableToPut c.index_mut-session.result.now c.table_to_put.new.session) c.in-Some.is c.table_to_put.ensures in
    let h : Making st c.self.inside.last c.args.c c.index_mut-session.result.now took.make = record { within = lt; at = at; phase = c.in-Working.is; planned = took.planned; holds = c.self.invariant.holds } in
    let put = subst (λ (x : Result Listing AllocError). IsListed took.make took.left (Some x)) (subst (λ (x : Result Listing AllocError). IfOk x (λ l. c.in-Some.listed ≡ Ok l)) c.in-Ok.ensures.same c.ready_to_list-roomy.ensures.same) took.does in
    let needs : ends_in r.phase ≡ 3 = ap ends_in c.in-Working.is in
    let opened : opens r.phase ≡ 1 = ap opens c.in-Working.is in
    let room = c.in-Ok.ensures.room in
    let same : c.ready.new.made.items ≡ r.made.items = c.in-Ok.ensures.made ∙ ap (λ s. s.made.items) took.after in
    let pushed : c.put.new.items.items ≡ r.made.items ++ c.len-did.result ∷ [] = c.put.ensures.items ∙ ap (λ xs. xs ++ c.len-did.result ∷ []) same in
    let more = length-append r.made.items (c.len-did.result ∷ []) in
    let size = ap length pushed in
    let len = c.put-in-Ok-put_row.ensures.len in
    let cap = c.put-in-Ok-put_row.ensures.capacity in
    let here : c.len-did.result ≡ length c.self.inside.entries.items = (let p = c.len-did.ensures in omega (arith, p)) in
    let txn = ap (λ s. s.txn) took.after in
    let puts = c.in-Ok-put_row.ensures.ok in
    let stored = subst (λ x. (g.S.RowStore.view c.put_row.new.self).content ≡ with_slot (g.S.RowStore.view c.self.inside.store).content c.index_mut-session.result.now.txn.0 1 c.in-Ok-put_row.rid (slot_of x false)) put.1.row
    (subst (λ t. (g.S.RowStore.view c.put_row.new.self).content ≡ with_slot (g.S.RowStore.view c.self.inside.store).content t.0 1 c.in-Ok-put_row.rid (slot_of c.in-Ok.listing.row false)) txn puts.stored.stored) in
    let es : c.put-in-Ok-put_row.new.items.items ≡ c.self.inside.entries.items ++ inserted c.index_mut-session.result.now.txn 1 c.in-Ok-put_row.rid (table_row took.make.def.number took.make.def.name) ∷ [] =
    c.put-in-Ok-put_row.ensures.items ∙ ap (λ xs. xs ++ c.inserted.result ∷ []) c.in-Ok.ensures.entries
    ∙ ap (λ e. c.self.inside.entries.items ++ e ∷ []) (c.inserted.ensures ∙ ap (λ t. inserted t 1 c.in-Ok-put_row.rid c.in-Ok.listing.row) txn ∙ ap (λ x. inserted c.index_mut-session.result.now.txn 1 c.in-Ok-put_row.rid x) put.1.row) in
    rw (took.after, put.0.takes.after, c.enlist.ensures, c.ready_to_list-roomy.ensures.tables, put.1.name, put.1.defined) (engine_listing c.self.inside.entries c.put-in-Ok-put_row.new.items c.self.inside.events c.self.inside.locks c.self.inside.sessions.items (g.S.RowStore.view c.self.inside.store) (g.S.RowStore.view c.put_row.new.self) c.self.inside.tables.entries (c.self.inside.tables.entries ++ entry_of took.make ∷ []) c.self.inside.last c.self.inside.owed (c.self.inside.owed + 1) c.self.inside.owed_events c.args.c r _ c.self.invariant lt at refl
    (omega (arith, needs, size, more)) (omega (arith, opened)) (omega (arith, room.0, len, cap))
    (rw es (lists st c.self.inside.last c.args.c c.len-did.result r took.make c.put.new.items c.in-Ok-put_row.rid (g.S.RowStore.view c.put_row.new.self) h put.0.takes.made put.0.all pushed here puts.none stored (λ b ne. c.in-Ok-put_row.ensures.frame.others b (λ e. ne (e ∙ actor))) c.in-Ok-put_row.ensures.frame.limit_same)))

pub returns-in-Err-clause-grows : goal.returns-in-Err-clause-grows
returns-in-Err-clause-grows g c = grows_nothing _ event.Change _ _ _ c.note_change.ensures.noted refl (c.note_change.ensures.entries ∙ c.ready.ensures.entries ∙ ap (λ e. e.1) c.self.view_is)

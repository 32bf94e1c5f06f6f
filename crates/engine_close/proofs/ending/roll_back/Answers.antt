use Rattle.std.proofs.Common.{◌≡◌, ◌∙◌, ◌+◌, get_or, sym, ap, subst, arith}
use Rattle.session_engine.specs.declared.session.Session.{Session}
use Rattle.session_engine.proofs.StepLemmas.{stored_after}
use Rattle.store_api.specs.Frames.{Frame}
use Rattle.engine_close.specs.Closing.{Closing}
use Rattle.engine_close.proofs.CloseLemmas.{at_any, on_ok, rolls_back, starts}
use Rattle.engine_close.proofs.ending.roll_back.Given
use Rattle.engine_close.proofs.ending.roll_back.Goals as goal

pub undo_all-requires-clause-undoing : goal.undo_all-requires-clause-undoing
undo_all-requires-clause-undoing g c =
    starts c.args.parts.now.entries c.args.parts.now.events c.args.parts.now.sessions.items (g.S.RowStore.view c.args.parts.now.store) c.args.c c.len-made.result c.index.result.now c.args.txn c.requires.closing c.requires.own
    (at_any c.args.parts.now.sessions.items c.args.c c.index.result.now c.requires.own.within c.index.ensures) (let len = c.len-made.ensures in omega (arith, len))

pub actor_of-requires : goal.actor_of-requires
actor_of-requires g c =
    let u = c.in_ok-undo_all.ensures.ok.1.0 in
    let few = u.few in
    let within = u.within in
    let limit = c.rolled_back-answer.ensures.frame.limit_same in
    let most = c.law.ensures.limit.1 in
    omega (arith, few, within, limit, most)

-- the transaction is over, whatever the store has answered
closed : (g : Given.Over) → (c : goal.After-let_go g)
    → Closing c.note_end.new.entries c.note_end.new.events c.undo_all.new.parts.sessions.items (g.S.RowStore.view c.let_go.new.self) (c.args.c + 1)
closed g c =
    let undone = c.in_ok-undo_all.ensures.ok in
    let u = undone.1.0 in
    let own : u.session.txn ≡ c.args.txn =
    ap (λ (s : Session). s.txn) (sym (u.at u.session)) ∙ ap (λ ss. (get_or ss.items c.args.c u.session).txn) c.in_ok-undo_all.ensures.same ∙ c.requires.own.own u.session in
    rolls_back c.undo_all.new.parts.entries c.note_end.new.entries c.undo_all.new.parts.events c.note_end.new.events c.undo_all.new.parts.sessions.items (g.S.RowStore.view c.undo_all.new.parts.store)
    (g.S.RowStore.view c.rolled_back-answer.new.self) (g.S.RowStore.view c.let_go.new.self) c.args.c undone.0 c.args.txn u own undone.1.1
    (stored_after _ _ _ _ c.rolled_back-answer.result c.rolled_back-answer.ensures.ok c.rolled_back-answer.ensures.err) c.rolled_back-answer.ensures.frame.everyone c.rolled_back-answer.ensures.frame.limit_same
    c.let_go.ensures.same (subst (λ a. Frame a (g.S.RowStore.view c.rolled_back-answer.new.self) (g.S.RowStore.view c.let_go.new.self)) c.actor_of.ensures c.let_go.ensures.frame)
    (subst (λ a. ((g.S.RowStore.view c.let_go.new.self).actors a).pages ≡ 0) c.actor_of.ensures c.let_go.ensures.none)
    c.note_end.ensures.entries c.note_end.ensures.events c.note_end.ensures.len c.note_end.ensures.len_events c.note_end.ensures.capacity c.note_end.ensures.capacity_events

pub returns-clause-ok : goal.returns-clause-ok
returns-clause-ok g c = on_ok c.rolled_back-answer.result _ (closed g c)

pub returns-clause-legal : goal.returns-clause-legal
returns-clause-legal g c = (closed g c).legal

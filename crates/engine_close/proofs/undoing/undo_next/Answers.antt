use Rattle.std.proofs.Common.{◌≡◌, ◌∙◌, ◌+◌, ◌-◌, ◌<◌, ◌++◌, ℕ, [], ◌∷◌, get_or, length, refl, None, Some, sym, ap, subst}
use Rattle.std.specs.Prelude.{◌⊎◌, IsTrue}
use Rattle.dby_types.specs.declared.number.TxnNo.{TxnNo}
use Rattle.store_api.specs.declared.slot.Item.TheVariants.{Changed, Created, Discarded}
use Rattle.store_api.specs.Effects.{TakesBack, Undoes, is_done}
use Rattle.store_api.specs.Frames.{Frame}
use Rattle.store_api.specs.View.{changes_in}
use Rattle.journal_model.specs.declared.journal.Entry.TheVariants as entry
use Rattle.session_engine.specs.declared.session.Session.{Session}
use Rattle.engine_close.specs.Closing.{Undoing, to_do}
use Rattle.engine_close.proofs.CloseLemmas.{may_hold}
use Rattle.engine_close.proofs.UndoLemmas.{last_of, undid, undid_container, sent_on, all_undone, less_by_turn}
use Rattle.engine_close.proofs.undoing.undo_next.Goals as goal

pub undo_one-requires-clause-begun : goal.undo_one-requires-clause-begun
undo_one-requires-clause-begun g c =
    let u = c.requires.undoing in
    let t : u.session.txn ≡ c.args.txn = ap (λ s. s.txn) (sym (u.at u.session)) ∙ c.requires.own u.session in
    λ none. (let e : None ≡ Some u.reflects.0 = sym none ∙ ap (λ (x : TxnNo). (g.S.RowStore.view c.args.parts.now.store).content.changes x.0) (sym t) ∙ u.reflects.1 in cc)

pub undo_one-requires-clause-few : goal.undo_one-requires-clause-few
undo_one-requires-clause-few g c =
    may_hold (g.S.RowStore.view c.args.parts.now.store) c.actor_of-a.result c.law.ensures.limit.0 (λ b ne. c.requires.undoing.quiet b (λ e. ne (e ∙ sym c.actor_of-a.ensures)))

pub overflow_sub-fewer : goal.overflow_sub-fewer
overflow_sub-fewer g c =
    let u = c.requires.undoing in
    let t : u.session.txn ≡ c.args.txn = ap (λ s. s.txn) (sym (u.at u.session)) ∙ c.requires.own u.session in
    let back = (subst (λ r. Undoes c.actor_of-a.result c.args.txn.0 0 (g.S.RowStore.view c.args.parts.now.store) (g.S.RowStore.view c.undo_one.new.self) r) c.in-Ok-Undid.field-0-is c.in-Ok-Undid.ensures.ok).0 in
    (last_of c.args.parts.now.entries c.args.parts.now.events c.args.parts.now.sessions.items (g.S.RowStore.view c.args.parts.now.store) c.args.c c.args.left _ _ back.0 back.1.rest 0 u
    (ap (λ (x : TxnNo). (g.S.RowStore.view c.args.parts.now.store).content.changes x.0) t ∙ back.1.newest)).0

pub returns-in-Ok-Undid-clause-ok : goal.returns-in-Ok-Undid-clause-ok
returns-in-Ok-Undid-clause-ok g c =
    let u = c.requires.undoing in
    let t : u.session.txn ≡ c.args.txn = ap (λ s. s.txn) (sym (u.at u.session)) ∙ c.requires.own u.session in
    let back = (subst (λ r. Undoes c.actor_of-a.result c.args.txn.0 0 (g.S.RowStore.view c.args.parts.now.store) (g.S.RowStore.view c.undo_one.new.self) r) c.in-Ok-Undid.field-0-is c.in-Ok-Undid.ensures.ok).0 in
    let did = c.index-did.result.now in
    let session : c.index.result.now ≡ u.session = c.index.ensures ∙ u.at c.index.result.now in
    let number : did ≡ get_or u.session.made.items (c.args.left - 1) did = c.index-did.ensures ∙ ap (λ (s : Session). get_or s.made.items (c.args.left - 1) did) session in
    subst (λ (x : TxnNo). Undoing c.put.new.items c.args.parts.now.events c.args.parts.now.sessions.items (g.S.RowStore.view c.undo_one.new.self) c.args.c (c.args.left - 1)
    × (to_do (g.S.RowStore.view c.undo_one.new.self) x.0 (c.args.c + 1) < to_do (g.S.RowStore.view c.args.parts.now.store) x.0 (c.args.c + 1))) t
    (undid c.args.parts.now.entries c.put.new.items c.args.parts.now.events c.args.parts.now.sessions.items (g.S.RowStore.view c.args.parts.now.store) (g.S.RowStore.view c.undo_one.new.self) c.args.c c.args.left c.in-Ok-Undid._table c.in-Ok-Undid._rid back.0 did u
    (subst (λ (x : TxnNo). TakesBack x.0 (Changed c.in-Ok-Undid._table c.in-Ok-Undid._rid back.0) (g.S.RowStore.view c.args.parts.now.store) (g.S.RowStore.view c.undo_one.new.self)) (sym t) back.1)
    (subst (λ a. Frame a (g.S.RowStore.view c.args.parts.now.store) (g.S.RowStore.view c.undo_one.new.self)) c.actor_of-a.ensures c.in-Ok-Undid.ensures.frame)
    (c.put.ensures.items ∙ ap (λ (x : TxnNo). c.args.parts.now.entries.items ++ entry.Undone x did ∷ []) (sym t) ∙ ap (λ n. c.args.parts.now.entries.items ++ entry.Undone u.session.txn n ∷ []) number)
    c.put.ensures.len c.put.ensures.capacity)

pub returns-in-Ok-Undid-clause-legal : goal.returns-in-Ok-Undid-clause-legal
returns-in-Ok-Undid-clause-legal g c = (returns-in-Ok-Undid-clause-ok g c).0.legal

pub returns-in-Ok-UndidContainer-clause-ok : goal.returns-in-Ok-UndidContainer-clause-ok
returns-in-Ok-UndidContainer-clause-ok g c =
    let u = c.requires.undoing in
    let t : u.session.txn ≡ c.args.txn = ap (λ s. s.txn) (sym (u.at u.session)) ∙ c.requires.own u.session in
    let back = (subst (λ r. Undoes c.actor_of-a.result c.args.txn.0 0 (g.S.RowStore.view c.args.parts.now.store) (g.S.RowStore.view c.undo_one.new.self) r) c.in-Ok-UndidContainer.field-0-is c.in-Ok-UndidContainer.ensures.ok).0 in
    subst (λ (x : TxnNo). Undoing c.args.parts.now.entries c.args.parts.now.events c.args.parts.now.sessions.items (g.S.RowStore.view c.undo_one.new.self) c.args.c c.args.left
    × (to_do (g.S.RowStore.view c.undo_one.new.self) x.0 (c.args.c + 1) < to_do (g.S.RowStore.view c.args.parts.now.store) x.0 (c.args.c + 1))) t
    (undid_container c.args.parts.now.entries c.args.parts.now.events c.args.parts.now.sessions.items (g.S.RowStore.view c.args.parts.now.store) (g.S.RowStore.view c.undo_one.new.self) c.args.c c.args.left u
    (subst (λ (x : TxnNo). ((k : ℕ) × TakesBack x.0 (Created k) (g.S.RowStore.view c.args.parts.now.store) (g.S.RowStore.view c.undo_one.new.self)) ⊎ ((k : ℕ) × TakesBack x.0 (Discarded k) (g.S.RowStore.view c.args.parts.now.store) (g.S.RowStore.view c.undo_one.new.self))) (sym t) back)
    (subst (λ a. Frame a (g.S.RowStore.view c.args.parts.now.store) (g.S.RowStore.view c.undo_one.new.self)) c.actor_of-a.ensures c.in-Ok-UndidContainer.ensures.frame))

pub returns-in-Ok-Onward-clause-ok : goal.returns-in-Ok-Onward-clause-ok
returns-in-Ok-Onward-clause-ok g c =
    let u = c.requires.undoing in
    let went = subst (λ r. Undoes c.actor_of-a.result c.args.txn.0 0 (g.S.RowStore.view c.args.parts.now.store) (g.S.RowStore.view c.undo_one.new.self) r) c.in-Ok-Onward.field-0-is c.in-Ok-Onward.ensures.ok in
    let frame = subst (λ a. Frame a (g.S.RowStore.view c.args.parts.now.store) (g.S.RowStore.view c.undo_one.new.self)) c.actor_of-a.ensures c.in-Ok-Onward.ensures.frame in (
      sent_on c.args.parts.now.entries c.args.parts.now.events c.args.parts.now.sessions.items (g.S.RowStore.view c.args.parts.now.store) (g.S.RowStore.view c.undo_one.new.self) c.args.c c.args.left u went.0.stored frame,
      less_by_turn (g.S.RowStore.view c.args.parts.now.store) (g.S.RowStore.view c.undo_one.new.self) c.args.txn.0 (c.args.c + 1)
          (ap (λ d. d.changes c.args.txn.0) went.0.stored) frame.pages_same
          (subst (λ a. ((g.S.RowStore.view c.undo_one.new.self).actors a).turns ≡ ((g.S.RowStore.view c.args.parts.now.store).actors a).turns + 1) c.actor_of-a.ensures went.1) (c.law-in-Ok-Onward.ensures.turns (c.args.c + 1)),
    )

pub returns-in-Ok-Done-clause-ok : goal.returns-in-Ok-Done-clause-ok
returns-in-Ok-Done-clause-ok g c =
    let u = c.requires.undoing in
    let t : u.session.txn ≡ c.args.txn = ap (λ s. s.txn) (sym (u.at u.session)) ∙ c.requires.own u.session in
    let went = subst (λ r. Undoes c.actor_of-a.result c.args.txn.0 0 (g.S.RowStore.view c.args.parts.now.store) (g.S.RowStore.view c.undo_one.new.self) r) c.in-Ok-Done.field-0-is c.in-Ok-Done.ensures.ok in
    let frame = subst (λ a. Frame a (g.S.RowStore.view c.args.parts.now.store) (g.S.RowStore.view c.undo_one.new.self)) c.actor_of-a.ensures c.in-Ok-Done.ensures.frame in
    let now = sent_on c.args.parts.now.entries c.args.parts.now.events c.args.parts.now.sessions.items (g.S.RowStore.view c.args.parts.now.store) (g.S.RowStore.view c.undo_one.new.self) c.args.c c.args.left u went.0.stored frame in
    let done : IsTrue (is_done c.in-Ok-Done.field-0) = subst (λ r. IsTrue (is_done r)) (sym c.in-Ok-Done.field-0-is) refl in
    let none = c.in-Ok-Done.ensures.done.0 done in
    let old = (g.S.RowStore.view c.args.parts.now.store) in
    let empty = all_undone c.args.parts.now.entries c.args.parts.now.events c.args.parts.now.sessions.items old c.args.c c.args.left u (ap (λ (x : TxnNo). length (changes_in (old.content.changes x.0))) t ∙ none) in
    (now, ap (λ d. d.changes c.args.txn.0) went.0.stored ∙ ap (λ (x : TxnNo). old.content.changes x.0) (sym t) ∙ empty)

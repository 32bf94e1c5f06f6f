use Rattle.std.proofs.Common.{◌+◌, ◌∙◌, sym}
use Rattle.engine_close.specs.Closing.{Closing}
use Rattle.engine_close.proofs.CloseLemmas.{at_any, passes, vanishes}
use Rattle.engine_close.proofs.ending.end_one.Given
use Rattle.engine_close.proofs.ending.end_one.Goals as goal

pub returns-then-not-is_open-clause-ok : goal.returns-then-not-is_open-clause-ok
returns-then-not-is_open-clause-ok g c =
    passes c.args.parts.now.entries c.args.parts.now.events c.args.parts.now.sessions.items (g.S.RowStore.view c.args.parts.now.store) c.args.c c.index-session.result.now c.requires.closing c.requires.within
    (at_any c.args.parts.now.sessions.items c.args.c c.index-session.result.now c.requires.within c.index-session.ensures) (sym c.is_open.ensures ∙ c.if-not-is_open.true)

closed : (g : Given.Over) → (c : goal.After-note_end g)
    → Closing c.note_end.new.entries c.note_end.new.events c.args.parts.now.sessions.items (g.S.RowStore.view c.args.parts.now.store) (c.args.c + 1)
closed g c =
    vanishes c.args.parts.now.entries c.note_end.new.entries c.args.parts.now.events c.note_end.new.events c.args.parts.now.sessions.items (g.S.RowStore.view c.args.parts.now.store) c.args.c c.index-session.result.now
    c.requires.closing c.requires.within (at_any c.args.parts.now.sessions.items c.args.c c.index-session.result.now c.requires.within c.index-session.ensures)
    (sym c.is_open.ensures ∙ c.if-not-is_open.false) c.if-session.false
    c.note_end.ensures.entries c.note_end.ensures.events c.note_end.ensures.len c.note_end.ensures.len_events c.note_end.ensures.capacity c.note_end.ensures.capacity_events

pub returns-clause-ok : goal.returns-clause-ok
returns-clause-ok g c = closed g c

pub returns-clause-legal : goal.returns-clause-legal
returns-clause-legal g c = (closed g c).legal

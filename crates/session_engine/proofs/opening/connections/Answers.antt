use Rattle.std.proofs.Common.{rules, ◌<◌, ◌^◌, ◌++◌, length, sym, ◌∙◌, ap, subst}
use Rattle.table_model.specs.Tables.{Each}
use Rattle.session_engine.specs.Opening.{IsNew}
use Rattle.session_engine.specs.State.{scripts_of}
use Rattle.session_engine.proofs.OpeningLemmas.{scripts_more, new_more}
use Rattle.session_engine.proofs.opening.connections.Goals as goal

pub opens-init : goal.opens-init
opens-init c = record {
  scripts = ap (λ ss. scripts_of ss ++ c.args.scripts.now.items) c.new-sessions.ensures.items;
  new = subst (Each IsNew) (sym c.new-sessions.ensures.items) tt;
  short = c.requires;
}

pub connection-requires : goal.connection-requires
connection-requires c = (subst (Each (λ s. length s < 2 ^ 32)) c.in-Some.ensures.items c.opens.invariant.short).0

pub opens-smaller : goal.opens-smaller
opens-smaller c = (let less = c.in-Some.ensures.variant in search rules)

pub opens-preserved : goal.opens-preserved
opens-preserved c = record {
  scripts = rw c.in_ok-push.ensures.items (scripts_more c.opens.sessions.items c.in_ok-connection.field-0 c.in-Some.script c.pop_front.new.self.items c.args.scripts.now.items
      (ap (λ xs. scripts_of c.opens.sessions.items ++ xs) (sym c.in-Some.ensures.items) ∙ c.opens.invariant.scripts) c.in_ok-connection.ensures.0);
  new = rw c.in_ok-push.ensures.items (new_more c.opens.sessions.items c.in_ok-connection.field-0 c.opens.invariant.new c.in_ok-connection.ensures.1);
  short = (subst (Each (λ s. length s < 2 ^ 32)) c.in-Some.ensures.items c.opens.invariant.short).1;
}

pub returns : goal.returns
returns c = (let whole = c.opens.invariant.scripts in (search rules, c.opens.invariant.new))

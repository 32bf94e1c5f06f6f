use Rattle.std.proofs.Common.{◌∙◌, sym}
use Rattle.store_trials.proofs.ClaimLemmas.{may_change, refuses, refuses_after}
use Rattle.store_trials.proofs.claims.write_over.Goals as goal

pub set_row-requires-clause-may : goal.set_row-requires-clause-may
set_row-requires-clause-may g c =
    may_change (g.S.RowStore.view c.args.store.now) (g.S.RowStore.view c.row.new.self) c.args.a c.args.t.0 c.args.at.table c.args.at.rid c.in-Ok-Row.field-0 c.in-Ok-Row._old c.in-Ok-Row._was c.args.claims.now
    c.requires.begun c.requires.claims (sym c.is_claimed.ensures ∙ c.if-is_claimed.false) c.in-Ok-Row.ensures.ok.0.stored c.in-Ok-Row.field-0-is c.in-Ok-Row.ensures.ok.1

pub returns-in-Ok-Row-clause-cause : goal.returns-in-Ok-Row-clause-cause
returns-in-Ok-Row-clause-cause g c =
    refuses_after (g.S.RowStore.view c.args.store.now) (g.S.RowStore.view c.row.new.self) (g.S.RowStore.view c.set_row.new.self) c.in-Err-set_row.e c.in-Ok-Row.ensures.ok.0.well.meters_same
    (refuses _ _ _ _ (g.S.RowStore.view c.row.new.self) (g.S.RowStore.view c.set_row.new.self) c.in-Err-set_row.e c.in-Err-set_row.ensures.err)

pub returns-clause-cause : goal.returns-clause-cause
returns-clause-cause g c = refuses _ _ _ _ (g.S.RowStore.view c.args.store.now) (g.S.RowStore.view c.row.new.self) c.in-Err.e c.in-Err.ensures.err

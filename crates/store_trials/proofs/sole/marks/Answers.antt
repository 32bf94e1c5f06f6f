use Rattle.std.proofs.Common.{◌∙◌, ap}
use Rattle.store_api.specs.View.{Content}
use Rattle.store_trials.proofs.SoleLemmas.{may_hold, same_content_sole, item_sole, sole_change, stands, read-is}
use Rattle.store_trials.proofs.sole.marks.Goals as goal

pub row-requires-clause-few : goal.row-requires-clause-few
row-requires-clause-few g c = may_hold (g.S.RowStore.view c.args.store.now) c.args.t.0 c.law.ensures c.requires.sole

pub mark_row-requires-clause-may : goal.mark_row-requires-clause-may
mark_row-requires-clause-may g c =
    sole_change (g.S.RowStore.view c.row.new.self) c.args.t.0 c.args.rid (same_content_sole (g.S.RowStore.view c.args.store.now) (g.S.RowStore.view c.row.new.self) c.args.t.0 c.requires.sole c.in-Ok-Row.ensures.ok.0.stored c.row.ensures.frame.others)
    (read-is (g.S.RowStore.view c.args.store.now) (g.S.RowStore.view c.row.new.self) c.args.rid c.in-Ok-Row.field-0 c.in-Ok-Row._old c.in-Ok-Row._was c.in-Ok-Row.field-0-is c.in-Ok-Row.ensures.ok.1).1.held
    (stands (g.S.RowStore.view c.row.new.self).content.heaps c.args.rid _ (g.S.RowStore.view c.row.new.self).content (ap (λ (d : Content). d.heaps 1 c.args.rid) c.in-Ok-Row.ensures.ok.0.stored ∙ (read-is (g.S.RowStore.view c.args.store.now) (g.S.RowStore.view c.row.new.self) c.args.rid c.in-Ok-Row.field-0 c.in-Ok-Row._old c.in-Ok-Row._was c.in-Ok-Row.field-0-is c.in-Ok-Row.ensures.ok.1).0))

pub returns-in-Ok : goal.returns-in-Ok
returns-in-Ok g c =
    item_sole (g.S.RowStore.view c.row.new.self) (g.S.RowStore.view c.mark_row.new.self) c.args.t.0 _ _ (same_content_sole (g.S.RowStore.view c.args.store.now) (g.S.RowStore.view c.row.new.self) c.args.t.0 c.requires.sole c.in-Ok-Row.ensures.ok.0.stored c.row.ensures.frame.others)
    c.in-Ok.ensures.ok.stored.stored c.mark_row.ensures.frame.others

use Rattle.std.proofs.Common.{Some, sym, ◌∙◌, ap}
use Rattle.store_trials.proofs.SoleLemmas.{at_row}
use Rattle.store_trials.proofs.sole.goes_on.Goals as goal

pub goes_on_from-requires-clause-at_row : goal.goes_on_from-requires-clause-at_row
goes_on_from-requires-clause-at_row g c = at_row (g.S.RowStore.view c.args.store.now) c.in-Ok-Some-Row._here c.in-Ok-Some-Row._was (sym (c.in-Ok-Some-Row.field-0-is ∙ ap Some c.in-Ok-Some-Row.field-0-0-is) ∙ c.in-Ok-Some-Row.ensures.ok.1)

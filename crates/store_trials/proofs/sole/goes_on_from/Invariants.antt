use Rattle.store_api.specs.Effects.{IsAtRow}
use Rattle.store_trials.specs.Sole.{IsSole}
use Rattle.store_trials.proofs.SoleLemmas.{turns_left}
use Rattle.store_trials.proofs.sole.goes_on_from.Given as goal

abbrev pub invariant-step : goal.invariant-step
invariant-step g l = IsSole (g.S.RowStore.view l.store) l.fn.t.0 × IsAtRow (g.S.RowStore.view l.store) 1

abbrev pub decreases-step : goal.decreases-step
decreases-step g l = turns_left (g.S.RowStore.view l.store) g.S.RowStore.most_pages

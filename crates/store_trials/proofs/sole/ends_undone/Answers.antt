use Rattle.std.proofs.Common.{sym, ◌∙◌}
use Rattle.store_trials.proofs.SoleLemmas.{empty_sole}
use Rattle.store_trials.proofs.sole.ends_undone.Goals as goal

pub rolled_back-requires : goal.rolled_back-requires
rolled_back-requires g c = record { begun = empty_sole (g.S.RowStore.view c.args.store.now) c.args.t.0 c.requires.sole (sym c.place.ensures ∙ c.if-place-ne0.false) }

use Rattle.store_trials.proofs.SoleLemmas.{may_hold}
use Rattle.store_trials.proofs.sole.makes_room.Goals as goal

pub make_room-requires-clause-few : goal.make_room-requires-clause-few
make_room-requires-clause-few g c = may_hold (g.S.RowStore.view c.room.store) c.args.t.0 c.law.ensures c.room.invariant

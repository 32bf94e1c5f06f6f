use Rattle.store_model.proofs.Effects.{container_given_up, container_made, container_may_change, giving_up_undone, making_undone}
use Rattle.store_model.proofs.laws.containers_change.Goals as goal

pub returns : goal.returns
returns c = record { may = container_may_change; made = container_made; given_up = container_given_up; making_undone = making_undone; giving_up_undone = giving_up_undone }

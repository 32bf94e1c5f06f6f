use Rattle.name_binder.proofs.Seen.{is_added, added_keys}
use Rattle.name_binder.proofs.twice.is_new.Goals as goal

pub returns : goal.returns
returns c = (is_added c.args.name c.args.seen.now.keys _ c.in_ok-added.ensures.added, added_keys c.args.name c.args.seen.now.keys _ _ c.in_ok-added.ensures.added c.in_ok-added.ensures.keys)

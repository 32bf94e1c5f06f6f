use Rattle.page_model.proofs.Redoing.{brought_up_current, redone_whole}
use Rattle.page_model.proofs.laws.redo_brings_up.Goals as goal

pub returns : goal.returns
returns c d = record { whole = redone_whole; current = brought_up_current }

use Rattle.page_model.proofs.Redoing.{ahead, redone_again}
use Rattle.page_model.proofs.laws.redo_ends.Goals as goal

pub returns : goal.returns
returns c d = record { ahead = ahead; again = redone_again }

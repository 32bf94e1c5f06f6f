use Rattle.page_model.proofs.Images.{shown_push}
use Rattle.page_model.proofs.laws.pages_show.Goals as goal

pub returns : goal.returns
returns c d = shown_push

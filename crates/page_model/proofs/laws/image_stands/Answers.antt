use Rattle.page_model.proofs.Images.{image_stands}
use Rattle.page_model.proofs.laws.image_stands.Goals as goal

pub returns : goal.returns
returns c d = image_stands

use Rattle.command_reader.proofs.SpellingLemmas.{word_found}
use Rattle.command_reader.proofs.spelling.spells.Goals as goal

pub returns : goal.returns
returns c = word_found c.args.word.now c.args.token.now c.is_name.result c.folds_to.result c.both.result c.is_name.ensures c.folds_to.ensures c.both.ensures

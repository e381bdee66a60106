use Rattle.low_stmt.proofs.WordsOfTexts.{text_words}
use Rattle.low_stmt.proofs.laws.each_part_has_few_words.Goals as goal

pub returns : goal.returns
returns c = text_words

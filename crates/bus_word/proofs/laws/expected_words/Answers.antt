use Rattle.bus_word.proofs.ModeLaws.{word_is_expected}
use Rattle.bus_word.proofs.laws.expected_words.Goals as goal

pub returns : goal.returns
returns c = word_is_expected

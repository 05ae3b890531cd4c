use Rattle.bus_word.proofs.Parity.{valid_word_law}
use Rattle.terminal_exchanges.proofs.ExchangeAnswers.{meant_exchange_law, unmeant_law}
use Rattle.terminal_exchanges.proofs.laws.one_exchange.Goals as goal

pub returns : goal.returns
returns c = record { meant = meant_exchange_law; unmeant = unmeant_law; valid_words = valid_word_law }

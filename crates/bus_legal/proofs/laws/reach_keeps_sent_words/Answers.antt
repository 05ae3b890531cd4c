use Rattle.bus_legal.proofs.Descriptions.{initial-reach}
use Rattle.bus_legal.proofs.laws.reach_keeps_sent_words.Goals as goal

pub returns : goal.returns
returns c = initial-reach

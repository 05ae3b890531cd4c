use Rattle.bus_canon.proofs.CanonLaws.{text_read}
use Rattle.bus_canon.proofs.laws.written_texts_are_read.Goals as goal

pub returns : goal.returns
returns c = text_read

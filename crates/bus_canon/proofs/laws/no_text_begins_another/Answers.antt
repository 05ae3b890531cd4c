use Rattle.bus_canon.proofs.CanonLaws.{text_whole}
use Rattle.bus_canon.proofs.laws.no_text_begins_another.Goals as goal

pub returns : goal.returns
returns c = text_whole

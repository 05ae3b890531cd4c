use Rattle.bus_legal.proofs.LegalLaws.{own_codes}
use Rattle.bus_legal.proofs.laws.own_codes_are_legal_alike.Goals as goal

pub returns : goal.returns
returns c = own_codes

use Rattle.bus_legal.proofs.LegalLaws.{required_codes}
use Rattle.bus_legal.proofs.laws.required_codes_are_legal.Goals as goal

pub returns : goal.returns
returns c = required_codes

use Rattle.bus_canon.proofs.CanonLaws.{text_size}
use Rattle.bus_canon.proofs.laws.texts_are_short.Goals as goal

pub returns-clause-least : goal.returns-clause-least
returns-clause-least c = λ v bytes h. (text_size v bytes h).0

pub returns-clause-most : goal.returns-clause-most
returns-clause-most c = λ v bytes h. (text_size v bytes h).1

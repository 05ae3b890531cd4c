use Rattle.rt1553.proofs.LoadLaws.{canon_is_its_own, accepted_have_canon, one_canon}
use Rattle.rt1553.proofs.laws.canonical_bytes.Goals as goal

pub returns-clause-own : goal.returns-clause-own
returns-clause-own c = canon_is_its_own

pub returns-clause-some : goal.returns-clause-some
returns-clause-some c = accepted_have_canon

pub returns-clause-one : goal.returns-clause-one
returns-clause-one c = one_canon

use Rattle.rt1553.proofs.LoadLaws.{canon_has_canon, faultless_have_canon}
use Rattle.rt1553.proofs.laws.accepted_texts_have_canonical_bytes.Goals as goal

pub returns-clause-canonical : goal.returns-clause-canonical
returns-clause-canonical c = canon_has_canon

pub returns-clause-profile : goal.returns-clause-profile
returns-clause-profile c = faultless_have_canon

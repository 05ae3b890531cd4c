use Rattle.rt1553.proofs.LoadLaws.{canon_reaches, text_begins}
use Rattle.rt1553.proofs.loading.load_canonical.Goals as goal

pub returns-clause-ok : goal.returns-clause-ok
returns-clause-ok c = canon_reaches c.in_ok-read_canon.field-0 c.args.text.now c.in_ok-read_canon.ensures.text

pub returns-clause-canonical : goal.returns-clause-canonical
returns-clause-canonical c = text_begins c.in_ok-read_canon.field-0 c.args.text.now c.in_ok-read_canon.ensures.text

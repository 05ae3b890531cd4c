use Rattle.std.proofs.lemmas.Slice.Eq.{strip_prefix_is}
use Rattle.std.proofs.lemmas.Bool.Decides.{Decides-eqb}
use Rattle.line_format.proofs.Steps.{after_found}
use Rattle.line_format.proofs.read.after.Goals as goal

pub returns-clause-value : goal.returns-clause-value
returns-clause-value c =
    after_found c.args.text.now c.args.bytes.now c.strip_prefix.result
    (strip_prefix_is Decides-eqb c.args.bytes.now c.args.text.now c.strip_prefix.result c.strip_prefix.ensures.cases)

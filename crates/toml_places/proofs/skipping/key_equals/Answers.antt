use Rattle.std.proofs.Common.{◌∙◌, ap}
use Rattle.toml_parser.specs.Lexical.{skip_ws}
use Rattle.toml_places.proofs.Faults.{passed_on}
use Rattle.toml_places.proofs.Turns.{given, key_equals_some}
use Rattle.toml_places.proofs.skipping.key_equals.Goals as goal

pub returns-in_err-key-clause-value : goal.returns-in_err-key-clause-value
returns-in_err-key-clause-value c x rest read =
    given (key_equals_some c.args.s.now x rest read) λ (left, before, last).
    passed_on _ _ _ _ c.from_residual.ensures.1 (λ y p. p) (c.in_err-key.ensures.value x left before)

pub returns-clause-value : goal.returns-clause-value
returns-clause-value c x rest read =
    given (key_equals_some c.args.s.now x rest read) λ (left, before, last).
    let (key_is, rest_is) = c.in_ok-key.ensures.value x left before in
    (key_is, c.skip_ws.ensures.rest ∙ ap skip_ws rest_is ∙ last)

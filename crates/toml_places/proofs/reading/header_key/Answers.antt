use Rattle.std.proofs.Common.{◌∙◌, ap}
use Rattle.toml_places.specs.inner.Steps.{key_before}
use Rattle.toml.specs.Parse.{header_key}
use Rattle.toml_places.proofs.reading.header_key.Goals as goal

pub returns-clause-value : goal.returns-clause-value
unfolding header_key
returns-clause-value c x rest read = c.key_before.ensures.value x rest (ap (key_before 93) c.skip_ws.ensures.rest ∙ read)

use Rattle.toml_places.proofs.Others.{no_other_key, no_other_name, other_key, other_name}
use Rattle.toml_places.proofs.laws.other_names.Goals as goal

pub returns : goal.returns
returns c = record { no_key = no_other_key; no_name = no_other_name; key = other_key; name = other_name }

-- The items of arrays and the names of keys, one after the other.
use Rattle.std.proofs.Common.{◌≡◌, List, [], ◌∷◌, map, string_bytes, refl, ap}
use Rattle.std.specs.Map.{keys_of}
use Rattle.toml.proofs.Views.{Entry}
use Rattle.toml.specs.View.{members_view}
use Rattle.bus_profile.specs.Kinds.{names_of}

pub names_of-view : (es : List Entry) → names_of (members_view es) ≡ map string_bytes (keys_of es)
names_of-view [] = refl
names_of-view (e ∷ es) = ap (λ ns. string_bytes e.0 ∷ ns) (names_of-view es)

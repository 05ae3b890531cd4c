use Rattle.std.proofs.Common.{◌≡◌, false, take}
use Rattle.std.specs.List.{list_any}
use Rattle.std.specs.Str.{bytes_eq}
use Rattle.bus_profile.specs.Keys.{key_name}
use Rattle.bus_profile.proofs.section.is_known.Given as goal

abbrev pub invariant-loop-key : goal.invariant-loop-key
invariant-loop-key l = list_any (λ key. bytes_eq (key_name key) l.name) (take l.key-index l.keys) ≡ false

use Rattle.std.proofs.Common.{◌≡◌, ◌++◌, drop}
use Rattle.std.specs.List.{flat_map}
use Rattle.bus_word.specs.Mode.{required_codes}
use Rattle.bus_profile.specs.inner.AllFaults.{code_told, codes_told}
use Rattle.bus_profile.proofs.told.push_code_faults.Given as goal

abbrev pub invariant-loop-code : goal.invariant-loop-code
invariant-loop-code l = l.faults.items ++ flat_map (code_told l.modes) (drop l.code-index required_codes) ≡ l.initial.faults.items ++ codes_told l.modes

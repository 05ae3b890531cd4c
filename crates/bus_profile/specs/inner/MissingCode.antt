-- Which own mode code that must be legal isn't, as its finder looks for it.
use Rattle.std.specs.Prelude.{ℕ, not, List, Option}
use Rattle.std.specs.List.{find}
use Rattle.bus_word.specs.Mode.{required_codes}
use Rattle.bus_legal.specs.declared.entries.ModeRule.{ModeRule}
use Rattle.bus_legal.specs.OwnCodes.{is_own_code_legal}

-- the least of those codes that isn't
abbrev pub missing_code : List ModeRule → Option ℕ
missing_code modes = find (λ code. not (is_own_code_legal modes code)) required_codes

-- Which own mode codes a profile makes legal.
use Rattle.std.specs.Prelude.{ℕ, Bool, ◌&&◌, List, Option, Some, None, is_some}
use Rattle.std.specs.List.{list_all}
use Rattle.bus_word.specs.Mask.{has_bit}
use Rattle.bus_word.specs.Mode.{required_codes, mode_row, is_required_code}
use Rattle.bus_legal.specs.declared.entries.ModeRule.{ModeRule}
use Rattle.bus_legal.specs.Last.{last_of}

-- the mode entry speaks of this own code
abbrev pub contains_own : ℕ → ModeRule → Bool
contains_own code m = m.own && has_bit m.codes code

-- what a mode entry says, or this where there is none
abbrev pub mode_says : Bool → Option ModeRule → Bool
mode_says default None = default
mode_says default (Some m) = m.legal

-- The last mode entry that speaks of the own code says whether it is legal; with none, only the
-- required codes are. A code outside the table of mode codes never is.
abbrev pub is_own_code_legal : List ModeRule → ℕ → Bool
is_own_code_legal modes code = is_some (mode_row code) && mode_says (is_required_code code) (last_of (contains_own code) modes)

-- the own codes that every profile must leave legal are
abbrev pub has_required_codes : List ModeRule → Bool
has_required_codes modes = list_all (is_own_code_legal modes) required_codes

-- What mode entries say of the tables of mode codes.
use Rattle.std.specs.Prelude.{◌≡◌, ℕ, ◌<◌, Bool, true, false, ◌&&◌, if◌then◌else◌, List, is_some}
use Rattle.bus_word.specs.Cell.{allows_broadcast}
use Rattle.bus_word.specs.Mask.{has_bit}
use Rattle.bus_word.specs.Mode.{mode_row, is_required_code}
use Rattle.bus_legal.specs.declared.entries.ModeRule.{ModeRule}
use Rattle.bus_legal.specs.declared.profile.Profile.{Profile}
use Rattle.bus_legal.specs.Last.{last_of}
use Rattle.bus_legal.specs.OwnCodes.{mode_says}
use Rattle.spare_entries.specs.declared.said.Said.{Said}
use Rattle.spare_entries.specs.declared.modes.CodeTable.{CodeTable}
use Rattle.spare_entries.specs.declared.modes.CodeTable.TheVariants.{Own, Broadcast}
use Rattle.spare_entries.specs.Without.{without}

-- the code of the table is legal before the first entry
abbrev pub is_first_legal : CodeTable → ℕ → Bool
is_first_legal Own c = is_required_code c
is_first_legal Broadcast c = false

-- the code of the table may be legal
abbrev pub may_be_legal : CodeTable → ℕ → Bool
may_be_legal Own c = is_some (mode_row c)
may_be_legal Broadcast c = allows_broadcast (mode_row c)

-- the entry speaks of commands of the table
abbrev pub addresses : CodeTable → ModeRule → Bool
addresses Own m = m.own
addresses Broadcast m = m.broadcast

-- what a mode entry says of the codes of the table
abbrev pub codes_said : CodeTable → ModeRule → Said
codes_said table m = record { bits = if addresses table m then m.codes else 0; legal = m.legal }

-- the code of the table is legal by these entries
abbrev pub is_code_legal : CodeTable → List ModeRule → ℕ → Bool
is_code_legal table modes c = may_be_legal table c && mode_says (is_first_legal table c) (last_of (λ m. addresses table m && has_bit m.codes c) modes)

-- without the entry the table is the same
abbrev pub SameCodes : CodeTable → List ModeRule → ℕ → Type 0
SameCodes table modes k = (c : ℕ) → c < 32 → is_code_legal table modes c ≡ is_code_legal table (without k modes) c

-- without the entry the tables of the codes that the terminal hears are the same
abbrev pub SameModes : Profile → ℕ → Type 0
SameModes p k = SameCodes Own p.modes k × (p.broadcast ≡ true → SameCodes Broadcast p.modes k)

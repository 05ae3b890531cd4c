-- Why a terminal is not added to a bus.
use Rattle.std.specs.Prelude.{ℕ, ◌≡◌, ◌≤◌, ◌<◌, true, List, length, is_some}
use Rattle.bus_legal.specs.Description.{Description}
use Rattle.bus_legal.specs.Parts.{Parts}
use Rattle.terminal_bus.specs.Members.{powered_up}
use Rattle.terminal_bus.specs.AtMembers.{not_added}
use Rattle.terminal_bus.specs.Lists.{Each}

-- a profile has this address, and its terminal is not added to terminals so described
pub record IsCrowded (Ps : List Description) (a : ℕ) (normal : Parts) : Type 0 where
  pub here : normal.address ≡ a
  pub full : is_some (not_added (powered_up Ps) a) ≡ true

-- terminals have addresses below this one, and there are no more of them
pub record AreBelow (a : ℕ) (Ps : List Description) : Type 0 where
  pub each : Each (λ P. P.address < a) Ps
  pub few : length Ps ≤ a

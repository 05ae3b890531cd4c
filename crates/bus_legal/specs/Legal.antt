-- Which cells a profile makes legal.
use Rattle.std.specs.Prelude.{ℕ, ◌-◌, Bool, false, ◌&&◌, List, Option, Some, None}
use Rattle.bus_word.specs.declared.cell.Cell.{Cell}
use Rattle.bus_word.specs.declared.cell.Cell.TheVariants.{OwnReceive, OwnTransmit, BroadReceive, OwnMode, BroadMode}
use Rattle.bus_word.specs.Cell.{is_allowed}
use Rattle.bus_word.specs.Mode.{is_required_code}
use Rattle.bus_legal.specs.declared.entries.Rule.{Rule}
use Rattle.bus_legal.specs.declared.entries.ModeRule.{ModeRule}
use Rattle.bus_legal.specs.Last.{last_of}
use Rattle.bus_word.specs.Mask.{has_bit}
use Rattle.bus_legal.specs.OwnCodes.{contains_own, mode_says}

-- the rule's sets contain this subaddress and this word count
abbrev pub is_among : ℕ → ℕ → Rule → Bool
is_among subaddress count r = has_bit r.subaddresses (subaddress - 1) && has_bit r.counts (count - 1)

-- the rule's sets contain the cell; a rule speaks of no mode code
abbrev pub contains : Cell → Rule → Bool
contains (OwnReceive s n) r = r.own && r.receive && is_among s n r
contains (OwnTransmit s n) r = r.own && r.transmit && is_among s n r
contains (BroadReceive s n) r = r.broadcast && r.receive && is_among s n r
contains (OwnMode c) r = false
contains (BroadMode c) r = false

-- the mode entry speaks of this code by broadcast
abbrev pub contains_broadcast : ℕ → ModeRule → Bool
contains_broadcast code m = m.broadcast && has_bit m.codes code

-- what a rule says; where there is none, the cell is not legal
abbrev pub rule_says : Option Rule → Bool
rule_says None = false
rule_says (Some r) = r.legal

-- What the last entry whose sets contain the cell says. With none, of the mode codes to the own
-- address the required ones are legal, and nothing else is.
abbrev pub last_says : List Rule → List ModeRule → Cell → Bool
last_says rules modes (OwnMode c) = mode_says (is_required_code c) (last_of (contains_own c) modes)
last_says rules modes (BroadMode c) = mode_says false (last_of (contains_broadcast c) modes)
last_says rules modes cell = rule_says (last_of (contains cell) rules)

-- The cell is legal: some command has it, and the last entry whose sets contain it says so.
unfoldable pub is_legal : List Rule → List ModeRule → Cell → Bool
is_legal rules modes cell = is_allowed cell && last_says rules modes cell

-- A bus of the terminals of profiles at power-up.
use Rattle.std.specs.Prelude.{ℕ, zero, suc, ◌≡◌, ◌≤◌, ◌<◌, ◌==◌, List, [], ◌++◌, map, filter, length, codes, decimal, ◌/◌, ◌%◌}
use Rattle.std.specs.String.{string_bytes}
use Rattle.bus_legal.specs.Description.{Description}
use Rattle.bus_legal.specs.Parts.{Parts, description_in}
use Rattle.bus_legal.specs.Tables.{tables_say}
use Rattle.terminal_bus.specs.declared.bus.TerminalBus.{TerminalBus}
use Rattle.terminal_bus.specs.Members.{Member, powered_up}
use Rattle.terminal_bus.specs.AtMembers.{BusStandsAt}
use Rattle.terminal_bus.specs.Lists.{Each}
use Rattle.terminal_bus.specs.OneSpeaker.{AddressesDiffer}
use Rattle.bus_reports.specs.Outcomes.{EndsWith}
use Rattle.tool_files.specs.declared.fault.ToolFault.{ToolFault}
use Rattle.tool_files.specs.declared.fault.ToolFault.TheVariants.{Memory, Refused}

abbrev pub IsBusAt : List Member → TerminalBus Parts → Type 0
IsBusAt members bus = BusStandsAt (λ (normal : Parts). tables_say normal.tables) members bus

-- a bus has terminals so described, of different addresses, all at power-up
pub record IsPowered (Ps : List Description) (bus : TerminalBus Parts) : Type 0 where
  pub stands : IsBusAt (powered_up Ps) bus
  pub differ : AddressesDiffer Ps
  pub low : Each (λ P. P.address ≤ 30) Ps

-- the terminals of profiles with an address, and those with an address below this one, in the order of their addresses
abbrev pub described_at : ℕ → List Parts → List Description
described_at a normals = map description_in (filter (λ normal. normal.address == a) normals)

abbrev pub described_below : ℕ → List Parts → List Description
described_below zero normals = []
described_below (suc a) normals = described_below a normals ++ described_at a normals

-- an address that two or more of them have, and the lowest one
pub record IsShared (normals : List Parts) (a : ℕ) : Type 0 where
  pub low : a ≤ 30
  pub two : 2 ≤ length (described_at a normals)
  pub first : (b : ℕ) → b < a → length (described_at b normals) ≤ 1

-- what is told of an address that two of them have, behind the names of their files
abbrev pub shared_words : ℕ → List ℕ
shared_words a = codes ": the same address, " ++ (decimal (a / 10) ++ (decimal (a % 10) ++ codes "; on a bus each terminal has its own"))

-- memory ran out, or the lowest address that two of them have is told
abbrev pub TellsShared : List Parts → ToolFault → Type 0
TellsShared normals (Refused told) = (a : ℕ) × IsShared normals a × EndsWith (shared_words a) (string_bytes told)
TellsShared normals fault = fault ≡ Memory

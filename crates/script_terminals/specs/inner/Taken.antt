-- What one line changes: the text and the warnings, before and after, and the bus.
use Rattle.std.specs.Prelude.{◌≡◌, ◌++◌, ℕ, Bool, List, Option, Some, None, Result, Ok, Err}
use Rattle.bus_word.specs.declared.cell.Cell.{Cell}
use Rattle.terminal_bus.specs.declared.event.BusEvent.{BusEvent}
use Rattle.terminal_bus.specs.declared.bus.TerminalBus.{TerminalBus}
use Rattle.terminal_bus.specs.Members.{Member, bus_after}
use Rattle.terminal_bus.specs.AtMembers.{BusStandsAt}
use Rattle.script_terminals.specs.declared.playing.BusTold.{BusTold}
use Rattle.script_terminals.specs.declared.playing.BusWarning.{BusWarning}
use Rattle.script_terminals.specs.declared.playing.BusScriptFault.{BusScriptFault}
use Rattle.script_terminals.specs.BusReading.{breach_of, warned}
use Rattle.script_terminals.specs.Playing.{text_told}

-- what is written so far
pub record Written : Type 0 where
  pub text : List ℕ
  pub warnings : List BusWarning

abbrev pub written_so_far : List ℕ → List BusWarning → Written
written_so_far text warnings = record { text = text; warnings = warnings }

-- the event of a line was played
pub record PlaysEvent {L : Type 0} (is_legal : L → Cell → Bool) (told : BusTold) (members : List Member) (n : ℕ) (x : BusEvent) (old new : Written) (bus : TerminalBus L) : Type 0 where
  pub text : new.text ≡ old.text ++ text_told told members x
  pub warnings : new.warnings ≡ old.warnings ++ warned n (breach_of members x)
  pub stands : BusStandsAt is_legal (bus_after members x) bus

-- nothing was played
pub record Remains {L : Type 0} (is_legal : L → Cell → Bool) (members : List Member) (old new : Written) (bus : TerminalBus L) : Type 0 where
  pub text : new.text ≡ old.text
  pub warnings : new.warnings ≡ old.warnings
  pub stands : BusStandsAt is_legal members bus

-- by what a line says: its event was played, or nothing; and the fault that ends the script
abbrev pub PlaysBusLine : {L : Type 0} → (L → Cell → Bool) → BusTold → List Member → ℕ → Result (Option BusEvent) BusScriptFault → Option BusScriptFault → Written → Written → TerminalBus L → Type 0
PlaysBusLine is_legal told members n (Ok (Some x)) fault old new bus = (fault ≡ None) × PlaysEvent is_legal told members n x old new bus
PlaysBusLine is_legal told members n (Ok None) fault old new bus = (fault ≡ None) × Remains is_legal members old new bus
PlaysBusLine is_legal told members n (Err f) fault old new bus = (fault ≡ Some f) × Remains is_legal members old new bus

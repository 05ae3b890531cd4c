-- Why no terminal is made of a text that is to be a saved state.
use Rattle.std.specs.Prelude.{ℕ, List}
use Rattle.rt1553_live.specs.Text.{IsNoState}
use Rattle.rt1553_live.specs.declared.state_fault.StateFault.TheVariants.{Line, Trailing}
use Rattle.rt1553_live.specs.declared.fault.PlainFault.{PlainFault}
use Rattle.rt1553_live.specs.PlainFault.{TellsNumbers}
use Rattle.rt1553_live.specs.declared.live.RestoreFault.{RestoreFault}
use Rattle.rt1553_live.specs.declared.live.RestoreFault.TheVariants.{State, Memory}

-- it is no saved state, for this reason; or memory ran out
abbrev pub IsNotRestored : List ℕ → RestoreFault → Type 0
IsNotRestored text (State fault) = IsNoState text fault
IsNotRestored text Memory = Unit {0}

-- a saved state, or memory
abbrev pub restore_fault_kind : RestoreFault → ℕ
restore_fault_kind (State fault) = 5
restore_fault_kind Memory = 3

-- its number among the faults of saved states; 0 where memory ran out
abbrev pub restore_fault_number : RestoreFault → ℕ
restore_fault_number (State (Line n)) = 1
restore_fault_number (State Trailing) = 2
restore_fault_number Memory = 0

-- the line that it names, or 0
abbrev pub restore_fault_line : RestoreFault → ℕ
restore_fault_line (State (Line n)) = n
restore_fault_line _ = 0

-- 2 where the text is refused, 4 where memory runs out
abbrev pub restore_status : RestoreFault → ℕ
restore_status (State fault) = 2
restore_status Memory = 4

-- the fault is told
abbrev pub TellsRestoreFault : PlainFault → RestoreFault → Type 0
TellsRestoreFault to fault = TellsNumbers to (restore_fault_kind fault) (restore_fault_number fault) (restore_fault_line fault)

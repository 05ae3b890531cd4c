-- Worked examples: what follows a command in its run.
use Rattle.std.specs.Prelude.{[], ◌∷◌}
use Rattle.bus_word.specs.declared.word.Bus.TheVariants.{A}
use Rattle.bus_word.specs.declared.cell.Cell.TheVariants.{OwnReceive, OwnTransmit, BroadReceive, BroadMode}
use Rattle.terminal_rules.specs.WorkedExamples.Words.{five, five_hearing_all, command, data_word, invalid_data, quiet, gap, idle_slot, gap_sends, Answers}

-- scripts in which something other than its data words follows a command
pub record RunRows : Type 0 where
  -- a data word of wrong parity
  pub invalid_data : Answers (five (OwnReceive 3 1 ∷ []))
      (quiet (command A 0x2861) ∷ quiet (invalid_data A 0x0007) ∷ gap A ∷ idle_slot ∷ quiet (command A 0x2c02)
      ∷ gap_sends A 0x2c00 [] ∷ [])
  -- a transmit command after a receive command to the own address
  pub own_receive_then_transmit : Answers (five (OwnReceive 3 1 ∷ OwnTransmit 4 1 ∷ []))
      (quiet (command A 0x2861) ∷ quiet (command A 0x2c81) ∷ gap A ∷ idle_slot ∷ quiet (command A 0x2c02) ∷ gap_sends A 0x2c00 [] ∷ [])
  -- a transmit command after a mode code by broadcast
  pub broadcast_mode_then_transmit : Answers (five_hearing_all (OwnTransmit 4 1 ∷ BroadMode 1 ∷ []))
      (quiet (command A 0xfc01) ∷ quiet (command A 0x2c81) ∷ gap A ∷ idle_slot ∷ quiet (command A 0x2c02) ∷ gap_sends A 0x2c10 [] ∷ [])
  -- a receive command after one by broadcast
  pub broadcast_then_own_receive : Answers (five_hearing_all (OwnReceive 3 1 ∷ BroadReceive 3 1 ∷ []))
      (quiet (command A 0xf861) ∷ quiet (command A 0x2861) ∷ quiet (data_word A 0x0007) ∷ gap A ∷ idle_slot
      ∷ quiet (command A 0x2c02) ∷ gap_sends A 0x2c10 [] ∷ [])
  -- a mode code by broadcast after a receive command by broadcast
  pub broadcast_then_broadcast_code : Answers (five_hearing_all (BroadReceive 3 1 ∷ BroadMode 1 ∷ []))
      (quiet (command A 0xf861) ∷ quiet (command A 0xfc01) ∷ gap A ∷ idle_slot ∷ quiet (command A 0x2c02) ∷ gap_sends A 0x2c10 [] ∷ [])
  -- a command after one by broadcast, to a terminal without the broadcast option: what isn't for it is passed over
  pub unheard_broadcast_then_own : Answers (five [])
      (quiet (command A 0xfc02) ∷ quiet (command A 0x2c02) ∷ gap_sends A 0x2800 [] ∷ [])

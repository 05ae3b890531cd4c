-- Worked examples: mode codes, flags, and what is held ready.
use Rattle.std.specs.Prelude.{[], ◌∷◌, ℕ, true, false, ◌==◌, ◌&&◌, if◌then◌else◌}
use Rattle.bus_word.specs.declared.word.Bus.TheVariants.{A, B}
use Rattle.bus_word.specs.declared.cell.Cell.TheVariants.{OwnReceive, OwnTransmit, OwnMode, BroadMode}
use Rattle.terminal_rules.specs.declared.event.Event.TheVariants.{Vector, Flag as FlagIs}
use Rattle.terminal_rules.specs.declared.event.Flag.TheVariants.{Busy, Subsystem, Terminal}
use Rattle.terminal_rules.specs.Out.{HandsReceived, HandsSynchronizeWith, HandsSelfTest, HandsBusControl}
use Rattle.terminal_rules.specs.WorkedExamples.Words.{five, five_hearing_all, command, data_word, write, quiet, gap, idle_slot, gap_sends, gap_hands, gap_sends_and_hands, Answers}

-- words at power-up: 000a is the first of subaddress 3
abbrev pub ten_first : ℕ → ℕ → ℕ
ten_first s i = if (s == 3) && (i == 1) then 0x000a else 0

-- scripts of mode codes, flags and words held
pub record ModeCodeRows : Type 0 where
  -- what is received at the wraparound subaddress is sent from there
  pub wraparound : Answers (five (OwnReceive 30 1 ∷ OwnTransmit 30 1 ∷ []))
      (quiet (command A 0x2bc1) ∷ quiet (data_word A 0xbeef) ∷ gap_sends_and_hands A 0x2800 (HandsReceived false 30 (0xbeef ∷ []))
      ∷ quiet (command A 0x2fc1) ∷ gap_sends A 0x2800 (0xbeef ∷ []) ∷ [])
  -- at a chosen one, and not at 30 then
  pub wraparound_at_seven : Answers (record (five (OwnReceive 7 1 ∷ OwnTransmit 7 1 ∷ OwnReceive 30 1 ∷ OwnTransmit 30 1 ∷ [])) { wrap = 7 })
      (quiet (command A 0x28e1) ∷ quiet (data_word A 0xbeef) ∷ gap_sends_and_hands A 0x2800 (HandsReceived false 7 (0xbeef ∷ []))
      ∷ quiet (command A 0x2ce1) ∷ gap_sends A 0x2800 (0xbeef ∷ [])
      ∷ quiet (command A 0x2bc1) ∷ quiet (data_word A 0xbeef) ∷ gap_sends_and_hands A 0x2800 (HandsReceived false 30 (0xbeef ∷ []))
      ∷ quiet (command A 0x2fc1) ∷ gap_sends A 0x2800 (0 ∷ []) ∷ [])
  -- transmit last command tells the command before it, an illegal one too, and isn't recorded itself
  pub last_command : Answers (five (OwnMode 18 ∷ []))
      (quiet (command A 0x2c61) ∷ gap_sends A 0x2c00 [] ∷ quiet (command A 0x2c12) ∷ gap_sends A 0x2c00 (0x2c61 ∷ [])
      ∷ quiet (command A 0x2c02) ∷ gap_sends A 0x2c00 [] ∷ quiet (command A 0x2c12) ∷ gap_sends A 0x2c00 (0x2c02 ∷ [])
      ∷ quiet (command A 0x2c12) ∷ gap_sends A 0x2c00 (0x2c02 ∷ []) ∷ [])
  -- after a reset there is no last command, not even the reset
  pub last_command_after_reset : Answers (five (OwnMode 18 ∷ []))
      (quiet (command A 0x2c08) ∷ gap_sends A 0x2800 [] ∷ quiet (command A 0x2c12) ∷ gap_sends A 0x2800 (0 ∷ []) ∷ [])
  -- a broadcast command is told whole
  pub last_command_after_broadcast : Answers (five_hearing_all (OwnMode 18 ∷ []))
      (quiet (command A 0xfc02) ∷ gap A ∷ idle_slot ∷ quiet (command A 0x2c12) ∷ gap_sends A 0x2c10 (0xfc02 ∷ []) ∷ [])
  -- while busy, no data is taken
  pub busy_receive : Answers (five (OwnReceive 3 1 ∷ []))
      (quiet (FlagIs Busy true) ∷ quiet (command A 0x2861) ∷ quiet (data_word A 0x0007) ∷ gap_sends A 0x2808 [] ∷ [])
  -- while busy, the BIT word is sent, and the vector word is not
  pub busy_bit_word : Answers (record (five (OwnMode 19 ∷ [])) { bit = 0x0042 })
      (quiet (FlagIs Busy true) ∷ quiet (command A 0x2c13) ∷ gap_sends A 0x2808 (0x0042 ∷ []) ∷ [])
  pub busy_vector_word : Answers (record (five (OwnMode 16 ∷ [])) { vector = 0x00aa })
      (quiet (FlagIs Busy true) ∷ quiet (command A 0x2c10) ∷ gap_sends A 0x2808 [] ∷ [])
  -- while busy, bus control is accepted
  pub busy_bus_control : Answers (record (five (OwnMode 0 ∷ [])) { accept = true })
      (quiet (FlagIs Busy true) ∷ quiet (command A 0x2c00) ∷ gap_sends_and_hands A 0x280a HandsBusControl ∷ [])
  -- the terminal flag is inhibited, and shows again
  pub inhibit_flag : Answers (five (OwnMode 6 ∷ OwnMode 7 ∷ []))
      (quiet (FlagIs Terminal true) ∷ quiet (command A 0x2c06) ∷ gap_sends A 0x2800 [] ∷ quiet (command A 0x2c02)
      ∷ gap_sends A 0x2800 [] ∷ quiet (command A 0x2c07) ∷ gap_sends A 0x2801 [] ∷ [])
  -- a reset lifts the inhibition, after its own status
  pub inhibited_until_reset : Answers (five (OwnMode 6 ∷ []))
      (quiet (FlagIs Terminal true) ∷ quiet (command A 0x2c06) ∷ gap_sends A 0x2800 [] ∷ quiet (command A 0x2c08)
      ∷ gap_sends A 0x2800 [] ∷ quiet (command A 0x2c02) ∷ gap_sends A 0x2800 [] ∷ quiet (command A 0x2c05)
      ∷ gap_sends A 0x2801 [] ∷ [])
  -- the subsystem flag shows, and no other bit with it
  pub subsystem_flag : Answers (five [])
      (quiet (FlagIs Subsystem true) ∷ quiet (command A 0x2c05) ∷ gap_sends A 0x2804 [] ∷ [])
  -- a reset takes back the vector word that the subsystem gave
  pub vector_and_reset : Answers (record (five (OwnMode 16 ∷ [])) { vector = 0x00aa })
      (quiet (Vector 0x1234) ∷ quiet (command A 0x2c10) ∷ gap_sends A 0x2800 (0x1234 ∷ []) ∷ quiet (command A 0x2c08)
      ∷ gap_sends A 0x2800 [] ∷ quiet (command A 0x2c10) ∷ gap_sends A 0x2800 (0x00aa ∷ []) ∷ [])
  -- the subsystem may give it while busy
  pub vector_given_while_busy : Answers (five (OwnMode 16 ∷ []))
      (quiet (FlagIs Busy true) ∷ quiet (Vector 0x1234) ∷ quiet (FlagIs Busy false) ∷ quiet (command A 0x2c10)
      ∷ gap_sends A 0x2800 (0x1234 ∷ []) ∷ [])
  -- a self-test is handed over
  pub self_test : Answers (five (OwnMode 3 ∷ [])) (quiet (command A 0x2c03) ∷ gap_sends_and_hands A 0x2800 HandsSelfTest ∷ [])
  -- dynamic bus control is accepted
  pub bus_control : Answers (record (five (OwnMode 0 ∷ [])) { accept = true })
      (quiet (command A 0x2c00) ∷ gap_sends_and_hands A 0x2802 HandsBusControl ∷ [])
  -- synchronize with data word by broadcast
  pub broadcast_sync : Answers (five_hearing_all (BroadMode 17 ∷ []))
      (quiet (command A 0xf811) ∷ quiet (data_word A 0x00ff) ∷ gap_hands A (HandsSynchronizeWith 0x00ff) ∷ idle_slot
      ∷ quiet (command A 0x2c02) ∷ gap_sends A 0x2810 [] ∷ [])
  -- the subsystem writes one of two words
  pub written_word : Answers (record (five (OwnTransmit 3 2 ∷ [])) { initial = ten_first })
      (quiet (write 3 2 0x00bb) ∷ quiet (command A 0x2c62) ∷ gap_sends A 0x2800 (0x000a ∷ 0x00bb ∷ []) ∷ [])
  -- a transmit last command that is legal spares the kept status at its start, and one that isn't does not
  pub spared_by_last_command : Answers (five (OwnMode 18 ∷ []))
      (quiet (FlagIs Busy true) ∷ quiet (command A 0x2c61) ∷ gap_sends A 0x2c08 [] ∷ quiet (FlagIs Busy false)
      ∷ quiet (command A 0x2c12) ∷ quiet (command B 0x2c02) ∷ gap_sends B 0x2c08 [] ∷ [])
  pub cleared_by_illegal_last_command : Answers (five [])
      (quiet (FlagIs Busy true) ∷ quiet (command A 0x2c61) ∷ gap_sends A 0x2c08 [] ∷ quiet (FlagIs Busy false)
      ∷ quiet (command A 0x2c12) ∷ quiet (command B 0x2c02) ∷ gap_sends B 0x2800 [] ∷ [])

-- Worked examples: what a message leaves, of the kept status, of the words held ready, and of what a reset brings back.
use Rattle.std.specs.Prelude.{[], ◌∷◌, ℕ, true, false, ◌==◌, ◌&&◌, if◌then◌else◌}
use Rattle.bus_word.specs.declared.word.Bus.TheVariants.{A, B}
use Rattle.bus_word.specs.declared.cell.Cell.TheVariants.{OwnReceive, OwnTransmit, BroadReceive, OwnMode, BroadMode}
use Rattle.terminal_rules.specs.declared.event.Event.TheVariants.{Flag as FlagIs}
use Rattle.terminal_rules.specs.declared.event.Flag.TheVariants.{Service, Busy, Terminal}
use Rattle.terminal_rules.specs.Out.{HandsReceived}
use Rattle.terminal_rules.specs.WorkedExamples.Words.{five, five_hearing_all, command, data_word, write, quiet, gap, idle_slot, gap_sends, gap_hands, gap_sends_and_hands, Answers}

-- words at power-up: 000a is the first of subaddress 1
abbrev pub ten_at_one : ℕ → ℕ → ℕ
ten_at_one s i = if (s == 1) && (i == 1) then 0x000a else 0

-- scripts in which a later answer shows what a message left
pub record EffectRows : Type 0 where
  -- transmit status word that ends in error adds message error to the kept status, which keeps its other bits
  pub spared_status_keeps_its_bits : Answers (five_hearing_all [])
      (quiet (command A 0xfc02) ∷ gap A ∷ idle_slot ∷ quiet (command A 0x2c02) ∷ quiet (data_word A 0x0000) ∷ gap A ∷ idle_slot
      ∷ quiet (command A 0x2c02) ∷ gap_sends A 0x2c10 [] ∷ [])
  -- the status of a message that ends in error shows the flags as they stood at its end
  pub error_shows_flags : Answers (five (OwnReceive 3 2 ∷ []))
      (quiet (FlagIs Busy true) ∷ quiet (command A 0x2862) ∷ quiet (data_word A 0x0001) ∷ gap A ∷ idle_slot
      ∷ quiet (FlagIs Busy false) ∷ quiet (command A 0x2c02) ∷ gap_sends A 0x2c08 [] ∷ [])
  -- but not the terminal flag while it is inhibited: here a broadcast is illegal
  pub error_hides_inhibited_flag : Answers (five_hearing_all (OwnMode 6 ∷ []))
      (quiet (FlagIs Terminal true) ∷ quiet (command A 0x2c06) ∷ gap_sends A 0x2800 [] ∷ quiet (command A 0xfc02)
      ∷ gap A ∷ idle_slot ∷ quiet (command A 0x2c02) ∷ gap_sends A 0x2c10 [] ∷ [])
  -- a start clears the kept status: until its message ends no flag shows
  pub start_clears_flags : Answers (five (OwnReceive 3 2 ∷ []))
      (quiet (FlagIs Busy true) ∷ quiet (command A 0x2862) ∷ quiet (command B 0x2c02) ∷ gap_sends B 0x2800 [] ∷ [])
  -- and no earlier broadcast: a transmit last command that isn't legal clears it too, and tells of itself alone
  pub illegal_forgets_broadcast : Answers (five_hearing_all [])
      (quiet (command A 0xfc02) ∷ gap A ∷ idle_slot ∷ quiet (command A 0x2c12) ∷ gap_sends A 0x2c00 [] ∷ [])
  -- while busy, the last command is told
  pub busy_last_command : Answers (five (OwnMode 18 ∷ []))
      (quiet (command A 0x2c61) ∷ gap_sends A 0x2c00 [] ∷ quiet (FlagIs Busy true) ∷ quiet (command A 0x2c12)
      ∷ gap_sends A 0x2c00 (0x2c61 ∷ []) ∷ [])
  -- while busy, synchronize with data word is not done
  pub busy_synchronize_with_data : Answers (five (OwnMode 17 ∷ []))
      (quiet (FlagIs Busy true) ∷ quiet (command A 0x2811) ∷ quiet (data_word A 0x0009) ∷ gap_sends A 0x2808 [] ∷ [])
  -- while busy, a broadcast is not handed over, and the kept status shows both
  pub busy_broadcast : Answers (five_hearing_all (BroadReceive 3 1 ∷ []))
      (quiet (FlagIs Busy true) ∷ quiet (command A 0xf861) ∷ quiet (data_word A 0x0007) ∷ gap A ∷ idle_slot
      ∷ quiet (command A 0x2c02) ∷ gap_sends A 0x2818 [] ∷ [])
  -- while busy, no words are held for wraparound
  pub busy_wraparound : Answers (five (OwnReceive 30 1 ∷ OwnTransmit 30 1 ∷ []))
      (quiet (FlagIs Busy true) ∷ quiet (command A 0x2bc1) ∷ quiet (data_word A 0x0007) ∷ gap_sends A 0x2808 []
      ∷ quiet (FlagIs Busy false) ∷ quiet (command A 0x2fc1) ∷ gap_sends A 0x2800 (0x0000 ∷ []) ∷ [])
  -- a shorter message by wraparound leaves the words behind its own, and a reset brings all back
  pub wraparound_in_part : Answers (five (OwnReceive 30 1 ∷ OwnReceive 30 2 ∷ OwnTransmit 30 2 ∷ []))
      (quiet (command A 0x2bc2) ∷ quiet (data_word A 0x0001) ∷ quiet (data_word A 0x0002)
      ∷ gap_sends_and_hands A 0x2800 (HandsReceived false 30 (0x0001 ∷ 0x0002 ∷ [])) ∷ quiet (command A 0x2bc1)
      ∷ quiet (data_word A 0x0009) ∷ gap_sends_and_hands A 0x2800 (HandsReceived false 30 (0x0009 ∷ []))
      ∷ quiet (command A 0x2fc2) ∷ gap_sends A 0x2800 (0x0009 ∷ 0x0002 ∷ []) ∷ quiet (command A 0x2c08)
      ∷ gap_sends A 0x2800 [] ∷ quiet (command A 0x2fc2) ∷ gap_sends A 0x2800 (0x0000 ∷ 0x0000 ∷ []) ∷ [])
  -- words that come by broadcast are held too
  pub wraparound_by_broadcast : Answers (five_hearing_all (BroadReceive 30 1 ∷ OwnTransmit 30 1 ∷ []))
      (quiet (command A 0xfbc1) ∷ quiet (data_word A 0xbeef) ∷ gap_hands A (HandsReceived true 30 (0xbeef ∷ [])) ∷ idle_slot
      ∷ quiet (command A 0x2fc1) ∷ gap_sends A 0x2800 (0xbeef ∷ []) ∷ [])
  -- the words of another subaddress are not sent
  pub word_of_another_subaddress : Answers (record (five (OwnTransmit 30 1 ∷ [])) { initial = ten_at_one })
      (quiet (command A 0x2fc1) ∷ gap_sends A 0x2800 (0x0000 ∷ []) ∷ [])
  -- a reset takes back the words that the subsystem wrote
  pub written_word_and_reset : Answers (five (OwnTransmit 3 1 ∷ []))
      (quiet (write 3 1 0x1234) ∷ quiet (command A 0x2c08) ∷ gap_sends A 0x2800 [] ∷ quiet (command A 0x2c61)
      ∷ gap_sends A 0x2800 (0x0000 ∷ []) ∷ [])
  -- by broadcast too, the transmitter of the other bus is shut down
  pub broadcast_shutdown : Answers (five_hearing_all (BroadMode 4 ∷ []))
      (quiet (command A 0xfc04) ∷ gap A ∷ idle_slot ∷ quiet (command B 0x2c02) ∷ gap B ∷ idle_slot ∷ quiet (command A 0x2c02)
      ∷ gap_sends A 0x2810 [] ∷ [])
  -- by broadcast too, the terminal flag is inhibited
  pub broadcast_inhibit : Answers (five_hearing_all (BroadMode 6 ∷ []))
      (quiet (FlagIs Terminal true) ∷ quiet (command A 0xfc06) ∷ gap A ∷ idle_slot ∷ quiet (command A 0x2c02)
      ∷ gap_sends A 0x2810 [] ∷ [])
  -- by broadcast too, all is reset
  pub broadcast_reset : Answers (five_hearing_all (BroadMode 8 ∷ OwnMode 18 ∷ []))
      (quiet (command A 0x2c61) ∷ gap_sends A 0x2c00 [] ∷ quiet (command A 0xfc08) ∷ gap A ∷ idle_slot ∷ quiet (command A 0x2c12)
      ∷ gap_sends A 0x2800 (0x0000 ∷ []) ∷ [])
  -- a reset clears the kept status after its own was sent
  pub reset_clears_kept_status : Answers (five [])
      (quiet (FlagIs Service true) ∷ quiet (command A 0x2c08) ∷ gap_sends A 0x2900 [] ∷ quiet (FlagIs Service false)
      ∷ quiet (command A 0x2c02) ∷ gap_sends A 0x2800 [] ∷ [])
  -- bus control that is legal and not accepted
  pub bus_control_refused : Answers (five (OwnMode 0 ∷ []))
      (quiet (command A 0x2c00) ∷ gap_sends A 0x2800 [] ∷ [])

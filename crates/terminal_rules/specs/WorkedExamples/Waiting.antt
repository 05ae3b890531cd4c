-- Worked examples: which transfers wait, and for what.
use Rattle.std.specs.Prelude.{[], ◌∷◌, true, false}
use Rattle.bus_word.specs.declared.word.Bus.TheVariants.{A, B}
use Rattle.bus_word.specs.declared.cell.Cell.TheVariants.{OwnReceive, OwnMode}
use Rattle.terminal_rules.specs.declared.event.Event.TheVariants.{Noise, Flag as FlagIs}
use Rattle.terminal_rules.specs.declared.event.Flag.TheVariants.{Service}
use Rattle.terminal_rules.specs.Out.{HandsReceived}
use Rattle.terminal_rules.specs.WorkedExamples.Words.{five, command, data_word, invalid, quiet, gap, idle_slot, gap_sends, gap_sends_and_hands, Answers}

-- scripts of transfers that wait for a status word, and of messages that don't come to wait
pub record WaitingRows : Type 0 where
  -- after the time-out a status is no longer awaited
  pub time_out_ends_waiting : Answers (five (OwnReceive 3 1 ∷ []))
      (quiet (command A 0x2861) ∷ quiet (command A 0x3c81) ∷ gap A ∷ idle_slot ∷ gap A ∷ idle_slot ∷ quiet (command A 0x3800)
      ∷ quiet (data_word A 0x0007) ∷ gap A ∷ idle_slot ∷ quiet (command A 0x2c02) ∷ gap_sends A 0x2c00 [] ∷ [])
  -- nor is it after noise
  pub noise_ends_waiting_for_good : Answers (five (OwnReceive 3 1 ∷ []))
      (quiet (command A 0x2861) ∷ quiet (command A 0x3c81) ∷ gap A ∷ idle_slot ∷ quiet (Noise A) ∷ quiet (command A 0x3800)
      ∷ quiet (data_word A 0x0007) ∷ gap A ∷ idle_slot ∷ quiet (command A 0x2c02) ∷ gap_sends A 0x2c00 [] ∷ [])
  -- noise ends the message in error, and the next status shows the flags as they stood
  pub noise_in_waiting_shows_flags : Answers (five [])
      (quiet (FlagIs Service true) ∷ quiet (command A 0x2861) ∷ quiet (command A 0x3c81) ∷ gap A ∷ idle_slot ∷ quiet (Noise A)
      ∷ quiet (command A 0x2c02) ∷ gap_sends A 0x2d00 [] ∷ [])
  -- a command on the other bus ends the waiting too, and that is no error
  pub other_bus_ends_waiting : Answers (five [])
      (quiet (command A 0x2861) ∷ quiet (command A 0x3c81) ∷ gap A ∷ idle_slot ∷ quiet (command B 0x2c02) ∷ gap_sends B 0x2800 [] ∷ [])
  -- the awaited status is one whatever its other bits
  pub awaited_status_with_error : Answers (five (OwnReceive 3 1 ∷ []))
      (quiet (command A 0x2861) ∷ quiet (command A 0x3c81) ∷ gap A ∷ idle_slot ∷ quiet (command A 0x3c00)
      ∷ quiet (data_word A 0x0007) ∷ gap_sends_and_hands A 0x2800 (HandsReceived false 3 (0x0007 ∷ [])) ∷ [])
  -- and from whatever other address: here 21
  pub high_transmitter : Answers (five (OwnReceive 3 1 ∷ []))
      (quiet (command A 0x2861) ∷ quiet (command A 0xac81) ∷ gap A ∷ idle_slot ∷ quiet (command A 0xa800)
      ∷ quiet (data_word A 0x0007) ∷ gap_sends_and_hands A 0x2800 (HandsReceived false 3 (0x0007 ∷ [])) ∷ [])
  -- a data word with the bits of the awaited status is none
  pub data_word_is_no_status : Answers (five (OwnReceive 3 1 ∷ []))
      (quiet (command A 0x2861) ∷ quiet (command A 0x3c81) ∷ gap A ∷ idle_slot ∷ quiet (data_word A 0x3800)
      ∷ quiet (data_word A 0x0007) ∷ gap A ∷ idle_slot ∷ quiet (command A 0x2c02) ∷ gap_sends A 0x2c00 [] ∷ [])
  -- a second command that has this terminal transmit makes no transfer
  pub no_transfer_from_itself : Answers (five (OwnReceive 3 1 ∷ []))
      (quiet (command A 0x2861) ∷ quiet (command A 0x2c81) ∷ gap A ∷ idle_slot ∷ quiet (command A 0x2800)
      ∷ quiet (data_word A 0x0007) ∷ gap A ∷ idle_slot ∷ quiet (command A 0x2c02) ∷ gap_sends A 0x2c00 [] ∷ [])
  -- nor does one that has all terminals transmit
  pub no_transfer_from_all : Answers (five (OwnReceive 3 1 ∷ []))
      (quiet (command A 0x2861) ∷ quiet (command A 0xfc81) ∷ gap A ∷ idle_slot ∷ quiet (command A 0xf800)
      ∷ quiet (data_word A 0x0007) ∷ gap A ∷ idle_slot ∷ quiet (command A 0x2c02) ∷ gap_sends A 0x2c00 [] ∷ [])
  -- nor does one that has the other terminal receive
  pub no_transfer_by_receive : Answers (five (OwnReceive 3 1 ∷ []))
      (quiet (command A 0x2861) ∷ quiet (command A 0x3881) ∷ gap A ∷ idle_slot ∷ quiet (command A 0x3800)
      ∷ quiet (data_word A 0x0007) ∷ gap A ∷ idle_slot ∷ quiet (command A 0x2c02) ∷ gap_sends A 0x2c00 [] ∷ [])
  -- a mode code that has the other terminal transmit, as transmit BIT word, makes one
  pub transfer_of_mode_data : Answers (five (OwnReceive 3 1 ∷ []))
      (quiet (command A 0x2861) ∷ quiet (command A 0x3c13) ∷ gap A ∷ idle_slot ∷ quiet (command A 0x3800)
      ∷ quiet (data_word A 0x0007) ∷ gap_sends_and_hands A 0x2800 (HandsReceived false 3 (0x0007 ∷ [])) ∷ [])
  -- a second command of wrong parity makes no transfer
  pub invalid_second_command : Answers (five (OwnReceive 3 1 ∷ []))
      (quiet (command A 0x2861) ∷ quiet (invalid A 0x3c81) ∷ gap A ∷ idle_slot ∷ quiet (command A 0x3800)
      ∷ quiet (data_word A 0x0007) ∷ gap A ∷ idle_slot ∷ quiet (command A 0x2c02) ∷ gap_sends A 0x2c00 [] ∷ [])
  -- nor does a data word with the bits of one
  pub data_word_is_no_second_command : Answers (five (OwnReceive 3 2 ∷ []))
      (quiet (command A 0x2862) ∷ quiet (data_word A 0x3c81) ∷ gap A ∷ idle_slot ∷ quiet (command A 0x3800)
      ∷ quiet (data_word A 0x0001) ∷ quiet (data_word A 0x0002) ∷ gap A ∷ idle_slot ∷ quiet (command A 0x2c02)
      ∷ gap_sends A 0x2c00 [] ∷ [])
  -- nor does a second command after data
  pub no_transfer_after_data : Answers (five (OwnReceive 3 1 ∷ []))
      (quiet (command A 0x2861) ∷ quiet (data_word A 0x0001) ∷ quiet (command A 0x3c81) ∷ gap A ∷ idle_slot ∷ quiet (command A 0x3800)
      ∷ quiet (data_word A 0x0007) ∷ gap A ∷ idle_slot ∷ quiet (command A 0x2c02) ∷ gap_sends A 0x2c00 [] ∷ [])
  -- after the awaited status a command and a gap make no second transfer
  pub waits_once : Answers (five (OwnReceive 3 1 ∷ []))
      (quiet (command A 0x2861) ∷ quiet (command A 0x3c81) ∷ gap A ∷ idle_slot ∷ quiet (command A 0x3800)
      ∷ quiet (command A 0x4481) ∷ gap A ∷ idle_slot ∷ quiet (command A 0x4000) ∷ quiet (data_word A 0x0007) ∷ gap A ∷ idle_slot
      ∷ quiet (command A 0x2c02) ∷ gap_sends A 0x2c00 [] ∷ [])
  -- synchronize with data word is no receive command, and never waits
  pub mode_code_never_waits : Answers (five (OwnMode 17 ∷ []))
      (quiet (command A 0x2811) ∷ quiet (command A 0x3c81) ∷ gap A ∷ idle_slot ∷ quiet (command A 0x3800)
      ∷ quiet (data_word A 0x0009) ∷ gap A ∷ idle_slot ∷ quiet (command A 0x2c02) ∷ gap_sends A 0x2c00 [] ∷ [])
  -- Where the word that ends the waiting starts a message, the start comes later: the kept status has no message error.
  pub start_comes_after_end : Answers (five [])
      (quiet (command A 0x2861) ∷ quiet (command A 0x3c81) ∷ gap A ∷ idle_slot ∷ quiet (command A 0x2c05)
      ∷ quiet (command B 0x2c02) ∷ gap_sends B 0x2800 [] ∷ [])

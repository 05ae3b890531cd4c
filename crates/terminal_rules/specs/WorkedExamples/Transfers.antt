-- Worked examples: transfers between two terminals, and the second bus.
use Rattle.std.specs.Prelude.{[], ◌∷◌, true, false}
use Rattle.bus_word.specs.declared.word.Bus.TheVariants.{A, B}
use Rattle.bus_word.specs.declared.cell.Cell.TheVariants.{OwnReceive, OwnTransmit, BroadReceive}
use Rattle.terminal_rules.specs.declared.event.Event.TheVariants.{Noise}
use Rattle.terminal_rules.specs.Out.{HandsReceived}
use Rattle.terminal_rules.specs.WorkedExamples.Words.{five, five_hearing_all, command, data_word, invalid, quiet, gap, idle_slot, gap_sends, gap_hands, gap_sends_and_hands, Answers}

-- scripts of transfers, from another terminal to this one and from this one to all
pub record TransferRows : Type 0 where
  -- the words come from another terminal, after its status
  pub rt_to_rt : Answers (five (OwnReceive 3 1 ∷ []))
      (quiet (command A 0x2861) ∷ quiet (command A 0x3c81) ∷ gap A ∷ idle_slot ∷ quiet (command A 0x3800) ∷ quiet (data_word A 0x0007)
      ∷ gap_sends_and_hands A 0x2800 (HandsReceived false 3 (0x0007 ∷ [])) ∷ [])
  -- the same, where it isn't legal
  pub illegal_rt_to_rt : Answers (five [])
      (quiet (command A 0x2861) ∷ quiet (command A 0x3c81) ∷ gap A ∷ idle_slot ∷ quiet (command A 0x3800) ∷ quiet (data_word A 0x0007)
      ∷ gap_sends A 0x2c00 [] ∷ [])
  -- the same by broadcast
  pub broadcast_rt_to_rt : Answers (five_hearing_all (BroadReceive 3 1 ∷ []))
      (quiet (command A 0xf861) ∷ quiet (command A 0x3c81) ∷ gap A ∷ idle_slot ∷ quiet (command A 0x3800) ∷ quiet (data_word A 0x0007)
      ∷ gap_hands A (HandsReceived true 3 (0x0007 ∷ [])) ∷ idle_slot ∷ [])
  -- on bus B as on bus A
  pub rt_to_rt_on_b : Answers (five (OwnReceive 3 1 ∷ []))
      (quiet (command B 0x2861) ∷ quiet (command B 0x3c81) ∷ gap B ∷ idle_slot ∷ quiet (command B 0x3800) ∷ quiet (data_word B 0x0007)
      ∷ gap_sends_and_hands B 0x2800 (HandsReceived false 3 (0x0007 ∷ [])) ∷ [])
  -- the other terminal keeps silent
  pub rt_to_rt_timeout : Answers (five (OwnReceive 3 1 ∷ []))
      (quiet (command A 0x2861) ∷ quiet (command A 0x3c81) ∷ gap A ∷ idle_slot ∷ gap A ∷ idle_slot
      ∷ quiet (command A 0x2c02) ∷ gap_sends A 0x2c00 [] ∷ [])
  -- a command that comes in place of the awaited status starts a message of its own
  pub command_ends_waiting : Answers (five (OwnReceive 3 1 ∷ []))
      (quiet (command A 0x2861) ∷ quiet (command A 0x3c81) ∷ gap A ∷ idle_slot ∷ quiet (command A 0x2c02) ∷ gap_sends A 0x2c00 [] ∷ [])
  -- noise in place of the awaited status
  pub noise_ends_waiting : Answers (five (OwnReceive 3 2 ∷ []))
      (quiet (command A 0x2862) ∷ quiet (command A 0x3c81) ∷ gap A ∷ idle_slot ∷ quiet (Noise A) ∷ quiet (command A 0x2c02)
      ∷ gap_sends A 0x2c00 [] ∷ [])
  -- a status of wrong parity
  pub invalid_status : Answers (five (OwnReceive 3 2 ∷ []))
      (quiet (command A 0x2862) ∷ quiet (command A 0x3c81) ∷ gap A ∷ idle_slot ∷ quiet (invalid A 0x3800) ∷ quiet (command A 0x2c02)
      ∷ gap_sends A 0x2c00 [] ∷ [])
  -- noise after the awaited status
  pub noise_after_status : Answers (five (OwnReceive 3 2 ∷ []))
      (quiet (command A 0x2862) ∷ quiet (command A 0x3c81) ∷ gap A ∷ idle_slot ∷ quiet (command A 0x3800) ∷ quiet (Noise A)
      ∷ gap A ∷ idle_slot ∷ quiet (command A 0x2c02) ∷ gap_sends A 0x2c00 [] ∷ [])
  -- this terminal is the transmitter of a broadcast transfer
  pub broadcast_transmitter : Answers (five_hearing_all (OwnTransmit 4 1 ∷ []))
      (quiet (command A 0xf861) ∷ quiet (command A 0x2c81) ∷ gap_sends A 0x2800 (0 ∷ []) ∷ [])
  -- so it is where a mode code follows the broadcast command; the status tells of the broadcast
  pub broadcast_then_mode : Answers (five_hearing_all [])
      (quiet (command A 0xf861) ∷ quiet (command A 0x2c02) ∷ gap_sends A 0x2810 [] ∷ [])
  -- but not where a word came between
  pub broadcast_word_between : Answers (five_hearing_all (OwnTransmit 4 1 ∷ []))
      (quiet (command A 0xf861) ∷ quiet (data_word A 0) ∷ quiet (command A 0x2c81) ∷ gap A ∷ idle_slot
      ∷ quiet (command A 0x2c02) ∷ gap_sends A 0x2c10 [] ∷ [])

-- scripts with events on both buses
pub record TwoBusRows : Type 0 where
  -- a command on one bus drops the message on the other
  pub superseded : Answers (five (OwnReceive 3 2 ∷ []))
      (quiet (command A 0x2862) ∷ quiet (data_word A 0x1111) ∷ quiet (command B 0x2c02) ∷ gap_sends B 0x2800 []
      ∷ quiet (data_word A 0x2222) ∷ gap A ∷ idle_slot ∷ [])
  -- noise on the other bus doesn't matter
  pub noise_on_other_bus : Answers (five (OwnReceive 3 1 ∷ []))
      (quiet (command A 0x2861) ∷ quiet (Noise B) ∷ quiet (data_word A 0x0007)
      ∷ gap_sends_and_hands A 0x2800 (HandsReceived false 3 (0x0007 ∷ [])) ∷ [])
  -- a word that starts nothing drops nothing: the run of bus A holds an earlier word for the terminal
  pub earlier_word_in_run : Answers (five [])
      (quiet (command A 0x2862) ∷ quiet (command B 0x2c02) ∷ quiet (command A 0x2c02) ∷ gap A ∷ idle_slot ∷ gap_sends B 0x2800 [] ∷ [])
  -- nor does a gap on bus B end that run
  pub gap_on_other_bus : Answers (five [])
      (quiet (command A 0x2c02) ∷ quiet (command B 0x2c02) ∷ gap_sends B 0x2800 [] ∷ quiet (command A 0x2c02) ∷ gap A ∷ idle_slot ∷ [])
  -- the awaited status is no word for the terminal: after it and a command on the other bus, a command in the
  -- same run starts a message
  pub status_then_superseded : Answers (five (OwnReceive 3 1 ∷ []))
      (quiet (command A 0x2861) ∷ quiet (command A 0x3c81) ∷ gap A ∷ idle_slot ∷ quiet (command A 0x3800) ∷ quiet (command B 0x2c02)
      ∷ quiet (command A 0x2c02) ∷ gap_sends A 0x2800 [] ∷ gap B ∷ idle_slot ∷ [])
  -- unless a word for the terminal came inside the message before that
  pub word_then_superseded : Answers (five (OwnReceive 3 1 ∷ []))
      (quiet (command A 0x2861) ∷ quiet (command A 0x3c81) ∷ gap A ∷ idle_slot ∷ quiet (command A 0x3800) ∷ quiet (command A 0x2c02)
      ∷ quiet (command B 0x2c02) ∷ quiet (command A 0x2c02) ∷ gap A ∷ idle_slot ∷ gap_sends B 0x2800 [] ∷ [])
  -- the transmitter of the other bus is shut down, and comes back
  pub shutdown_other_bus : Answers (five [])
      (quiet (command A 0x2c04) ∷ gap_sends A 0x2800 [] ∷ quiet (command B 0x2c02) ∷ gap B ∷ idle_slot
      ∷ quiet (command A 0x2c05) ∷ gap_sends A 0x2800 [] ∷ quiet (command B 0x2c02) ∷ gap_sends B 0x2800 [] ∷ [])
  -- override transmitter shutdown on its own bus doesn't bring it back: it is the other one that comes back
  pub override_on_own_bus : Answers (five [])
      (quiet (command A 0x2c04) ∷ gap_sends A 0x2800 [] ∷ quiet (command B 0x2c05) ∷ gap B ∷ idle_slot
      ∷ quiet (command B 0x2c02) ∷ gap B ∷ idle_slot ∷ [])
  -- nor does a transmitter shutdown on its own bus, which shuts down the other one
  pub shutdown_on_own_bus : Answers (five [])
      (quiet (command A 0x2c04) ∷ gap_sends A 0x2800 [] ∷ quiet (command B 0x2c04) ∷ gap B ∷ idle_slot
      ∷ quiet (command B 0x2c02) ∷ gap B ∷ idle_slot ∷ [])
  -- where the transmitter is shut down, words are received all the same
  pub received_in_silence : Answers (five (OwnReceive 3 1 ∷ []))
      (quiet (command A 0x2c04) ∷ gap_sends A 0x2800 [] ∷ quiet (command B 0x2861) ∷ quiet (data_word B 0x0009)
      ∷ gap_hands B (HandsReceived false 3 (0x0009 ∷ [])) ∷ idle_slot ∷ [])
  -- and a reset brings the transmitter back, though it isn't answered
  pub reset_in_silence : Answers (five [])
      (quiet (command A 0x2c04) ∷ gap_sends A 0x2800 [] ∷ quiet (command B 0x2c08) ∷ gap B ∷ idle_slot
      ∷ quiet (command B 0x2c02) ∷ gap_sends B 0x2800 [] ∷ [])

-- Worked examples: messages, and the status that they leave.
use Rattle.std.specs.Prelude.{List, [], ◌∷◌, ℕ, replicate, false}
use Rattle.bus_word.specs.declared.word.Bus.TheVariants.{A}
use Rattle.bus_word.specs.declared.cell.Cell.TheVariants.{OwnReceive, OwnTransmit}
use Rattle.terminal_rules.specs.declared.event.Event.TheVariants.{Noise}
use Rattle.terminal_rules.specs.Out.{HandsReceived}
use Rattle.terminal_rules.specs.WorkedExamples.Words.{five, five_hearing_all, command, data_word, data_run, invalid, quiet, gap, idle_slot, gap_sends, gap_sends_and_hands, Answers}

-- 32 data words, each the number of its place
abbrev pub one_to_32 : List ℕ
one_to_32 = 1 ∷ 2 ∷ 3 ∷ 4 ∷ 5 ∷ 6 ∷ 7 ∷ 8 ∷ 9 ∷ 10 ∷ 11 ∷ 12 ∷ 13 ∷ 14 ∷ 15 ∷ 16
    ∷ 17 ∷ 18 ∷ 19 ∷ 20 ∷ 21 ∷ 22 ∷ 23 ∷ 24 ∷ 25 ∷ 26 ∷ 27 ∷ 28 ∷ 29 ∷ 30 ∷ 31 ∷ 32 ∷ []

-- scripts of one message, or of one and what follows from it
pub record MessageRows : Type 0 where
  -- transmit status word is answered by the status
  pub transmit_status : Answers (five []) (quiet (command A 0x2c02) ∷ gap_sends A 0x2800 [] ∷ [])
  -- a command of wrong parity is none
  pub wrong_parity : Answers (five []) (quiet (invalid A 0x2c02) ∷ gap A ∷ idle_slot ∷ [])
  -- subaddress 31 means a mode code, as 0 does
  pub mode_by_31 : Answers (five []) (quiet (command A 0x2fe2) ∷ gap_sends A 0x2800 [] ∷ [])
  -- two words are received
  pub receive_two : Answers (five (OwnReceive 3 2 ∷ []))
      (quiet (command A 0x2862) ∷ quiet (data_word A 0x1111) ∷ quiet (data_word A 0x2222)
      ∷ gap_sends_and_hands A 0x2800 (HandsReceived false 3 (0x1111 ∷ 0x2222 ∷ [])) ∷ [])
  -- the same, where it isn't legal
  pub illegal_receive : Answers (five [])
      (quiet (command A 0x2862) ∷ quiet (data_word A 0x1111) ∷ quiet (data_word A 0x2222) ∷ gap_sends A 0x2c00 [] ∷ [])
  -- a word that is missing is told by the next status
  pub short_message : Answers (five (OwnReceive 3 2 ∷ []))
      (quiet (command A 0x2862) ∷ quiet (data_word A 0x1111) ∷ gap A ∷ idle_slot ∷ quiet (command A 0x2c02) ∷ gap_sends A 0x2c00 [] ∷ [])
  -- a count of 0 means 32 words
  pub transmit_32 : Answers (five (OwnTransmit 3 32 ∷ [])) (quiet (command A 0x2c60) ∷ gap_sends A 0x2800 (replicate 32 0) ∷ [])
  -- of a receive command too
  pub receive_32 : Answers (five (OwnReceive 3 32 ∷ []))
      (quiet (command A 0x2860) ∷ data_run A one_to_32 ∷ gap_sends_and_hands A 0x2800 (HandsReceived false 3 one_to_32) ∷ [])
  -- a broadcast is not answered, and the next status tells of it
  pub broadcast_status : Answers (five_hearing_all [])
      (quiet (command A 0xfc02) ∷ gap A ∷ idle_slot ∷ quiet (command A 0x2c02) ∷ gap_sends A 0x2c10 [] ∷ [])
  -- without the option a broadcast isn't heard
  pub broadcast_unheard : Answers (five [])
      (quiet (command A 0xfc02) ∷ gap A ∷ idle_slot ∷ quiet (command A 0x2c02) ∷ gap_sends A 0x2800 [] ∷ [])
  -- a mode code takes no word that it doesn't expect
  pub word_after_mode : Answers (five [])
      (quiet (command A 0x2c02) ∷ quiet (data_word A 0) ∷ gap A ∷ idle_slot ∷ quiet (command A 0x2c02) ∷ gap_sends A 0x2c00 [] ∷ [])
  -- nothing comes, and nothing is answered
  pub empty_script : Answers (five []) []
  -- noise before a message doesn't matter
  pub noise_before : Answers (five (OwnReceive 3 2 ∷ []))
      (quiet (Noise A) ∷ quiet (command A 0x2862) ∷ quiet (data_word A 0x1111) ∷ quiet (data_word A 0x2222)
      ∷ gap_sends_and_hands A 0x2800 (HandsReceived false 3 (0x1111 ∷ 0x2222 ∷ [])) ∷ [])
  -- noise in a message
  pub noise_in_message : Answers (five (OwnReceive 3 2 ∷ []))
      (quiet (command A 0x2862) ∷ quiet (data_word A 0x1111) ∷ quiet (Noise A) ∷ gap A ∷ idle_slot
      ∷ quiet (command A 0x2c02) ∷ gap_sends A 0x2c00 [] ∷ [])

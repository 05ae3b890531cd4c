-- Worked examples: replies that take time.
use Rattle.std.specs.Prelude.{[], ◌∷◌, ℕ, true, false, ◌==◌, ◌&&◌, if◌then◌else◌}
use Rattle.bus_word.specs.declared.word.Bus.TheVariants.{A, B}
use Rattle.bus_word.specs.declared.cell.Cell.TheVariants.{OwnReceive, OwnTransmit, OwnMode}
use Rattle.bus_legal.specs.Description.{Description}
use Rattle.terminal_rules.specs.declared.event.Event.TheVariants.{Vector, Flag as FlagIs}
use Rattle.terminal_rules.specs.declared.event.Flag.TheVariants.{Service, Busy}
use Rattle.terminal_rules.specs.Out.{HandsReceived}
use Rattle.terminal_rules.specs.WorkedExamples.Words.{five, command, data_word, write, quiet, gap, idle_slot, slot_status, slot_word, gap_sends, gap_hands, Answers}

-- words at power-up: 000a and 000b are the first two of subaddress 3
abbrev pub ten_eleven : ℕ → ℕ → ℕ
ten_eleven s i = if (s == 3) && (i == 1) then 0x000a else (if (s == 3) && (i == 2) then 0x000b else 0)

-- a terminal that holds these words, and may be asked for both
abbrev pub two_ready : Description
two_ready = record (five (OwnTransmit 3 2 ∷ [])) { initial = ten_eleven }

-- a terminal with vector word 00aa, which may be asked for it
abbrev pub vector_ready : Description
vector_ready = record (five (OwnMode 16 ∷ [])) { vector = 0x00aa }

-- scripts that show in which slot each word of a reply is sent, and what drops a reply
pub record ReplyRows : Type 0 where
  -- a gap sends nothing
  pub no_slot : Answers (five []) (quiet (command A 0x2c02) ∷ gap A ∷ [])
  -- the status is formed at the gap, and a slot without a reply does nothing
  pub formed_at_the_gap : Answers (five []) (quiet (command A 0x2c05) ∷ gap A ∷ quiet (FlagIs Busy true) ∷ slot_status A 0x2800 ∷ idle_slot ∷ [])
  -- data words are read at their slots
  pub written_between_slots : Answers two_ready
      (quiet (command A 0x2c62) ∷ gap A ∷ slot_status A 0x2800 ∷ quiet (write 3 2 0x00bb) ∷ slot_word A 0x000a ∷ slot_word A 0x00bb ∷ [])
  -- what comes on the bus of a reply is ignored
  pub command_during_reply : Answers two_ready
      (quiet (command A 0x2c62) ∷ gap A ∷ slot_status A 0x2800 ∷ quiet (command A 0x2c02) ∷ gap A ∷ slot_word A 0x000a ∷ slot_word A 0x000b
      ∷ quiet (command A 0x2c02) ∷ gap_sends A 0x2800 [] ∷ [])
  -- a command on the other bus drops the rest of a reply
  pub reply_dropped : Answers two_ready
      (quiet (command A 0x2c62) ∷ gap A ∷ slot_status A 0x2800 ∷ quiet (command B 0x2c02) ∷ idle_slot ∷ gap B ∷ slot_status B 0x2800 ∷ [])
  -- a reset acts in the slot that sends its status
  pub reset_in_its_slot : Answers vector_ready
      (quiet (command A 0x2c08) ∷ gap A ∷ quiet (Vector 0x1234) ∷ slot_status A 0x2800
      ∷ quiet (command A 0x2c10) ∷ gap A ∷ slot_status A 0x2800 ∷ slot_word A 0x00aa ∷ [])
  -- and never, where a command on the other bus came before that slot
  pub reset_dropped : Answers vector_ready
      (quiet (Vector 0x1234) ∷ quiet (command A 0x2c08) ∷ gap A ∷ quiet (command B 0x2c10) ∷ gap B ∷ slot_status B 0x2800 ∷ slot_word B 0x1234 ∷ [])
  -- where nothing is to be sent, it acts at its gap
  pub reset_in_silence_at_the_gap : Answers (five [])
      (quiet (command A 0x2c04) ∷ gap_sends A 0x2800 [] ∷ quiet (command B 0x2c08) ∷ gap B ∷ idle_slot
      ∷ quiet (command B 0x2c02) ∷ gap B ∷ slot_status B 0x2800 ∷ [])
  -- a reset that was dropped leaves the status formed at its gap as the kept one
  pub dropped_reset_keeps_status : Answers (five [])
      (quiet (FlagIs Service true) ∷ quiet (command A 0x2c08) ∷ gap A ∷ quiet (FlagIs Service false)
      ∷ quiet (command B 0x2c02) ∷ gap B ∷ slot_status B 0x2900 ∷ [])
  -- and the last command
  pub dropped_reset_keeps_last_command : Answers (five (OwnMode 18 ∷ []))
      (quiet (command A 0x2c08) ∷ gap A ∷ quiet (command B 0x2c12) ∷ gap B ∷ slot_status B 0x2800 ∷ slot_word B 0x2c08 ∷ [])
  -- words received at the wraparound subaddress on bus B, while bus A still replies from there, drop that reply
  pub wraparound_during_reply : Answers (five (OwnReceive 30 2 ∷ OwnTransmit 30 2 ∷ []))
      (quiet (command A 0x2fc2) ∷ gap A ∷ slot_status A 0x2800 ∷ slot_word A 0
      ∷ quiet (command B 0x2bc2) ∷ quiet (data_word B 0x0001) ∷ quiet (data_word B 0x0002) ∷ idle_slot ∷ gap_hands B (HandsReceived false 30 (0x0001 ∷ 0x0002 ∷ [])) ∷ slot_status B 0x2800
      ∷ quiet (command A 0x2fc2) ∷ gap A ∷ slot_status A 0x2800 ∷ slot_word A 0x0001 ∷ slot_word A 0x0002 ∷ idle_slot ∷ [])

-- Worked examples: recordings, each with whether a description explains it.
use Rattle.std.specs.Prelude.{List, [], ◌∷◌}
use Rattle.bus_word.specs.declared.word.Bus.TheVariants.{A, B}
use Rattle.bus_word.specs.declared.cell.Cell.TheVariants.{OwnTransmit, OwnMode}
use Rattle.bus_legal.specs.Description.{Description}
use Rattle.terminal_rules.specs.Out.{sent_in}
use Rattle.terminal_rules.specs.WorkedExamples.Words.{Step, five, command, quiet, gap, idle_slot, gap_sends, steps_of}
use Rattle.terminal_recordings.specs.Recordings.{Sighting, IsExplained}

-- what is seen of these events, where they are so answered
abbrev pub recording_of : List Step → List Sighting
recording_of [] = []
recording_of (s ∷ steps) = record { event = s.event; sent = sent_in s.answer } ∷ recording_of steps

unfoldable pub Explains : Description → List (List Step) → Type 0
Explains P lines = IsExplained P (recording_of (steps_of lines))

unfoldable pub DoesNotExplain : Description → List (List Step) → Type 0
DoesNotExplain P lines = IsExplained P (recording_of (steps_of lines)) → ⊥

pub record RecordingRows : Type 0 where
  -- whatever the subsystem holds ready is sent
  pub any_data : Explains (five (OwnTransmit 3 1 ∷ [])) (quiet (command A 0x2c61) ∷ gap_sends A 0x2800 (0x1234 ∷ []) ∷ idle_slot ∷ [])
  -- no data word follows a status with the busy bit, and one follows a status without it
  pub busy_holds_back : Explains (five (OwnTransmit 3 1 ∷ [])) (quiet (command A 0x2c61) ∷ gap_sends A 0x2808 [] ∷ idle_slot ∷ [])
  pub no_word_unless_busy : DoesNotExplain (five (OwnTransmit 3 1 ∷ [])) (quiet (command A 0x2c61) ∷ gap_sends A 0x2800 [] ∷ idle_slot ∷ [])
  pub no_word_while_busy : DoesNotExplain (five (OwnTransmit 3 1 ∷ [])) (quiet (command A 0x2c61) ∷ gap_sends A 0x2808 (0x1234 ∷ []) ∷ [])
  -- it may be busy once, with a service request, and not again
  pub busy_once : Explains (five (OwnTransmit 3 1 ∷ []))
      (quiet (command A 0x2c61) ∷ gap_sends A 0x2908 [] ∷ idle_slot ∷ quiet (command A 0x2c61) ∷ gap_sends A 0x2800 (0x1234 ∷ []) ∷ [])
  -- no flag sets a bit that has no meaning, and no word is too many
  pub no_other_bit : DoesNotExplain (five (OwnTransmit 3 1 ∷ [])) (quiet (command A 0x2c61) ∷ gap_sends A 0x2820 (0x1234 ∷ []) ∷ [])
  pub a_word_too_many : DoesNotExplain (five (OwnTransmit 3 1 ∷ [])) (quiet (command A 0x2c61) ∷ gap_sends A 0x2800 (0x1234 ∷ 0x5678 ∷ []) ∷ [])
  -- a transmitter that was shut down sends nothing
  pub shut_down : DoesNotExplain (five [])
      (quiet (command B 0x2c04) ∷ gap_sends B 0x2800 [] ∷ quiet (command A 0x2c02) ∷ gap_sends A 0x2800 [] ∷ [])
  -- a status that is not sent shows its flags when it is asked for, and the same when it is asked for again
  pub shown_later : Explains (five []) (quiet (command A 0x2861) ∷ gap A ∷ idle_slot ∷ quiet (command A 0x2c02) ∷ gap_sends A 0x2d00 [] ∷ [])
  pub shown_again : DoesNotExplain (five [])
      (quiet (command A 0x2861) ∷ gap A ∷ quiet (command A 0x2c02) ∷ gap_sends A 0x2d00 [] ∷ quiet (command A 0x2c02) ∷ gap_sends A 0x2c00 [] ∷ [])
  -- before any message no flag shows
  pub none_at_power_up : DoesNotExplain (five []) (quiet (command A 0x2c02) ∷ gap_sends A 0x2900 [] ∷ [])
  -- the terminal flag doesn't show while it is inhibited
  pub inhibited : DoesNotExplain (five (OwnMode 6 ∷ [])) (quiet (command A 0x2c06) ∷ gap_sends A 0x2801 [] ∷ [])
  -- the last command is what it is
  pub last_command : Explains (five (OwnMode 18 ∷ [])) (quiet (command A 0x2c02) ∷ gap_sends A 0x2800 [] ∷ quiet (command A 0x2c12) ∷ gap_sends A 0x2800 (0x2c02 ∷ []) ∷ [])
  pub other_last_command : DoesNotExplain (five (OwnMode 18 ∷ [])) (quiet (command A 0x2c02) ∷ gap_sends A 0x2800 [] ∷ quiet (command A 0x2c12) ∷ gap_sends A 0x2800 (0x2c03 ∷ []) ∷ [])
  -- an illegal command says so
  pub illegal : DoesNotExplain (five []) (quiet (command A 0x2c61) ∷ gap_sends A 0x2800 [] ∷ [])

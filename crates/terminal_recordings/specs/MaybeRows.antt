-- Worked examples: recordings in which a gap may have come, each with whether a description explains it somehow.
use Rattle.std.specs.Prelude.{◌≡◌, false, Some, List, [], ◌∷◌, ◌++◌, map}
use Rattle.bus_word.specs.declared.word.Bus.{Bus}
use Rattle.bus_word.specs.declared.word.Bus.TheVariants.{A, B}
use Rattle.bus_word.specs.declared.cell.Cell.TheVariants.{OwnReceive}
use Rattle.bus_legal.specs.Description.{Description}
use Rattle.terminal_rules.specs.WorkedExamples.Words.{Step, five, command, data_word, quiet, gap, idle_slot, gap_sends, steps_of}
use Rattle.terminal_recordings.specs.Recordings.{Sighting}
use Rattle.terminal_recordings.specs.Masks.{MaskedSighting}
use Rattle.terminal_recordings.specs.RecordingRows.{recording_of}
use Rattle.terminal_recordings.specs.MaybeGaps.{MaybeSighting, Seen, MaybeGap, IsExplainedSomehow, fresh_part}
use Rattle.terminal_recordings.specs.Later.{no_gaps}
use Rattle.terminal_recordings.specs.LaterRows.{silent_on_a, asking}

-- a sighting of which nothing is left open
abbrev pub closed_sighting : Sighting → MaskedSighting
closed_sighting s = record { sighting = s; any_word = false }

-- what is seen of lines
abbrev pub seen_of : List (List Step) → List MaybeSighting
seen_of lines = map Seen (map closed_sighting (recording_of (steps_of lines)))

-- and of others, with a gap between them that may have come on a bus
abbrev pub around : List (List Step) → Bus → List (List Step) → List MaybeSighting
around before b after = seen_of before ++ MaybeGap b ∷ seen_of after

unfoldable pub ExplainsSomehow : Description → List (List Step) → Bus → List (List Step) → Type 0
ExplainsSomehow P before b after = IsExplainedSomehow P [] (around before b after)

unfoldable pub DoesNotExplainSomehow : Description → List (List Step) → Bus → List (List Step) → Type 0
DoesNotExplainSomehow P before b after = IsExplainedSomehow P [] (around before b after) → ⊥

-- terminal 5 is to receive two words from terminal 6, which has not begun yet
abbrev pub waiting_transfer : List (List Step)
waiting_transfer = quiet (command A 0x2822) ∷ quiet (command A 0x3482) ∷ gap A ∷ []

-- a word that is 6's status, or a command to 6 where the transfer was given up, and two data words
abbrev pub then_words : List (List Step) → List (List Step)
then_words later = quiet (command A 0x3062) ∷ quiet (data_word A 1) ∷ quiet (data_word A 2) ∷ later

-- a pause
abbrev pub pause : List (List Step)
pause = gap A ∷ gap A ∷ gap B ∷ gap B ∷ idle_slot ∷ []

pub record MaybeRows : Type 0 where
  -- it gave up: it doesn't reply, and says message error when it is asked
  pub gave_up : ExplainsSomehow (five (OwnReceive 1 2 ∷ [])) waiting_transfer A (then_words (gap A ∷ idle_slot ∷ quiet (command A 0x2c02) ∷ gap_sends A 0x2c00 [] ∷ []))
  -- it still waited: it replies
  pub waited : ExplainsSomehow (five (OwnReceive 1 2 ∷ [])) waiting_transfer A (then_words (gap_sends A 0x2800 [] ∷ quiet (command A 0x2c02) ∷ gap_sends A 0x2800 [] ∷ []))
  -- it can't have done neither, nor both
  pub neither : DoesNotExplainSomehow (five (OwnReceive 1 2 ∷ [])) waiting_transfer A (then_words (gap A ∷ idle_slot ∷ quiet (command A 0x2c02) ∷ gap_sends A 0x2800 [] ∷ []))
  pub both : DoesNotExplainSomehow (five (OwnReceive 1 2 ∷ [])) waiting_transfer A (then_words (gap_sends A 0x2800 [] ∷ quiet (command A 0x2c02) ∷ gap_sends A 0x2c00 [] ∷ []))
  -- a gap that may have come on the other bus doesn't end the wait
  pub other_bus : DoesNotExplainSomehow (five (OwnReceive 1 2 ∷ [])) waiting_transfer B (then_words (gap A ∷ idle_slot ∷ quiet (command A 0x2c02) ∷ gap_sends A 0x2c00 [] ∷ []))
  -- what comes after a pause is passed over where it asks back, to the next pause
  pub skips : fresh_part (five []) no_gaps (seen_of (pause ++ (asking ++ (pause ++ silent_on_a)))) ≡ Some (seen_of silent_on_a)
  -- after a pause, and only after both gaps of each bus and the slot
  pub pauses : fresh_part (five []) no_gaps (seen_of (silent_on_a ++ (pause ++ silent_on_a))) ≡ Some (seen_of silent_on_a)
  -- a gap that may have come is not counted
  pub not_counted : fresh_part (five []) no_gaps (around (quiet (command A 0x2c02) ∷ gap A ∷ []) A (gap B ∷ gap B ∷ idle_slot ∷ pause ++ silent_on_a)) ≡ Some (seen_of silent_on_a)

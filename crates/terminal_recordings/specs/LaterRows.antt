-- Worked examples: recordings that begin later than power-up, each with whether a description explains it.
use Rattle.std.specs.Prelude.{◌≡◌, List, [], ◌∷◌}
use Rattle.bus_word.specs.declared.word.Bus.TheVariants.{A, B}
use Rattle.bus_legal.specs.Description.{Description}
use Rattle.terminal_rules.specs.WorkedExamples.Words.{Step, five, command, quiet, gap, idle_slot, gap_sends, steps_of}
use Rattle.terminal_recordings.specs.Later.{IsExplainedLater, ShutDown, shown_later}
use Rattle.terminal_recordings.specs.RecordingRows.{recording_of, DoesNotExplain}

unfoldable pub ExplainsLater : Description → List (List Step) → Type 0
ExplainsLater P lines = IsExplainedLater P (recording_of (steps_of lines))

unfoldable pub DoesNotExplainLater : Description → List (List Step) → Type 0
DoesNotExplainLater P lines = IsExplainedLater P (recording_of (steps_of lines)) → ⊥

-- it is shown after none of the beginnings
unfoldable pub IsNotShown : Description → List (List Step) → Type 0
IsNotShown P lines = (shut : ShutDown) → shown_later P shut (recording_of (steps_of lines)) ≡ recording_of (steps_of lines) → ⊥

-- no answer to override transmitter shutdown on a bus
abbrev pub silent_on_a : List (List Step)
silent_on_a = quiet (command A 0x2c05) ∷ gap A ∷ idle_slot ∷ []

-- the status is asked for
abbrev pub asking : List (List Step)
asking = quiet (command A 0x2c02) ∷ gap_sends A 0x2900 [] ∷ []

pub record LaterRows : Type 0 where
  -- a terminal is silent on a bus whose transmitter was shut down before
  pub shut_before : ExplainsLater (five []) silent_on_a
  pub not_at_power_up : DoesNotExplain (five []) silent_on_a
  -- but not after the other bus has it on again
  pub on_again : DoesNotExplainLater (five []) (quiet (command B 0x2c05) ∷ gap_sends B 0x2800 [] ∷ silent_on_a)
  -- an illegal command says so whatever came before
  pub illegal : DoesNotExplainLater (five []) (quiet (command A 0x2c61) ∷ gap_sends A 0x2800 [] ∷ [])
  -- a recording that asks back: what was kept before is seen, and no beginning shows it
  pub asks_back : ExplainsLater (five []) asking
  pub not_shown : IsNotShown (five []) asking

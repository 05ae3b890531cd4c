-- A terminal that is played line by line, for as long as lines come.
use Rattle.std.specs.Prelude.{ℕ, ◌≡◌, nat_lt, if◌then◌else◌, List, [], ◌∷◌, ◌++◌, length, codes, Option, Some, None, Result, Ok, Err}
use Rattle.bus_legal.specs.Description.{Description}
use Rattle.terminal_rules.specs.declared.event.Event.{Event}
use Rattle.script_lines.specs.declared.line.LineFault.{LineFault}
use Rattle.script_lines.specs.Line.{meaning}
use Rattle.script_lines.specs.Transcript.{text_at}
use Rattle.refused_lines.specs.declared.reason.LineReason.{LineReason}
use Rattle.refused_lines.specs.Reasons.{reason_text}
use Rattle.rt1553_tool.specs.WordTexts.{short_decimal}

-- what a line means: one of over 64 bytes is no line of a script
abbrev pub live_meaning : List ℕ → Result (Option Event) LineFault
live_meaning line = if nat_lt 64 (length line) then Err (record {}) else meaning line

-- the history after a line that means this
abbrev pub history_after_line : Result (Option Event) LineFault → List Event → List Event
history_after_line (Ok (Some e)) h = e ∷ h
history_after_line _ h = h

-- what answers a line that is refused: a column, and one of the reasons
pub record RefusesLine (text : List ℕ) : Type 0 where
  pub column : ℕ
  pub reason : LineReason
  pub is : text ≡ codes "? column " ++ (short_decimal column ++ (codes ": " ++ (reason_text reason ++ codes "\n")))

-- what answers a line that means this, after a history
abbrev pub AnswersLine : Description → List Event → Result (Option Event) LineFault → List ℕ → Type 0
AnswersLine P h (Ok (Some e)) text = text ≡ text_at P h e
AnswersLine P h (Ok None) text = text ≡ []
AnswersLine P h (Err f) text = RefusesLine text

-- the history after lines
unfoldable pub history_after_lines : List (List ℕ) → List Event → List Event
history_after_lines [] h = h
history_after_lines (line ∷ lines) h = history_after_lines lines (history_after_line (live_meaning line) h)

-- what is written for lines, from a history on: for each what answers it, and then a line with a dot
unfoldable pub AnswersLines : Description → List Event → List (List ℕ) → List ℕ → Type 0
AnswersLines P h [] text = text ≡ []
AnswersLines P h (line ∷ lines) text = (answer : List ℕ) × (others : List ℕ) × AnswersLine P h (live_meaning line) answer
    × AnswersLines P (history_after_line (live_meaning line) h) lines others × (text ≡ answer ++ (codes ".\n" ++ others))

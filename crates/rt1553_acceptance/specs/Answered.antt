-- A script in which the answers of a terminal are stated.
use Rattle.std.specs.Prelude.{ℕ, ◌≡◌, ◌≤◌, ◌<◌, ◌↔◌, ◌||◌, Bool, if◌then◌else◌, List, [], ◌∷◌, ◌++◌, length, map, Option, Some, None, is_some, Result, Ok, codes}
use Rattle.std.specs.Result.{result_unwrap_or}
use Rattle.bus_legal.specs.Description.{Description}
use Rattle.terminal_rules.specs.declared.event.Event.{Event}
use Rattle.terminal_rules.specs.Past.{history_after}
use Rattle.terminal_rules.specs.Out.{out, outs_from}
use Rattle.line_format.specs.Front.{after}
use Rattle.script_lines.specs.declared.line.LineFault.{LineFault}
use Rattle.script_lines.specs.Line.{meaning}
use Rattle.script_lines.specs.Text.{lines_of}
use Rattle.script_lines.specs.Transcript.{answer_text}
use Rattle.bus_script.specs.Reading.{reading, adds, nothing}
use Rattle.rt1553_verify.specs.Stated.{StatedEvent, stated_in}
use Rattle.rt1553_verify.specs.Verify.{verified}
use Rattle.rt1553_acceptance.specs.declared.answering.Answered.{Answered}
use Rattle.rt1553_acceptance.specs.declared.answering.Answered.TheVariants.{Script, TooLong}
use Rattle.rt1553_acceptance.specs.Text.{answer_stated}
use Rattle.rt1553_acceptance.specs.Law.{AreStatedAnswers}

-- a line states an answer, or goes on with one
abbrev pub states_line : List ℕ → Bool
states_line line = is_some (after (codes "#> ") line) || (is_some (after (codes "#~ ") line) || is_some (after (codes "#+ ") line))

-- the event, if there is one
abbrev pub if_event : Option Event → List Event
if_event None = []
if_event (Some e) = e ∷ []

-- the event that a line says, if it says one
abbrev pub meant_by : Result (Option Event) LineFault → List Event
meant_by said = if_event (result_unwrap_or said None)

abbrev pub event_meant : List ℕ → List Event
event_meant line = meant_by (meaning line)

-- what is stated behind a line that says these events
abbrev pub stated_behind : Description → List Event → List Event → List ℕ
stated_behind P h [] = []
stated_behind P h (e ∷ es) = answer_stated (out P h e)

-- What stands for a line that follows a history: nothing for a stated answer; else the line, and of its event what the terminal of
-- P answers.
abbrev pub line_answered : Description → List Event → List ℕ → List ℕ
line_answered P h line = if states_line line then [] else line ++ 10 ∷ stated_behind P h (event_meant line)

-- what stands for lines, of which the first follows a history
unfoldable pub lines_answered : Description → List Event → List (List ℕ) → List ℕ
lines_answered P h [] = []
lines_answered P h (line ∷ lines) = line_answered P h line ++ lines_answered P (history_after (event_meant line) h) lines

-- a script from power-up, in which the answers of the terminal of P are stated, in place of those that were
abbrev pub script_answered : Description → List ℕ → List ℕ
script_answered P script = lines_answered P [] (lines_of script)

-- The script has no fault, and this text is it with the answers of the terminal of P. The text says the script's events, and of each
-- just the answer of P. So `verify` finds nothing for the terminal of P, and for that of another description nothing exactly if
-- it answers these events alike.
pub record StatesAnswers (P : Description) (script text : List ℕ) : Type 0 where
  pub is : text ≡ script_answered P script
  pub before : List StatedEvent
  pub accepted : stated_in script ≡ Ok before
  pub stated : List StatedEvent
  pub reads : stated_in text ≡ Ok stated
  pub events : reading 0 (lines_of script) ≡ adds (map (λ s. s.event) stated) nothing
  pub answers : AreStatedAnswers P [] stated
  pub own : verified P text ≡ Ok []
  pub others : (Q : Description) → (verified Q text ≡ Ok [])
      ↔ (map answer_text (outs_from Q [] (map (λ s. s.event) stated)) ≡ map answer_text (outs_from P [] (map (λ s. s.event) stated)))

-- the script without fault has become this: it has room for its answers, or it has not
abbrev pub IsAnswered : Description → List ℕ → Answered → Type 0
IsAnswered P script (Script text) = StatesAnswers P script text.items × (length (lines_of text.items) ≤ 1048576)
IsAnswered P script TooLong = ((before : List StatedEvent) × (stated_in script ≡ Ok before)) × (1048576 < length (lines_of (script_answered P script)))

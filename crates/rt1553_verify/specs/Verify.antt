-- What is told of a script that states its answers.
use Rattle.std.specs.Prelude.{ℕ, if◌then◌else◌, List, [], ◌∷◌, ◌++◌, map, Result, Ok, Err}
use Rattle.bus_legal.specs.Description.{Description}
use Rattle.terminal_rules.specs.declared.event.Event.{Event}
use Rattle.script_lines.specs.Transcript.{text_at}
use Rattle.rt1553_verify.specs.Stated.{StatedEvent, fits, seen_on_bus, stated_in}
use Rattle.rt1553_verify.specs.declared.stated.StatedFault.{StatedFault}
use Rattle.rt1553_verify.specs.declared.verifying.WrongAnswer.{WrongAnswer}

-- the event of this line was to be answered by one text, or by a line that its mask admits, and was answered by another
pub record ToldAnswer : Type 0 where
  pub line : ℕ
  pub expected : List ℕ
  pub came : List ℕ

-- a wrong answer of the code, as these definitions speak of it
abbrev pub told_answer : WrongAnswer → ToldAnswer
told_answer d = record { line = d.line; expected = d.expected.items; came = d.came.items }

-- what is told of an event that was answered by these bytes: nothing if they are as stated
abbrev pub answers_told : StatedEvent → List ℕ → List ToldAnswer
answers_told s came =
    if fits s.matching s.answer came then []
    else record { line = s.line; expected = s.answer; came = came } ∷ []

-- what is told of an event after a history, for the terminal of P
abbrev pub wrong_answer_at : Description → List Event → StatedEvent → List ToldAnswer
wrong_answer_at P h s = answers_told s (text_at P h s.event)

-- what is told of the events of a script, in their order, after a history
unfoldable pub wrong_answers_from : Description → List Event → List StatedEvent → List ToldAnswer
wrong_answers_from P h [] = []
wrong_answers_from P h (s ∷ ss) = wrong_answer_at P h s ++ wrong_answers_from P (s.event ∷ h) ss

-- what is told of the events of a script, or its fault
abbrev pub by_script : Description → Result (List StatedEvent) StatedFault → Result (List ToldAnswer) StatedFault
by_script P (Err fault) = Err fault
by_script P (Ok stated) = Ok (wrong_answers_from P [] stated)

-- what is told of a script that is played to the terminal of P from power-up, or the script's fault
abbrev pub verified : Description → List ℕ → Result (List ToldAnswer) StatedFault
verified P script = by_script P (stated_in script)

-- the same, of what the bus alone shows
abbrev pub on_bus_by_script : Description → Result (List StatedEvent) StatedFault → Result (List ToldAnswer) StatedFault
on_bus_by_script P (Err fault) = Err fault
on_bus_by_script P (Ok stated) = by_script P (Ok (map seen_on_bus stated))

-- what is told of a script of which only the bus is seen
abbrev pub verified_on_bus : Description → List ℕ → Result (List ToldAnswer) StatedFault
verified_on_bus P script = on_bus_by_script P (stated_in script)

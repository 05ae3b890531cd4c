-- What was written while the answers of a script are stated.
use Rattle.std.specs.Prelude.{ℕ, ◌≡◌, Bool, List, [], ◌++◌}
use Rattle.std.specs.List.{flat_map}
use Rattle.bus_word.specs.declared.cell.Cell.{Cell}
use Rattle.bus_legal.specs.Description.{Description}
use Rattle.terminal_rules.specs.declared.event.Event.{Event}
use Rattle.terminal_rules.specs.Past.{history_after}
use Rattle.bus_terminal.specs.declared.terminal.Terminal.{Terminal}
use Rattle.bus_terminal.specs.Stands.{StandsAt}
use Rattle.script_lines.specs.Text.{lines_of}
use Rattle.rt1553_acceptance.specs.Answered.{event_meant, lines_answered}
use Rattle.rt1553_acceptance.specs.inner.Fits.{AllFit}

-- the events that lines say
abbrev pub events_meant : List (List ℕ) → List Event
events_meant lines = flat_map event_meant lines

-- a terminal of P took the event, if there is one, and what is stated behind it was written
pub record WritesAnswer {L : Type 0} (is_legal : L → Cell → Bool) (P : Description) (h : List Event) (t : Terminal L) (old new front : List ℕ) (es : List Event) : Type 0 where
  pub at : StandsAt is_legal P (history_after es h) t
  pub text : new ≡ old ++ front
  pub fit : AllFit P h es

-- Of a script, the rest is left: what was written and what stands for the rest is all of it, and the answers fit if those of the rest do.
pub record IsLeft {L : Type 0} (is_legal : L → Cell → Bool) (P : Description) (t : Terminal L) (text rest script : List ℕ) : Type 0 where
  pub h : List Event
  pub at : StandsAt is_legal P h t
  pub all : text ++ lines_answered P h (lines_of rest) ≡ lines_answered P [] (lines_of script)
  pub fit : AllFit P h (events_meant (lines_of rest)) → AllFit P [] (events_meant (lines_of script))

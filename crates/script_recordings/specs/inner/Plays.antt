-- The events that explain a recording.
use Rattle.std.specs.Prelude.{◌≡◌, List}
use Rattle.bus_legal.specs.Description.{Description}
use Rattle.terminal_rules.specs.declared.event.Event.{Event}
use Rattle.terminal_rules.specs.Out.{out}
use Rattle.terminal_rules.specs.Same.{AreProper}
use Rattle.terminal_recordings.specs.Recordings.{sightings, IsExplained}
use Rattle.terminal_recordings.specs.Masks.{FitsMasked, ExplainsSome}
use Rattle.terminal_recordings.specs.MaybeGaps.{certain}
use Rattle.recorded_terminal.specs.declared.watch.Marked.{Marked}
use Rattle.recorded_terminal.specs.Marks.{maybe_in}

-- events that can come, of which just that is seen which came for certain, if some behaviour of the subsystem explains that
pub record PlaysSeen (P : Description) (ms : List Marked) (events : List Event) : Type 0 where
  pub proper : AreProper events
  pub plays : ExplainsSome (IsExplained P) (certain (maybe_in ms)) → FitsMasked (certain (maybe_in ms)) (sightings P events)

-- whatever comes, both answer the same
abbrev pub AnswerAlike : Description → Description → Type 0
AnswerAlike P Q = (h : List Event) (e : Event) → out P h e ≡ out Q h e

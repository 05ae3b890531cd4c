-- A terminal and the messages of its run.
use Rattle.std.specs.Prelude.{◌≡◌, ℕ, Bool, false, Option, Some, None, List}
use Rattle.bus_word.specs.declared.word.Bus.{Bus}
use Rattle.bus_word.specs.declared.cell.Cell.{Cell}
use Rattle.bus_legal.specs.Description.{Description}
use Rattle.terminal_rules.specs.declared.event.Event.{Event}
use Rattle.terminal_rules.specs.History.{is_ignored}
use Rattle.terminal_rules.specs.Open.{is_on}
use Rattle.terminal_rules.specs.Past.{past}
use Rattle.terminal_state.specs.declared.buses.OnBuses.{OnBuses}
use Rattle.terminal_state.specs.Buses.{on_bus}
use Rattle.bus_terminal.specs.Stands.{StandsAt}
use Rattle.bus_terminal.specs.Waiting.{is_engaged}
use Rattle.terminal_messages.specs.declared.seen.SeenEvent.{SeenEvent}
use Rattle.terminal_messages.specs.declared.watch.MessageWatch.{MessageWatch}
use Rattle.terminal_messages.specs.Told.{ToldEvent}
use Rattle.terminal_messages.specs.Parts.{told, tell}
use Rattle.terminal_messages.specs.State.{facts_in, facts_of}
use Rattle.terminal_messages.specs.Fold.{FoldStands}

-- an event after a history, told
abbrev pub told_event_at : Description → List Event → Event → ToldEvent
told_event_at P h e = told P (past P h) (tell P h) e

-- there is a bus, and it is the second one, if that is one
abbrev pub is_on_that : Option Bus → Option Bus → Bool
is_on_that None o = false
is_on_that (Some b) o = is_on b o

-- on which buses the terminal is in a message or replies
abbrev pub EngagedOn : Description → List Event → OnBuses → Type 0
EngagedOn P h o = (b : Bus) → on_bus b o ≡ is_engaged P (past P h) b

-- what is seen of an event is what is told of it; the data words of a message that is done are not seen
pub record SeesEvent (P : Description) (place : ℕ → ℕ) (h : List Event) (e : Event) (s : SeenEvent) : Type 0 where
  pub words : List ℕ
  pub facts : facts_in s words ≡ facts_of place (told_event_at P h e)
  pub ignored : s.is_ignored ≡ is_ignored (told_event_at P h e).noted.turn

-- the terminal stands at a history, whose events the caller calls so, and so does the fold
pub record WatchStands {L : Type 0} (is_legal : L → Cell → Bool) (P : Description) (place : ℕ → ℕ) (h : List Event) (w : MessageWatch L) : Type 0 where
  pub terminal : StandsAt is_legal P h w.terminal
  pub fold : FoldStands P place h w.fold

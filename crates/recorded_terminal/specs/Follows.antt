-- When a terminal that follows a recording stands at a history, and what it is told before a sighting.
use Rattle.std.specs.Prelude.{◌≡◌, ℕ, Bool, Option, Some, None, List, [], ◌∷◌, ◌++◌}
use Rattle.bus_word.specs.declared.cell.Cell.{Cell}
use Rattle.bus_legal.specs.Description.{Description}
use Rattle.bus_terminal.specs.Stands.{StandsAt}
use Rattle.bus_terminal.specs.declared.terminal.Terminal.{Terminal}
use Rattle.terminal_rules.specs.declared.event.Event.{Event}
use Rattle.terminal_rules.specs.declared.event.Flag.{Flag}
use Rattle.terminal_rules.specs.Out.{Sending}
use Rattle.terminal_rules.specs.Past.{past, history_after}
use Rattle.terminal_rules.specs.Reply.{reply_now}
use Rattle.terminal_rules.specs.Same.{AreProper}
use Rattle.terminal_recordings.specs.Recordings.{AreUnseen}
use Rattle.terminal_recordings.specs.Later.{ShutDown}
use Rattle.terminal_state.specs.declared.buses.OnBuses.{OnBuses}
use Rattle.terminal_recordings.specs.Completion.{data_sent, flag_shown, flags_set, next_set}
use Rattle.recorded_terminal.specs.declared.follower.Follower.{Follower}
use Rattle.recorded_terminal.specs.declared.follower.Told.{Told}

-- the terminal of a follower stands at this history
abbrev pub FollowsAt : {L : Type 0} → (L → Cell → Bool) → Description → List Event → Follower L → Type 0
FollowsAt is_legal P h f = StandsAt is_legal P h f.terminal

-- what the subsystem does before this word is sent, or none, where this is the next status word that is seen
abbrev pub told_by : Description → List Event → Option ℕ → Option Sending → List Event
told_by P h status sent = flags_set status ++ next_set (reply_now (past P h)) (data_sent sent)

-- an event, if there is one
abbrev pub given_events : Option Event → List Event
given_events None = []
given_events (Some e) = e ∷ []

-- two status words show the same flags, where none shows none
abbrev pub ShowTheSame : Option ℕ → Option ℕ → Type 0
ShowTheSame one other = (f : Flag) → flag_shown one f ≡ flag_shown other f

-- the events that are told before a sighting
abbrev pub told_events : Told → List Event
told_events t = given_events t.service ++ (given_events t.busy ++ (given_events t.subsystem ++ (given_events t.terminal ++ given_events t.word)))

-- events of the subsystem that can come
abbrev pub AreTold : List Event → Type 0
AreTold es = AreUnseen es × AreProper es

-- the transmitters that are shut down
abbrev pub shut_down : OnBuses → ShutDown
shut_down shut = record { a = shut.a; b = shut.b }

-- a terminal has taken these events, wherever it stood
abbrev pub TakesEvents : {L : Type 0} → (L → Cell → Bool) → List Event → Terminal L → Terminal L → Type 0
TakesEvents is_legal es t u = (P : Description) (h : List Event) → StandsAt is_legal P h t → StandsAt is_legal P (history_after es h) u

-- A recording that begins while the unit is on: when a description explains it, and how that is decided from a quiet place on.
use Rattle.std.specs.Prelude.{◌≡◌, ℕ, suc, ◌≤◌, nat_le, Bool, true, false, ◌&&◌, if◌then◌else◌, ◌↔◌, Option, Some, None, List, [], ◌∷◌, ◌++◌, take}
use Rattle.bus_word.specs.declared.word.Bus.{Bus}
use Rattle.bus_word.specs.declared.word.Bus.TheVariants.{A, B}
use Rattle.bus_word.specs.declared.word.Kind.TheVariants.{Com}
use Rattle.bus_word.specs.declared.cell.Cell.TheVariants.{OwnMode}
use Rattle.bus_word.specs.Word.{valid_word}
use Rattle.bus_word.specs.Command.{command_bits}
use Rattle.bus_word.specs.Mode as mode
use Rattle.bus_legal.specs.Description.{Description}
use Rattle.terminal_rules.specs.declared.event.Event.{Event}
use Rattle.terminal_rules.specs.declared.event.Event.TheVariants.{Word, Gap, Slot}
use Rattle.terminal_rules.specs.History.{run}
use Rattle.terminal_rules.specs.Open.{Idle}
use Rattle.terminal_rules.specs.Reply.{reply_now}
use Rattle.terminal_rules.specs.Starts.{is_for_terminal}
use Rattle.terminal_rules.specs.Status.{spares}
use Rattle.terminal_rules.specs.Past.{past, open_at, history_after}
use Rattle.terminal_rules.specs.Out.{Sending}
use Rattle.terminal_rules.specs.Same.{AreProper}
use Rattle.terminal_recordings.specs.Recordings.{Sighting, IsExplained, IsExplainedAfter, IsRecording}
use Rattle.terminal_recordings.specs.Completion.{shown_from}

-- a quiet place: on each bus no message is in progress and no word or noise came since the last gap, and no reply is in progress
pub record IsQuiet (P : Description) (h : List Event) : Type 0 where
  pub message : (b : Bus) → open_at P h b ≡ Idle
  pub run : (b : Bus) → run (past P h) b ≡ []
  pub reply : reply_now (past P h) ≡ None

-- A description explains a recording that begins later than power-up if its terminal can do just what was seen, from some
-- quiet place on: there are events that can come, to a quiet place, and more of them, of which just this is seen.
abbrev pub IsExplainedLater : Description → List Sighting → Type 0
IsExplainedLater P recording =
    (earlier : List Event) × AreProper earlier × IsQuiet P (history_after earlier []) × IsExplainedAfter P (history_after earlier []) recording

-- It explains a recording that begins at any time, if its terminal can do just that after some events.
abbrev pub IsExplainedAnyTime : Description → List Sighting → Type 0
IsExplainedAnyTime P recording = (earlier : List Event) × AreProper earlier × IsExplainedAfter P (history_after earlier []) recording

-- how many gaps came on each bus, with no word or noise on either since the first of them, and no word sent
pub record Gaps : Type 0 where
  pub a : ℕ
  pub b : ℕ

abbrev pub no_gaps : Gaps
no_gaps = record { a = 0; b = 0 }

-- they are two on each bus: no message goes on past them, since with the second a transfer that waits is over
abbrev pub are_two : Gaps → Bool
are_two g = nat_le 2 g.a && nat_le 2 g.b

-- how many there are with an event, or none where it ends a pause: after two gaps on each bus, in a slot, nothing is sent
abbrev pub gaps_with : Gaps → Event → Option Sending → Option Gaps
gaps_with g (Gap A) sent = Some (record g { a = suc g.a })
gaps_with g (Gap B) sent = Some (record g { b = suc g.b })
gaps_with g Slot None = if are_two g then None else Some g
gaps_with g _ sent = Some no_gaps

-- the command in a word for the terminal
abbrev pub command_for : Description → Event → Option ℕ
command_for P (Word b w) = if is_for_terminal P w then Some w.bits else None
command_for P _ = None

-- the first command for the terminal that is seen
abbrev pub first_command : Description → List Sighting → Option ℕ
first_command P [] = None
first_command P (s ∷ recording) = elim (command_for P s.event) [ None ↦ first_command P recording | Some c ↦ Some c ]

-- it asks for the status that was kept before it: it is a legal own mode code 2 or 18
abbrev pub asks_back : Description → Option ℕ → Bool
asks_back P None = false
asks_back P (Some c) = spares P c

-- A recording begins afresh where its first command doesn't ask back: with that command the kept status is set, and the last
-- command too where it can ever be asked for. What was kept before is not seen then.
abbrev pub BeginsAfresh : Description → List Sighting → Type 0
BeginsAfresh P recording = asks_back P (first_command P recording) ≡ false

-- All that is left from before a quiet place and may be seen later, whatever the subsystem does: which transmitters are shut
-- down. A terminal flag that is inhibited shows nothing that a flag that is off doesn't.
pub record ShutDown : Type 0 where
  pub a : Bool
  pub b : Bool

-- own mode code 4 on a bus, which shuts down the transmitter of the other bus, with a slot for its status
abbrev pub shutdown_on : Bus → ℕ → List Event
shutdown_on b address = Word b (valid_word Com (command_bits (record { address = address; tr = 1; subaddress = 0; low = mode.shutdown }))) ∷ Gap b ∷ Slot ∷ []

abbrev pub if_shut : Bool → List Event → List Event
if_shut true es = es
if_shut false es = []

-- events that shut just these down, from power-up: at most two exchanges
abbrev pub shutting : Description → ShutDown → List Event
shutting P shut = if_shut shut.a (shutdown_on B P.address) ++ if_shut shut.b (shutdown_on A P.address)

-- the history of them
abbrev pub shut_history : Description → ShutDown → List Event
shut_history P shut = history_after (shutting P shut) []

-- what is then shown of a recording that begins after them
abbrev pub shown_later : Description → ShutDown → List Sighting → List Sighting
shown_later P shut recording = shown_from P (shut_history P shut) recording

-- A recording that begins afresh is explained later than power-up exactly if it is shown after one of four beginnings, and so is
-- each front of it. (Own mode code 4 is legal in every profile.) What is explained from power-up is explained later too, what is
-- explained later is so at any time, and what explains more explains less.
pub record LaterLaw : Type 0 where
  pub decided : (P : Description) (recording : List Sighting) → P.address ≤ 30 → P.legal (OwnMode mode.shutdown) ≡ true → IsRecording recording → BeginsAfresh P recording →
      IsExplainedLater P recording ↔ ((shut : ShutDown) × (shown_later P shut recording ≡ recording))
  pub first : (P : Description) (recording : List Sighting) (n : ℕ) → P.address ≤ 30 → P.legal (OwnMode mode.shutdown) ≡ true → IsRecording recording → BeginsAfresh P recording →
      IsExplainedLater P (take n recording) ↔ ((shut : ShutDown) × (take n (shown_later P shut recording) ≡ take n recording))
  pub fronts : (P : Description) (front later : List Sighting) → IsExplainedLater P (front ++ later) → IsExplainedLater P front
  pub at_once : (P : Description) (recording : List Sighting) → IsExplained P recording → IsExplainedLater P recording
  pub any_time : (P : Description) (recording : List Sighting) → IsExplainedLater P recording → IsExplainedAnyTime P recording

-- A history: the events so far, the latest first, and beside each what it did.
use Rattle.std.specs.Prelude.{ℕ, Bool, true, false, if◌then◌else◌, Option, Some, None, List}
use Rattle.bus_word.specs.declared.word.Bus.{Bus}
use Rattle.bus_word.specs.declared.word.Raw.{Raw}
use Rattle.bus_word.specs.declared.cell.Cell.{Cell}
use Rattle.terminal_rules.specs.declared.event.Event.{Event}
use Rattle.terminal_rules.specs.declared.event.Event.TheVariants.{Word, Noise, Gap}
use Rattle.terminal_rules.specs.Buses.{same_bus}
use Rattle.terminal_rules.specs.LookBack.{keep, since}

-- How an event ends a message, with the message's command: not at all, in error, or well. A message that
-- ends well is illegal, or is kept from being carried out by the busy flag, or is done.
pub data Ending : Type 0 where
  Nothing : Ending
  Badly : (command : ℕ) → Ending
  Illegal : (command : ℕ) → Ending
  Blocked : (command : ℕ) → (cell : Cell) → Ending
  Done : (command : ℕ) → (cell : Cell) → (words : List ℕ) → Ending

-- A reply in progress: its bus; the cell of the message that is answered, where that was done, which says what data
-- words follow the status; and the number of the word that is sent next. The status is number 0.
pub record Replying : Type 0 where
  pub bus : Bus
  pub cell : Option Cell
  pub number : ℕ

-- What an event has to do with replies: nothing; it comes on the bus of a reply in progress, and is ignored; with it a
-- reply begins, on a bus, to a message whose cell was done, or to one that was not; or it is the slot in which the next
-- word of a reply is sent.
pub data Turn : Type 0 where
  NoTurn : Turn
  Ignored : Turn
  Begins : (bus : Bus) → (cell : Option Cell) → Turn
  Sends : (reply : Replying) → Turn

-- an event with what it did: its turn in replies, whether it started a message, and what it ended
pub record Noted : Type 0 where
  pub event : Event
  pub turn : Turn
  pub starts : Bool
  pub ends : Ending

-- an event that did this
abbrev pub noted_as : Event → Turn → Bool → Ending → Noted
noted_as e turn starts ends = record { event = e; turn = turn; starts = starts; ends = ends }

-- what a word says, by its bus and itself; any other event says nothing
abbrev pub of_word : {X : Type 0} → (Bus → Raw → X) → Event → Option X
of_word f (Word b w) = Some (f b w)
of_word f _ = None

-- what a start says: a word that started a message
abbrev pub of_start : {X : Type 0} → (Bus → Raw → X) → Noted → Option X
of_start f p = if p.starts then of_word f p.event else None

-- the event came on the bus of a reply in progress, so it was not heard
abbrev pub is_ignored : Turn → Bool
is_ignored Ignored = true
is_ignored _ = false

-- what a run is made of: a word, or noise, and whether it started a message
pub record Entry : Type 0 where
  pub word : Option Raw
  pub starts : Bool

-- a gap on this bus
abbrev pub is_gap_on : Bus → Event → Bool
is_gap_on b (Gap c) = same_bus b c
is_gap_on b _ = false

-- a gap on a bus that is not ignored
abbrev pub ends_run : Bus → Noted → Bool
ends_run b p = if is_ignored p.turn then false else is_gap_on b p.event

-- what an event adds to the run of a bus: a word or noise on it, and nothing else
abbrev pub entry_of : Bus → Event → Bool → Option Entry
entry_of b (Word c w) starts = if same_bus b c then Some (record { word = Some w; starts = starts }) else None
entry_of b (Noise c) starts = if same_bus b c then Some (record { word = None; starts = starts }) else None
entry_of b _ starts = None

-- the same, with nothing added by what was ignored
abbrev pub entry_on : Bus → Noted → Option Entry
entry_on b p = if is_ignored p.turn then None else entry_of b p.event p.starts

-- The run of a bus: its words and noise since its last gap, or since power-up, without what was ignored.
-- Continuity of a transmission (MIL-STD-1553B, 4.4.1.2): what one transmission is, ends at a gap.
abbrev pub run : List Noted → Bus → List Entry
run h b = keep (entry_on b) (since (ends_run b) h)

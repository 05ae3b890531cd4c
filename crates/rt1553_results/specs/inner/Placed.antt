-- The sightings of results with their places, as a watch is given them.
use Rattle.std.specs.Prelude.{◌≡◌, ℕ, suc, ◌+◌, ◌*◌, ◌==◌, false, if◌then◌else◌, Option, Some, List, [], ◌∷◌, ◌++◌, map}
use Rattle.bus_word.specs.declared.word.Bus.TheVariants.{A}
use Rattle.bus_word.specs.declared.word.Kind.TheVariants.{Com, Dat}
use Rattle.bus_legal.specs.Description.{Description}
use Rattle.bus_legal.specs.Parts.{Parts}
use Rattle.bus_legal.specs.Tables.{tables_say}
use Rattle.terminal_rules.specs.declared.event.Event.{Event}
use Rattle.terminal_rules.specs.Out.{Sending, sending}
use Rattle.terminal_exchanges.specs.Exchanges.{Exchange}
use Rattle.terminal_recordings.specs.Recordings.{Sighting, is_seen}
use Rattle.recorded_terminal.specs.declared.watch.Marked.{Marked}
use Rattle.recorded_terminal.specs.declared.watch.Watch.{Watch}
use Rattle.recorded_terminal.specs.Sightings.{shown_sighting}
use Rattle.recorded_terminal.specs.Watched.{Watches}
use Rattle.rt1553_results.specs.declared.watching.ReplyPlace.{ReplyPlace}
use Rattle.rt1553_results.specs.Recorded.{Replied, slots_of, seen_slot, events_to_gap}

-- a sighting, the line that it is marked with, and the command
pub record PlacedSighting : Type 0 where
  pub sighting : Sighting
  pub line : ℕ
  pub command : Option ℕ

-- what a watch is given
abbrev pub placed_in : Marked → PlacedSighting
placed_in m = record { sighting = shown_sighting m.sighting; line = m.line; command = m.command }

-- the line that stands for a slot of exchange number n
abbrev pub line_of_slot : ℕ → ℕ → ℕ
line_of_slot n slot = slot * 4294967296 + n

-- an event at a place, in which this is sent; none for an event that is not seen
abbrev pub placed_event : ReplyPlace → Event → Option Sending → List PlacedSighting
placed_event at e sent =
    if is_seen e then record { sighting = record { event = e; sent = sent }; line = line_of_slot at.number at.slot; command = Some at.command } ∷ [] else []

-- slots of exchange number n, which has this command, from one on, in which this is sent
abbrev pub placed_slots : ℕ → ℕ → ℕ → List (Option Sending) → List PlacedSighting
placed_slots n command slot [] = []
placed_slots n command slot (sent ∷ slots) = record { sighting = seen_slot sent; line = line_of_slot n slot; command = Some command } ∷ placed_slots n command (suc slot) slots

-- events of that exchange up to its gap
abbrev pub placed_events : ℕ → ℕ → List Event → List PlacedSighting
placed_events n command es = map (λ e. record { sighting = record { event = e; sent = Option.None }; line = line_of_slot n 0; command = Some command }) es

-- an exchange with what is sent in its slots
abbrev pub placed_exchange : ℕ → Exchange → List (Option Sending) → List PlacedSighting
placed_exchange n x slots = placed_events n x.command (events_to_gap x) ++ placed_slots n x.command 0 slots

-- exchanges with their replies, of which the first has number n
abbrev pub placed_from : ℕ → List Replied → List PlacedSighting
placed_from n [] = []
placed_from n (r ∷ rs) = placed_exchange n r.exchange (slots_of r) ++ placed_from (n + 1) rs

-- a word of a reply in this slot
abbrev pub word_in_slot : ℕ → ℕ → Sending
word_in_slot slot bits = sending A (if slot == 0 then Com else Dat) bits

-- all that was seen came, and no word is left open
abbrev pub NoneIsOpen : List Marked → Type 0
NoneIsOpen [] = Unit {0}
NoneIsOpen (m ∷ ms) = ((m.any_word ≡ false) × (m.is_maybe ≡ false)) × NoneIsOpen ms

-- a watch of the terminal of a `Normal` has seen these of it from power-up
abbrev pub WatchesAll : Description → List PlacedSighting → Watch Parts → Type 0
WatchesAll D xs w = (ms : List Marked) × (map placed_in ms ≡ xs) × NoneIsOpen ms × Watches (λ normal. tables_say normal.tables) D [] ms w

-- a watch was given these more
abbrev pub Sees : List PlacedSighting → Watch Parts → Watch Parts → Type 0
Sees xs old new = (D : Description) (before : List PlacedSighting) → WatchesAll D before old → WatchesAll D (before ++ xs) new

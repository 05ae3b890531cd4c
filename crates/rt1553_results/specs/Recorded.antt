-- The results of a unit as a recording: what a monitor saw of it during the acceptance test of a terminal.
use Rattle.std.specs.Prelude.{ℕ, ◌+◌, ◌-◌, Option, Some, None, List, [], ◌∷◌, ◌++◌, length, map, replicate}
use Rattle.std.specs.List.{flat_map}
use Rattle.bus_word.specs.declared.word.Bus.TheVariants.{A}
use Rattle.bus_word.specs.declared.word.Kind.TheVariants.{Com, Dat}
use Rattle.bus_legal.specs.Description.{Description}
use Rattle.terminal_rules.specs.declared.event.Event.{Event}
use Rattle.terminal_rules.specs.declared.event.Event.TheVariants.{Gap, Slot}
use Rattle.terminal_rules.specs.Out.{Sending, sending}
use Rattle.terminal_exchanges.specs.Exchanges.{Exchange, command_event, words_then}
use Rattle.bus_complete_test.specs.CompleteTest.{tried}
use Rattle.terminal_recordings.specs.Recordings.{Sighting}

-- an exchange, and the words that the unit replied to it
pub record Replied : Type 0 where
  pub exchange : Exchange
  pub reply : List ℕ

-- an exchange with its reply before others; without one nothing is known from there on
abbrev pub replied_then : Exchange → Option (List ℕ) → List Replied → List Replied
replied_then x None later = []
replied_then x (Some reply) later = record { exchange = x; reply = reply } ∷ later

-- the exchanges before the first one without a result, each with its reply; the first of all has number n
unfoldable pub replied_from : (ℕ → Option (List ℕ)) → ℕ → List Exchange → List Replied
replied_from came n [] = []
replied_from came n (x ∷ xs) = replied_then x (came n) (replied_from came (n + 1) xs)

-- those of the acceptance test of P
abbrev pub replied : Description → (ℕ → Option (List ℕ)) → List Replied
replied P came = replied_from came 1 (tried P)

-- the words of a reply on bus A: a status word, and then data words
abbrev pub words_replied : List ℕ → List Sending
words_replied [] = []
words_replied (status ∷ words) = sending A Com status ∷ map (sending A Dat) words

-- What is sent in the slots of an exchange: the words of the reply, one in each, and then nothing. For a reply of more words than the
-- exchange has slots there are more slots.
abbrev pub slots_of : Replied → List (Option Sending)
slots_of r = map Some (words_replied r.reply) ++ replicate (r.exchange.slots - length r.reply) None

-- what is seen of an event in which nothing is sent, and of a slot
abbrev pub seen_silent : Event → Sighting
seen_silent e = record { event = e; sent = None }

abbrev pub seen_slot : Option Sending → Sighting
seen_slot sent = record { event = Slot; sent = sent }

-- the events of an exchange up to its gap
abbrev pub events_to_gap : Exchange → List Event
events_to_gap x = command_event x.command ∷ words_then x.words (Gap A ∷ [])

-- what is seen of an exchange up to the last of some slots, in which this is sent
abbrev pub exchange_seen : Exchange → List (Option Sending) → List Sighting
exchange_seen x slots = map seen_silent (events_to_gap x) ++ map seen_slot slots

-- the recording of exchanges with their replies, from power-up
abbrev pub recorded_replies : List Replied → List Sighting
recorded_replies rs = flat_map (λ r. exchange_seen r.exchange (slots_of r)) rs

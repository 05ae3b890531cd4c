-- Which places of a bus reply, and which wait, by what their terminals keep.
use Rattle.std.specs.Prelude.{ℕ, ◌==◌, ◌&&◌, not, Bool, false, is_some, if◌then◌else◌, Option, Some, None, List, slice_get}
use Rattle.std.specs.Option.{option_map}
use Rattle.bus_word.specs.declared.word.Bus.{Bus}
use Rattle.bus_word.specs.declared.word.Raw.{Raw}
use Rattle.bus_word.specs.Word.{is_command}
use Rattle.bus_word.specs.Command.{address_of, is_broadcast}
use Rattle.terminal_rules.specs.declared.event.Event.{Event}
use Rattle.terminal_rules.specs.declared.event.Event.TheVariants.{Word, Noise, Gap}
use Rattle.terminal_rules.specs.LookBack.{keep, some}
use Rattle.terminal_rules.specs.Open.{MessageState, Waits}
use Rattle.terminal_state.specs.Message.{standing_on}
use Rattle.terminal_bus.specs.declared.seat.Seat.{Seat}
use Rattle.terminal_bus.specs.declared.discipline.Breach.{Breach}
use Rattle.terminal_bus.specs.declared.discipline.Breach.TheVariants.{GapDuringReply, CommandToAwaited, NotOnBus}
use Rattle.terminal_bus.specs.inner.Seats.{is_addressed}

-- the address of the terminal at a place, if it replies
abbrev pub replier_at : {L : Type 0} → Option (Seat L) → Option ℕ
replier_at None = None
replier_at (Some seat) = if is_some seat.terminal.reply then Some seat.address else None

-- a message in this state waits for the status word of an address, and its terminal will answer it
abbrev pub awaits_in : {F : Type 0} → ℕ → MessageState F → Bool
awaits_in a (Waits c d) = (d == a) && not (is_broadcast c)
awaits_in a _ = false

-- the terminal at a place waits so
abbrev pub awaits_at : {L : Type 0} → Bus → ℕ → Option (Seat L) → Bool
awaits_at b a None = false
awaits_at b a (Some seat) = awaits_in a (standing_on b seat.terminal.in_progress)

-- a terminal has this address, and any waits for its status word
abbrev pub awaited_in_places : {L : Type 0} → List (Option (Seat L)) → Bus → ℕ → Bool
awaited_in_places places b a = some (is_addressed a) places && some (awaits_at b a) places

-- what a word breaks
abbrev pub word_breach : {L : Type 0} → List (Option (Seat L)) → Bus → Raw → Option Breach
word_breach places b w = if is_command w && awaited_in_places places b (address_of w.bits) then Some (CommandToAwaited (address_of w.bits)) else None

-- what an event breaks
abbrev pub places_breach : {L : Type 0} → List (Option (Seat L)) → Event → Option Breach
places_breach places (Word b w) = word_breach places b w
places_breach places (Noise b) = None
places_breach places (Gap b) = option_map (λ a. GapDuringReply a) (slice_get (keep replier_at places) 0)
places_breach places _ = Some NotOnBus

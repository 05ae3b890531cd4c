-- What the fold keeps, and when it stands at a history.
use Rattle.std.specs.Prelude.{◌≡◌, ℕ, Bool, if◌then◌else◌, Option, None, List, ◌++◌}
use Rattle.bus_word.specs.declared.word.Bus.{Bus}
use Rattle.bus_word.specs.declared.word.Bus.TheVariants.{A, B}
use Rattle.bus_legal.specs.Description.{Description}
use Rattle.terminal_rules.specs.declared.event.Event.{Event}
use Rattle.std.specs.Option.{option_map}
use Rattle.terminal_rules.specs.LookBack.{latest, or_else}
use Rattle.terminal_messages.specs.declared.fold.MessageFold.{MessageFold}
use Rattle.terminal_messages.specs.declared.part.MessagePart.{MessagePart}
use Rattle.terminal_messages.specs.declared.fold.ClosedMessages.{ClosedMessages}
use Rattle.terminal_messages.specs.Told.{ToldEvent, is_first_command, event_bus, begun_in}
use Rattle.terminal_messages.specs.Message.{message_on_bus}
use Rattle.terminal_messages.specs.Parts.{tell}
use Rattle.terminal_messages.specs.State.{Facts, in_u64}
use Rattle.terminal_messages.specs.View.{View, view_of, message_after, closed_after, alone_after, newest_after, next_number, number_after, view_listed, view_turn}
use Rattle.terminal_messages.specs.Shown.{shown_slot}

-- the messages that are over, as views
abbrev pub shown_closed : ClosedMessages → List View
shown_closed c = (view_listed (shown_slot c.first) ++ view_listed (shown_slot c.second)) ++ view_listed (shown_slot c.unheard)

-- the message that is kept of a bus
abbrev pub fold_view : MessageFold → Bus → Option View
fold_view f A = shown_slot f.a
fold_view f B = shown_slot f.b

-- the bus of the message that began last, or bus A
abbrev pub begun_bus : ToldEvent → Option Bus
begun_bus t = if is_first_command t.part then event_bus t.noted.event else None

abbrev pub newest_on : List ToldEvent → Bus
newest_on h = or_else (latest begun_bus h) A

-- The fold stands at a history, whose events the caller calls so: what it keeps of each bus is the message there, as far as it is kept.
pub record FoldStands (P : Description) (place : ℕ → ℕ) (h : List Event) (f : MessageFold) : Type 0 where
  pub address : f.own.address ≡ P.address
  pub broadcast : f.own.broadcast ≡ P.broadcast
  pub begun : f.begun ≡ in_u64 (begun_in (tell P h))
  pub newest : f.newest ≡ newest_on (tell P h)
  pub kept : (b : Bus) → fold_view f b ≡ option_map (view_of P place) (message_on_bus (tell P h) b)

-- the fold takes an event of this part: what is kept of each bus, and which messages are over
pub record FoldSteps (x : Facts) (ignored : Bool) (part : MessagePart) (old new : MessageFold) (closed : ClosedMessages) : Type 0 where
  pub own : new.own ≡ old.own
  pub begun : new.begun ≡ number_after part old.begun
  pub newest : new.newest ≡ newest_after x part old.newest
  pub kept : (b : Bus) → fold_view new b ≡ message_after old.own.address old.own.broadcast b x part ignored (next_number old.begun) (fold_view old b)
  pub over : shown_closed closed
      ≡ view_turn old.newest (closed_after A x part (fold_view old A)) (closed_after B x part (fold_view old B))
      ++ view_listed (alone_after old.own.address old.own.broadcast x part (next_number old.begun))

-- What an event is to the messages on the buses.
use Rattle.std.specs.Prelude.{ℕ, Bool, true, false, not, ◌&&◌, ◌||◌, Option, Some, None, List, [], ◌∷◌}
use Rattle.bus_word.specs.declared.word.Bus.{Bus}
use Rattle.terminal_rules.specs.declared.event.Event.{Event}
use Rattle.terminal_rules.specs.declared.event.Event.TheVariants.{Word, Noise, Gap}
use Rattle.terminal_rules.specs.History.{Noted, is_ignored}
use Rattle.terminal_rules.specs.Open.{is_on}
use Rattle.terminal_rules.specs.Reply.{is_other}
use Rattle.terminal_rules.specs.Out.{Out, SendsWord}
use Rattle.terminal_messages.specs.declared.part.MessagePart.{MessagePart}
use Rattle.terminal_messages.specs.declared.part.MessagePart.TheVariants.{First, Second, Status, Within, Unheard}

-- An event of a run, with what it was: how many came before it; what the terminal did; whether a status word was awaited
-- on its bus; the bus of the reply in progress when it came; the buses on which the terminal is in a message or replies,
-- after it; its part; and how many messages have begun with it.
pub record ToldEvent : Type 0 where
  pub index : ℕ
  pub noted : Noted
  pub answer : Out
  pub awaits : Bool
  pub replied : Option Bus
  pub engaged : Bus → Bool
  pub part : MessagePart
  pub begun : ℕ

-- the bus on which an event comes
abbrev pub event_bus : Event → Option Bus
event_bus (Word b w) = Some b
event_bus (Noise b) = Some b
event_bus (Gap b) = Some b
event_bus _ = None

-- the bus on which a word is sent
abbrev pub sent_bus : Out → Option Bus
sent_bus (SendsWord s) = Some s.bus
sent_bus _ = None

abbrev pub is_first_command : MessagePart → Bool
is_first_command First = true
is_first_command _ = false

abbrev pub is_second_command : MessagePart → Bool
is_second_command Second = true
is_second_command _ = false

abbrev pub is_status : MessagePart → Bool
is_status Status = true
is_status _ = false

abbrev pub is_command_within : MessagePart → Bool
is_command_within Within = true
is_command_within _ = false

abbrev pub is_unheard : MessagePart → Bool
is_unheard Unheard = true
is_unheard _ = false

-- it begins a message: on its bus, or where it is not heard one of its own
abbrev pub begins_message : MessagePart → Bool
begins_message p = is_first_command p || is_unheard p

-- how many messages have begun
abbrev pub begun_in : List ToldEvent → ℕ
begun_in [] = 0
begun_in (t ∷ h) = t.begun

-- it begins a message on this bus
abbrev pub begins_on : Bus → ToldEvent → Bool
begins_on b t = is_first_command t.part && is_on b (event_bus t.noted.event)

-- it begins a message on the other bus than this one, or starts one for the terminal there
abbrev pub begins_elsewhere : Bus → ToldEvent → Bool
begins_elsewhere b t = (is_first_command t.part || t.noted.starts) && is_other b (event_bus t.noted.event)

-- The message on a bus is over with the next one on its bus. It is over with the next one on the other bus too, since one
-- bus is active at a time (MIL-STD-1553B, 4.6.3), unless the terminal is still in it: what is not for the terminal
-- supersedes nothing (4.6.3.2).
abbrev pub closes : Bus → ToldEvent → Bool
closes b t = begins_on b t || (begins_elsewhere b t && not (t.engaged b))

-- it comes on this bus and is heard, or is a word that the terminal sends there
abbrev pub belongs_on : Bus → ToldEvent → Bool
belongs_on b t = not (is_ignored t.noted.turn) && (is_on b (event_bus t.noted.event) || is_on b (sent_bus t.answer))

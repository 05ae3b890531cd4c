-- The status word of another terminal for which a message waits.
use Rattle.std.specs.Prelude.{ℕ, Bool, true, false, ◌||◌, Option, Some, None, List}
use Rattle.bus_word.specs.declared.word.Bus.{Bus}
use Rattle.bus_legal.specs.Description.{Description}
use Rattle.terminal_rules.specs.declared.event.Event.{Event}
use Rattle.terminal_rules.specs.History.{Noted}
use Rattle.terminal_rules.specs.Open.{MessageState, Idle, Waits, open_now, is_on}
use Rattle.terminal_rules.specs.Reply.{reply_now, reply_bus}
use Rattle.terminal_rules.specs.Past.{open_at}

-- the address for whose status word a message waits in this state
abbrev pub awaited_in : {F : Type 0} → MessageState F → Option ℕ
awaited_in (Waits c a) = Some a
awaited_in _ = None

-- the address for whose status word the message in progress on a bus waits, at a history
abbrev pub awaited : Description → List Event → Bus → Option ℕ
awaited P h b = awaited_in (open_at P h b)

-- there is a message
abbrev pub is_open : {F : Type 0} → MessageState F → Bool
is_open Idle = false
is_open _ = true

-- the terminal is in a message on a bus, or replies there
abbrev pub is_engaged : Description → List Noted → Bus → Bool
is_engaged P ns b = is_open (open_now P ns b) || is_on b (reply_bus (reply_now ns))

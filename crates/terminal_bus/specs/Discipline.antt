-- What a controller keeps to, so that no two terminals reply at a time.
use Rattle.std.specs.Prelude.{ℕ, Bool, true, false, not, ◌&&◌, ◌==◌, Option, is_some, List, [], ◌∷◌}
use Rattle.bus_word.specs.declared.word.Bus.{Bus}
use Rattle.bus_word.specs.Word.{is_command}
use Rattle.bus_word.specs.Command.{address_of, is_broadcast}
use Rattle.terminal_rules.specs.declared.event.Event.{Event}
use Rattle.terminal_rules.specs.declared.event.Event.TheVariants.{Word, Noise, Gap, Write, Vector, Bit, Flag as FlagIs}
use Rattle.terminal_rules.specs.LookBack.{some}
use Rattle.terminal_rules.specs.History.{Replying}
use Rattle.terminal_rules.specs.Open.{Open, Waits}
use Rattle.terminal_rules.specs.Reply.{reply_now}
use Rattle.terminal_rules.specs.Past.{past, open_at}
use Rattle.terminal_bus.specs.declared.event.BusEvent.{BusEvent}
use Rattle.terminal_bus.specs.declared.event.BusEvent.TheVariants.{OnBus, SlotPasses, Subsystem}
use Rattle.terminal_bus.specs.Members.{Member, bus_after}

-- the reply that a terminal has in progress
abbrev pub member_reply : Member → Option Replying
member_reply m = reply_now (past m.description m.history)

abbrev pub replies : Member → Bool
replies m = is_some (member_reply m)

-- A message waits for the status word of this address (MIL-STD-1553B, 4.3.3.6.3), and its terminal will answer it: the message
-- is no broadcast.
abbrev pub awaits_address : ℕ → Open → Bool
awaits_address a (Waits c d) = (d == a) && not (is_broadcast c)
awaits_address a _ = false

abbrev pub awaits : Bus → ℕ → Member → Bool
awaits b a m = awaits_address a (open_at m.description m.history b)

abbrev pub has_address : ℕ → Member → Bool
has_address a m = m.description.address == a

-- A terminal of the bus has this address, and another receives on a bus and waits there for its status word.
abbrev pub is_awaited : List Member → Bus → ℕ → Bool
is_awaited members b a = some (has_address a) members && some (awaits b a) members

-- The controller puts no gap on either bus while a terminal replies, and on a bus no valid word of command sync with the
-- address of a terminal that is awaited there: the terminal that waits would take it for the status word, and the other for a
-- command. It puts words, noise and gaps, and nothing else.
abbrev pub may_put : List Member → Event → Bool
may_put members (Word b w) = not (is_command w && is_awaited members b (address_of w.bits))
may_put members (Noise b) = true
may_put members (Gap b) = not (some replies members)
may_put members _ = false

-- an event of the subsystem
abbrev pub comes_from_subsystem : Event → Bool
comes_from_subsystem (Write place v) = true
comes_from_subsystem (Vector v) = true
comes_from_subsystem (Bit v) = true
comes_from_subsystem (FlagIs f v) = true
comes_from_subsystem _ = false

abbrev pub may_happen : List Member → BusEvent → Bool
may_happen members (OnBus e) = may_put members e
may_happen members SlotPasses = true
may_happen members (Subsystem a e) = comes_from_subsystem e

-- all that happens keeps to the discipline
abbrev pub is_disciplined : List Member → List BusEvent → Bool
is_disciplined members [] = true
is_disciplined members (x ∷ xs) = may_happen members x && is_disciplined (bus_after members x) xs

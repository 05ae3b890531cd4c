-- What of an event breaks the discipline.
use Rattle.std.specs.Prelude.{ℕ, ◌&&◌, if◌then◌else◌, Option, Some, None, List, slice_get}
use Rattle.std.specs.Option.{option_map}
use Rattle.bus_word.specs.Word.{is_command}
use Rattle.bus_word.specs.Command.{address_of}
use Rattle.terminal_rules.specs.declared.event.Event.{Event}
use Rattle.terminal_rules.specs.declared.event.Event.TheVariants.{Word, Noise, Gap}
use Rattle.terminal_rules.specs.LookBack.{keep}
use Rattle.terminal_bus.specs.declared.discipline.Breach.{Breach}
use Rattle.terminal_bus.specs.declared.discipline.Breach.TheVariants.{GapDuringReply, CommandToAwaited, NotOnBus}
use Rattle.terminal_bus.specs.Members.{Member}
use Rattle.terminal_bus.specs.Discipline.{replies, is_awaited}

-- the address of a terminal that replies
abbrev pub replier : Member → Option ℕ
replier m = if replies m then Some m.description.address else None

-- the address of the first that replies
abbrev pub first_replier : List Member → Option ℕ
first_replier members = slice_get (keep replier members) 0

-- What an event breaks, if the controller puts it now: nothing exactly if it may (`may_put`).
abbrev pub breach : List Member → Event → Option Breach
breach members (Word b w) =
    if is_command w && is_awaited members b (address_of w.bits) then Some (CommandToAwaited (address_of w.bits)) else None
breach members (Noise b) = None
breach members (Gap b) = option_map (λ a. GapDuringReply a) (first_replier members)
breach members _ = Some NotOnBus

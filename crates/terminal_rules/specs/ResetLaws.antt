-- Which events are resets, by what is in progress before them.
use Rattle.std.specs.Prelude.{◌≡◌, Bool, false, ◌&&◌, ◌||◌, Option, Some, None, List}
use Rattle.bus_legal.specs.Description.{Description}
use Rattle.terminal_rules.specs.declared.event.Event.{Event}
use Rattle.terminal_rules.specs.declared.event.Event.TheVariants.{Gap, Slot}
use Rattle.terminal_rules.specs.History.{Noted, Replying}
use Rattle.terminal_rules.specs.Reply.{reply_now}
use Rattle.terminal_rules.specs.Ends.{ends_now}
use Rattle.terminal_rules.specs.SinceReset.{resets_by_broadcast, does_own_reset, is_status_of_reset, is_reset, off_now}
use Rattle.terminal_rules.specs.Past.{note, past}

-- the event is a gap on a bus whose transmitter is shut down
abbrev pub is_gap_in_silence : List Noted → Event → Bool
is_gap_in_silence h (Gap b) = off_now h b
is_gap_in_silence h _ = false

-- the status of a reset by the own address is sent next
abbrev pub status_of_reset_is_next : Option Replying → Bool
status_of_reset_is_next None = false
status_of_reset_is_next (Some r) = is_status_of_reset r.number r.cell

-- the event is a slot that sends it
abbrev pub is_slot_of_reset : List Noted → Event → Bool
is_slot_of_reset h Slot = status_of_reset_is_next (reply_now h)
is_slot_of_reset h _ = false

-- After each history an event is a reset exactly if it ends a reset by broadcast, or a reset by the own address with the
-- transmitter of its bus shut down, or if it sends the status of a reset.
abbrev pub ResetLaw : Type 0
ResetLaw =
    (P : Description) (h : List Event) (e : Event) →
    is_reset (note P (past P h) e)
    ≡ (resets_by_broadcast (ends_now P (past P h) e) || ((does_own_reset (ends_now P (past P h) e) && is_gap_in_silence (past P h) e) || is_slot_of_reset (past P h) e))

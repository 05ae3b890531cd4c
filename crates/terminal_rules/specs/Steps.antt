-- What one event more makes of what looking back gives. What a machine keeps is stated with it; no definition of an answer needs it.
use Rattle.std.specs.Prelude.{suc, Bool, false, not, ◌&&◌, ◌||◌, nat_le, if◌then◌else◌, Option, Some, None, List}
use Rattle.bus_word.specs.declared.word.Bus.{Bus}
use Rattle.bus_word.specs.declared.status.StatusParts.{StatusParts}
use Rattle.bus_word.specs.declared.cell.Cell.{Cell}
use Rattle.terminal_rules.specs.LookBack.{or_else}
use Rattle.terminal_rules.specs.History.{Noted, Replying, Ending}
use Rattle.terminal_rules.specs.Reply.{words_after_status, reply_now, reply_bus}
use Rattle.terminal_rules.specs.Open.{is_on}
use Rattle.terminal_rules.specs.SinceReset.{resets_by_broadcast, does_own_reset, is_status_of_reset}
use Rattle.terminal_rules.specs.Status.{no_parts, with_error_if}

-- the terminal replies on a bus
abbrev pub replies_on : List Noted → Bus → Bool
replies_on h b = is_on b (reply_bus (reply_now h))

-- what sets the kept status, unless there is a reset
abbrev pub reset_first : Bool → Option StatusParts → Option StatusParts
reset_first resets e = if resets then Some no_parts else e

-- the kept status after an event: what the event sets, or that before it, with message error where the event adds that
abbrev pub kept_after : Option StatusParts → Bool → StatusParts → StatusParts
kept_after (Some s) adds kept = s
kept_after None adds kept = with_error_if adds kept

-- what an event keeps or sets anew, by whether it is a reset
abbrev pub unless_reset : {X : Type 0} → Bool → X → Option X → X → X
unless_reset reset first set before = if reset then first else or_else set before

-- a reset acts at the gap of its message, by broadcast, or where no reply begins there
abbrev pub resets_at_gap : Bool → Ending → Bool
resets_at_gap begins x = resets_by_broadcast x || (does_own_reset x && not begins)

-- the reply in progress after its next word was sent
abbrev pub sent_one : Option Replying → Option Replying
sent_one None = None
sent_one (Some r) = if nat_le (suc r.number) (words_after_status r.cell) then Some (record r { number = suc r.number }) else None

-- the next word is the status of a reset
abbrev pub resets_next : Option Replying → Bool
resets_next None = false
resets_next (Some r) = is_status_of_reset r.number r.cell

-- after a gap at which a reply begins, or none
abbrev pub begun_if : Bool → Bus → Option Cell → Option Replying → Option Replying
begun_if begins b cell r = if begins then Some (record { bus = b; cell = cell; number = 0 }) else r

-- after a word, by whether it starts a message
abbrev pub dropped_if : Bool → Option Replying → Option Replying
dropped_if starts r = if starts then None else r

-- The reply in progress. A reply takes time: it begins at the gap that ends its message, and each slot sends its next
-- word, the status first (MIL-STD-1553B, 4.3.3.6).
use Rattle.std.specs.Prelude.{ℕ, suc, Bool, true, false, not, ◌||◌, ◌==◌, nat_le, if◌then◌else◌, Option, Some, None, is_some, List, [], ◌∷◌}
use Rattle.bus_word.specs.declared.word.Bus.{Bus}
use Rattle.bus_word.specs.declared.cell.Cell.{Cell}
use Rattle.bus_word.specs.declared.cell.Cell.TheVariants.{OwnTransmit, OwnMode}
use Rattle.bus_word.specs.Mode as mode
use Rattle.terminal_rules.specs.declared.event.Event.{Event}
use Rattle.terminal_rules.specs.declared.event.Event.TheVariants.{Word, Noise, Gap, Slot}
use Rattle.terminal_rules.specs.Buses.{same_bus}
use Rattle.terminal_rules.specs.LookBack.{latest, since, some}
use Rattle.terminal_rules.specs.History.{Noted, Replying, Turn, Begins}
use Rattle.terminal_rules.specs.Open.{start_bus, is_on}

-- own mode codes 16, 18 and 19 are answered with a data word: vector word, last command and BIT word
abbrev pub has_word : ℕ → Bool
has_word code = (code == mode.vector_word) || ((code == mode.last_command) || (code == mode.bit_word))

-- how many data words follow the status, by the cell of what was done
abbrev pub words_after_status : Option Cell → ℕ
words_after_status (Some (OwnTransmit s n)) = n
words_after_status (Some (OwnMode code)) = if has_word code then 1 else 0
words_after_status _ = 0

-- the bus and the cell of a reply that begins
abbrev pub begun : Turn → Option (Bus × Option Cell)
begun (Begins b cell) = Some (b, cell)
begun _ = None

-- a reply began with this event
abbrev pub begins_reply : Noted → Bool
begins_reply p = is_some (begun p.turn)

-- a start on the other bus than this
abbrev pub is_other : Bus → Option Bus → Bool
is_other b None = false
is_other b (Some c) = not (same_bus b c)

-- an event that starts a message on the other bus than this one
abbrev pub supersedes : Bus → Noted → Bool
supersedes b p = is_other b (start_bus p)

-- the event is the time of one word of a reply
abbrev pub is_slot : Event → Bool
is_slot Slot = true
is_slot _ = false

-- the number of slots
abbrev pub slots_in : List Noted → ℕ
slots_in [] = 0
slots_in (p ∷ h) = if is_slot p.event then suc (slots_in h) else slots_in h

-- a reply after so many slots: it is over with its last word, and a start on the other bus drops it
abbrev pub reply_after : Bus → Option Cell → Bool → ℕ → Option Replying
reply_after b cell superseded m =
    if superseded then None
    else (if nat_le m (words_after_status cell) then Some (record { bus = b; cell = cell; number = m }) else None)

-- the reply that began so, as it is after these events, where it is neither over nor dropped
abbrev pub reply_of : List Noted → Option (Bus × Option Cell) → Option Replying
reply_of after None = None
reply_of after (Some r) = reply_after r.0 r.1 (some (supersedes r.0) after) (slots_in after)

-- The reply in progress: the latest that began, on either bus, by what came after it. No earlier one is in progress
-- when it begins: while a reply is in progress, nothing is heard on its bus, so no message ends there; and a message
-- that ends on the other bus started after that reply began, and its start dropped the reply.
abbrev pub reply_now : List Noted → Option Replying
reply_now h = reply_of (since begins_reply h) (latest (λ p. begun p.turn) h)

-- the bus on which the terminal replies
abbrev pub reply_bus : Option Replying → Option Bus
reply_bus None = None
reply_bus (Some r) = Some r.bus

-- While a reply is in progress, the terminal doesn't hear what comes on its bus: words, noise and gaps there are ignored.
-- They start nothing, end nothing and are in no run.
abbrev pub ignores : Option Replying → Event → Bool
ignores r (Word b w) = is_on b (reply_bus r)
ignores r (Noise b) = is_on b (reply_bus r)
ignores r (Gap b) = is_on b (reply_bus r)
ignores r _ = false

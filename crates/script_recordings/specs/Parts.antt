-- The parts of a recording. Behind a slot in which the unit may have been silent, whatever it had to send, nothing is known of it: there a part
-- ends, and the next one is judged from its first pause on, as a recording that began at any time.
use Rattle.std.specs.Prelude.{◌&&◌, Bool, not, List, filter}
use Rattle.std.specs.List.{slice_split}
use Rattle.terminal_rules.specs.Reply.{is_slot}
use Rattle.rt1553_verify.specs.Stated.{StatedEvent, is_maybe}

-- the unit may have been silent in the slot of this event
abbrev pub is_silence : StatedEvent → Bool
is_silence s = is_slot s.event && is_maybe s.matching

-- all events but such slots
abbrev pub heard : List StatedEvent → List StatedEvent
heard ss = filter (λ s. not (is_silence s)) ss

-- the parts of events: one more than there are such slots
abbrev pub split_parts : List StatedEvent → List (List StatedEvent)
split_parts ss = slice_split is_silence ss

-- The events of a message.
use Rattle.std.specs.Prelude.{ℕ, ◌≡◌, ◌+◌, ◌==◌, Bool, true, false, not, ◌&&◌, ◌||◌, nat_le, if◌then◌else◌, List, [], ◌∷◌, ◌++◌, map, Option, Some, None, replicate}
use Rattle.bus_word.specs.declared.word.Bus.{Bus}
use Rattle.bus_word.specs.Word.{valid_word}
use Rattle.bus_word.specs.Command.{transmits, is_mode, is_broadcast, code_of, count_of}
use Rattle.terminal_rules.specs.LookBack.{some}
use Rattle.terminal_rules.specs.declared.event.Event.{Event}
use Rattle.terminal_rules.specs.declared.event.Event.TheVariants as event
use Rattle.rt1553_tool.specs.declared.fields.CommandFields.{CommandFields}
use Rattle.rt1553_tool.specs.declared.fields.WordFields.{WordFields}
use Rattle.rt1553_tool.specs.declared.fields.WordFields.TheVariants as fields
use Rattle.rt1553_tool.specs.Fields.{sync_of, bits_with}
use Rattle.rt1553_tool.specs.WordLines.{status_with}
use Rattle.rt1553_expand.specs.declared.script_for.ScriptFor.{ScriptFor}
use Rattle.rt1553_expand.specs.declared.script_for.ScriptFor.TheVariants as script_for
use Rattle.rt1553_expand.specs.Own.{is_own, may_lack_words}
use Rattle.rt1553_expand.specs.Message.{SaidMessage}

-- the valid word of these fields comes on the bus
abbrev pub word_event : Bus → WordFields → Event
word_event bus f = event.Word bus (valid_word (sync_of f) (bits_with f))

-- the valid data words of these bits come on the bus, one after another
abbrev pub data_events : Bus → List ℕ → List Event
data_events bus words = map (λ word. word_event bus (fields.Data word)) words

-- how many data words a terminal sends behind its status word in the reply to a command
abbrev pub data_words_sent : ℕ → ℕ
data_words_sent command =
    if transmits command then (if is_mode command then (if nat_le 16 (code_of command) then 1 else 0) else count_of command)
    else 0

-- how many words the reply to a command can have: nothing replies to a command to all terminals
abbrev pub reply_words : ℕ → ℕ
reply_words command = if is_broadcast command then 0 else data_words_sent command + 1

-- behind a command and its data words: a gap, and a slot for each word of the reply
abbrev pub message_end : Bus → WordFields → List Event
message_end bus (fields.Command f) = event.Gap bus ∷ replicate (reply_words (bits_with (fields.Command f))) event.Slot
message_end bus (fields.Status f) = []
message_end bus (fields.Data word) = []

-- In a transfer, behind the command to receive: the command to the terminal that sends, a gap, and the status word of that
-- terminal, without a bit that is set.
abbrev pub sender_events : Bus → Option CommandFields → List Event
sender_events bus None = []
sender_events bus (Some f) = word_event bus (fields.Command f) ∷ event.Gap bus ∷ word_event bus (fields.Status (status_with f.address [])) ∷ []

-- the terminal of this address hears a command to the address `to`, and is not the sender
abbrev pub hears_beside : ℕ → ℕ → ℕ → Bool
hears_beside to sender address = not (address == sender) && ((address == to) || (to == 31))

-- another terminal than the sender plays its own part, and hears it; in a script for one terminal there is no other
abbrev pub other_hears : ScriptFor → ℕ → ℕ → Bool
other_hears (script_for.Terminal own) to sender = false
other_hears (script_for.Bus addresses) to sender = some (hears_beside to sender) addresses.items

-- in a transfer, another terminal than the sender plays its own part, and hears the first command
abbrev pub other_receives : ScriptFor → WordFields → Option CommandFields → Bool
other_receives own first None = false
other_receives own (fields.Command f) (Some sender) = other_hears own f.address sender.address
other_receives own (fields.Status f) (Some sender) = false
other_receives own (fields.Data word) (Some sender) = false

-- Behind the command to receive, where an own terminal sends: the command to it, a gap, and a slot for each word of its reply. The words
-- are its own, whatever the message says.
abbrev pub own_events : Bus → Option CommandFields → List Event
own_events bus None = []
own_events bus (Some f) = word_event bus (fields.Command f) ∷ message_end bus (fields.Command f)

-- Behind that, where another own terminal receives: the end of the message, with slots for its status word.
abbrev pub receiver_events : ScriptFor → Bus → SaidMessage → List Event
receiver_events own bus m = if other_receives own m.first m.sender then message_end bus m.first else []

-- behind the first word, what others put on the bus, and slots for own terminals
abbrev pub heard_events : Bus → SaidMessage → List Event
heard_events bus m = sender_events bus m.sender ++ (data_events bus m.words ++ message_end bus m.first)

-- the events of a message, in their order, for these terminals
abbrev pub message_events : ScriptFor → Bus → SaidMessage → List Event
message_events own bus m = word_event bus m.first ∷ (if is_own own m.sender then own_events bus m.sender ++ receiver_events own bus m else heard_events bus m)

-- where a message may lack its words, they make no difference
abbrev pub LeftOutWordsAreNone : Type 0
LeftOutWordsAreNone = (own : ScriptFor) (bus : Bus) (m : SaidMessage) → may_lack_words own m.sender ≡ true
    → message_events own bus m ≡ message_events own bus (record { first = m.first; sender = m.sender; words = [] })

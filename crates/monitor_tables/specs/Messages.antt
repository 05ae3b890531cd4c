-- What is heard of a message in a table: what the controller sends, then the reply of the terminal that is to reply first, then the status
-- word of the one that received what that sent; between them gaps. When it ends is known only within bounds.
use Rattle.std.specs.Prelude.{ℕ, nat_lt, Bool, false, not, ◌&&◌, ◌||◌, ◌==◌, ◌+◌, ◌*◌, ◌-◌, ◌^◌, min, max, if◌then◌else◌, Option, Some, None, is_none, is_some, List, [], ◌∷◌, ◌++◌, length, map}
use Rattle.bus_word.specs.declared.word.Bus.{Bus}
use Rattle.bus_word.specs.declared.word.Bus.TheVariants.{A, B}
use Rattle.bus_word.specs.Command.{address_of, transmits, is_broadcast}
use Rattle.terminal_rules.specs.Buses.{same_bus, other}
use Rattle.monitor_cells.specs.declared.cells.WordSync.{WordSync}
use Rattle.monitor_cells.specs.declared.cells.WordSync.TheVariants.{Command, Data, Status}
use Rattle.monitor_cells.specs.declared.heard.HeardItem.{HeardItem}
use Rattle.monitor_cells.specs.declared.heard.HeardItem.TheVariants.{Gap, MaybeGap, Word, Reply}
use Rattle.monitor_tables.specs.declared.messages.MessageRow.{MessageRow}
use Rattle.monitor_tables.specs.declared.message_times.LastMessage.{LastMessage}
use Rattle.monitor_tables.specs.declared.message_times.MessageTimes.{MessageTimes}
use Rattle.monitor_tables.specs.Hearing.{left_open, is_surely_before}
use Rattle.monitor_cells.specs.declared.silence.Silence.{Silence}
use Rattle.monitor_cells.specs.declared.setup.RecordingSetup.{RecordingSetup}
use Rattle.monitor_cells.specs.Cells.{kind_of_sync}
use Rattle.monitor_cells.specs.Listening.{word_end, later_end, has_passed, has_lasted, becomes_longer, is_over_before, is_before_end, pause_of, is_meant_for, recovery_of, recovered_at, may_be_deaf, shortest_wait, longest_wait, forever, gap_if, maybe_silent_if, slot_if, maybe_gap_if, pause_if}

-- a word of the terminal, or of another
abbrev pub word_by : Bool → Bus → WordSync → ℕ → HeardItem
word_by own bus sync bits = if own then Reply (record { bus = bus; kind = kind_of_sync sync; bits = bits }) else Word bus sync bits

-- it is a command word for the terminal of this address, or for all
abbrev pub is_meant_command : ℕ → Option ℕ → Bool
is_meant_command address None = false
is_meant_command address (Some bits) = is_meant_for address bits

-- the status word is that of the terminal of this address
abbrev pub is_own_status : ℕ → Option ℕ → Bool
is_own_status address None = false
is_own_status address (Some bits) = address_of bits == address

-- a status word, if there is one
abbrev pub status_heard : ℕ → Bus → Option ℕ → List HeardItem
status_heard address bus None = []
status_heard address bus (Some bits) = word_by (address_of bits == address) bus Status bits ∷ []

-- a command word, if there is one
abbrev pub command_heard : Bus → Option ℕ → List HeardItem
command_heard bus None = []
command_heard bus (Some bits) = Word bus Command bits ∷ []

-- data words of the terminal, or of another
abbrev pub data_heard : Bool → Bus → List ℕ → List HeardItem
data_heard own bus words = map (λ word. word_by own bus Data word) words

-- the gap before words, and the second one, which may have come if they may be late
abbrev pub gaps_heard : Bool → Bus → List HeardItem
gaps_heard late bus = Gap bus ∷ (if late then MaybeGap bus ∷ [] else [])

-- words, if there are any, behind the gap before them
abbrev pub behind_gaps : Bool → Bus → List HeardItem → List HeardItem
behind_gaps late bus [] = []
behind_gaps late bus (x ∷ xs) = gaps_heard late bus ++ x ∷ xs

-- the controller sends the data words, to one terminal or to all
abbrev pub is_from_controller : MessageRow → Bool
is_from_controller row = is_none row.command2 && not (transmits row.command)

-- what the controller sends
abbrev pub commands_heard : MessageRow → List HeardItem
commands_heard row =
    Word row.bus Command row.command ∷ (command_heard row.bus row.command2 ++ (if is_from_controller row then data_heard false row.bus row.words.items else []))

-- what the terminal sends that is to reply first
abbrev pub reply_heard : ℕ → MessageRow → List HeardItem
reply_heard address row =
    status_heard address row.bus row.status ++ (if is_from_controller row then [] else data_heard (is_own_status address row.status) row.bus row.words.items)

-- The reply is that of another, from which the terminal is to receive. A row does not tell how late it was, so the terminal may have given up
-- waiting for it.
abbrev pub may_be_late : ℕ → MessageRow → Bool
may_be_late address row = is_some row.command2 && (is_meant_for address row.command && not (is_own_status address row.status))

-- the message
abbrev pub message_heard : ℕ → MessageRow → List HeardItem
message_heard address row =
    commands_heard row ++ (behind_gaps (may_be_late address row) row.bus (reply_heard address row) ++ behind_gaps false row.bus (status_heard address row.bus row.status2))

-- the first word, or else the second
abbrev pub first_or_second : Option ℕ → Option ℕ → Option ℕ
first_or_second None second = second
first_or_second (Some bits) second = Some bits

-- ---- times

-- one word, if there is one
abbrev pub field_words : Option ℕ → ℕ
field_words None = 0
field_words (Some bits) = 1

-- how many words a message has
abbrev pub message_words : MessageRow → ℕ
message_words row = 1 + field_words row.command2 + length row.words.items + field_words row.status + field_words row.status2

-- how many of them are status words
abbrev pub message_replies : MessageRow → ℕ
message_replies row = field_words row.status + field_words row.status2

-- when its command words end
abbrev pub commands_end : MessageRow → ℕ
commands_end row = min (row.time.nanos + 20000 * (1 + field_words row.command2)) (2 ^ 64 - 1)

-- when a message ends at the latest: each of its words lasts 20 microseconds, and before a status word the bus is silent for no longer than
-- no response
abbrev pub latest_end : RecordingSetup → MessageRow → ℕ
latest_end setup row = min (row.time.nanos + (20000 * message_words row + setup.no_response * message_replies row)) (2 ^ 64 - 1)

-- when the words of a message have ended at the earliest: none comes later than right behind the one before it
abbrev pub words_end : MessageRow → ℕ
words_end row = min (row.time.nanos + 20000 * message_words row) (2 ^ 64 - 1)

-- The terminal waits for the status word of another behind the two commands: it is to receive what that one sends, and nothing came.
abbrev pub is_awaiting : ℕ → MessageRow → Bool
is_awaiting address row = is_some row.command2 && (is_meant_for address row.command && (is_none row.status && (length row.words.items == 0)))

-- a command of the message is for the terminal, or for all
abbrev pub is_asked : ℕ → MessageRow → Bool
is_asked address row = is_meant_for address row.command || is_meant_command address row.command2

-- the terminal sent no status word, though a command is for it
abbrev pub sent_no_status : ℕ → MessageRow → Bool
sent_no_status address row = is_asked address row && (not (is_own_status address row.status) && not (is_own_status address row.status2))

-- the last words are its reply
abbrev pub ends_in_reply : ℕ → MessageRow → Bool
ends_in_reply address row = is_own_status address (first_or_second row.status2 row.status)

-- how long the terminal may be deaf behind a message with this command: it replied to that, or that is to all
abbrev pub recovery_with : RecordingSetup → MessageRow → ℕ → ℕ
recovery_with setup row command =
    if is_broadcast command || ((address_of command == setup.address) && not (sent_no_status setup.address row)) then recovery_of setup command else 0

abbrev pub second_recovery : RecordingSetup → MessageRow → Option ℕ → ℕ
second_recovery setup row None = 0
second_recovery setup row (Some command) = recovery_with setup row command

-- how long behind a message
abbrev pub message_recovery : RecordingSetup → MessageRow → ℕ
message_recovery setup row = max (recovery_with setup row row.command) (second_recovery setup row row.command2)

-- the terminal may not have heard a message: no status word came, and it may have been deaf
abbrev pub may_be_unheard : MessageTimes → MessageRow → Bool
may_be_unheard times row = sent_no_status times.setup.address row && may_be_deaf times.recovering row.time.nanos

-- a message, as the last one on its bus
abbrev pub message_last : MessageTimes → MessageRow → LastMessage
message_last times row = record {
  begin = row.time.nanos;
  unit = row.time.unit;
  commands_end = commands_end row;
  words_end = words_end row;
  end = latest_end times.setup row;
  is_asked = is_asked times.setup.address row;
  is_awaiting = is_awaiting times.setup.address row;
  sent_no_status = sent_no_status times.setup.address row;
  may_be_unheard = may_be_unheard times row;
  ends_in_reply = ends_in_reply times.setup.address row;
}

-- no message was read
abbrev pub no_messages : RecordingSetup → MessageTimes
no_messages setup = record { setup = setup; begin = 0; above = None; end = None; recovering = None; a = None; b = None }

-- the last message on a bus, if there was one
abbrev pub last_message : MessageTimes → Bus → Option LastMessage
last_message times A = times.a
last_message times B = times.b

-- the same after a message
abbrev pub last_after : MessageTimes → MessageRow → Bus → Option LastMessage
last_after times row bus = if same_bus bus row.bus then Some (message_last times row) else last_message times bus

-- what is known after a message
abbrev pub message_known : MessageTimes → MessageRow → MessageTimes
message_known times row = record {
  setup = times.setup;
  begin = row.time.nanos;
  above = Some row.bus;
  end = later_end times.end (Some (latest_end times.setup row));
  recovering = recovered_at times.recovering (latest_end times.setup row) (message_recovery times.setup row);
  a = last_after times row A;
  b = last_after times row B;
}

-- when its words have ended at the earliest
abbrev pub words_of_last : Option LastMessage → Option ℕ
words_of_last None = None
words_of_last (Some m) = Some m.words_end

-- when it has ended at the latest
abbrev pub end_of_last : Option LastMessage → Option ℕ
end_of_last None = None
end_of_last (Some m) = Some m.end

-- when its command words have ended
abbrev pub commands_of_last : Option LastMessage → Option ℕ
commands_of_last None = None
commands_of_last (Some m) = Some m.commands_end

-- the first command of a message is heard before this end, if there was one
abbrev pub is_heard_before : MessageRow → Option ℕ → Bool
is_heard_before row None = false
is_heard_before row (Some end) = nat_lt (word_end row.time.nanos) end

-- a message begins more than 1 microsecond before the words of the one above it on its bus have ended, or between the commands of the one above it
-- on the other bus
abbrev pub begins_within : MessageTimes → MessageRow → Bool
begins_within times row =
    is_before_end row.time.nanos (words_of_last (last_message times row.bus))
    || is_heard_before row (commands_of_last (last_message times (other row.bus)))

-- The order of the first command of a message and of the commands of the last one on the other bus decides, and times don't tell it: it ends behind these
-- within what their times leave open, and both messages are to the terminal.
abbrev pub has_unclear_begin_with : ℕ → MessageRow → Option LastMessage → Bool
has_unclear_begin_with address row None = false
has_unclear_begin_with address row (Some m) = (m.is_asked && is_asked address row) && not (is_surely_before m.commands_end (left_open 3 row.time.unit m.unit) (word_end row.time.nanos))

abbrev pub has_unclear_begin : MessageTimes → MessageRow → Bool
has_unclear_begin times row = has_unclear_begin_with times.setup.address row (last_message times (other row.bus))

-- ---- silences

-- a pause is heard before a message of this time: all that were read have ended, at the latest, longer ago than that
abbrev pub is_pause_between : MessageTimes → ℕ → Bool
is_pause_between times time = has_passed times.end (pause_of times.setup) time

-- when the first command of the message above was heard
abbrev pub heard_above : MessageTimes → ℕ
heard_above times = word_end times.begin

-- up to when a bus is silent, before a message: until it begins there, or its first command is heard on the other bus
abbrev pub silent_until : MessageRow → Bus → ℕ
silent_until row bus = if same_bus bus row.bus then row.time.nanos else word_end row.time.nanos

-- the last message on a bus has surely been over for longer than no response by this time, and was not when the message above was heard
abbrev pub is_long_over : MessageTimes → LastMessage → ℕ → Bool
is_long_over times m time = becomes_longer (Some m.end) times.setup.no_response (heard_above times) time

-- a reply is over when the next message begins on its bus
abbrev pub is_followed : MessageTimes → LastMessage → Bool → Bool
is_followed times m here = m.ends_in_reply && (here && not (has_passed (Some m.end) times.setup.no_response (heard_above times)))

-- The terminal has heard the message, had to send by now, and did not, or its reply is over; no command was heard on the other bus since the first
-- one of the message, and what was sent there is over.
abbrev pub has_slot_behind : MessageTimes → Bus → Option LastMessage → Bool → ℕ → Bool
has_slot_behind times bus None here time = false
has_slot_behind times bus (Some m) here time =
    ((((m.sent_no_status && not m.may_be_unheard) || m.ends_in_reply) && is_long_over times m time) || is_followed times m here)
    && (is_over_before (commands_of_last (last_message times (other bus))) (word_end m.begin) && is_over_before (end_of_last (last_message times (other bus))) time)

-- there is a slot in which the terminal sends nothing, behind the last message on a bus
abbrev pub has_slot_between : MessageTimes → MessageRow → Bus → Bool
has_slot_between times row bus = has_slot_behind times bus (last_message times bus) (same_bus bus row.bus) (silent_until row bus)

-- the terminal may not have heard the last message on a bus
abbrev pub is_last_unheard : Option LastMessage → Bool
is_last_unheard None = false
is_last_unheard (Some m) = m.may_be_unheard

-- nor the message above, if that is on this bus: there is a slot behind it in which it may be silent
abbrev pub may_be_silent_above : MessageTimes → Option Bus → Bool
may_be_silent_above times None = false
may_be_silent_above times (Some bus) = is_last_unheard (last_message times bus)

abbrev pub may_be_silent : MessageTimes → Bool
may_be_silent times = may_be_silent_above times times.above

-- by this time the terminal has given up waiting for the status word of another
abbrev pub has_given_up : MessageTimes → Option LastMessage → ℕ → Bool
has_given_up times None time = false
has_given_up times (Some m) time = m.is_awaiting && becomes_longer (Some m.end) longest_wait (heard_above times) time

-- by this time it may have given up or not
abbrev pub may_have_given_up : Option LastMessage → ℕ → Bool
may_have_given_up None time = false
may_have_given_up (Some m) time = m.is_awaiting && (has_lasted (Some m.end) shortest_wait time && not (has_passed (Some m.end) longest_wait time))

-- the message above is on this bus
abbrev pub is_bus : Bus → Option Bus → Bool
is_bus bus None = false
is_bus bus (Some on) = same_bus bus on

abbrev pub is_above : MessageTimes → Bus → Bool
is_above times bus = is_bus bus times.above

-- a terminal has taken a silence for a gap when it would have to reply, at the latest
abbrev pub gap_at_latest : RecordingSetup → ℕ
gap_at_latest setup = max setup.gap setup.no_response

-- The last message on a bus has surely ended with a gap before a message: that is on the same bus, or its first command is heard later than the
-- gap at the latest.
abbrev pub has_surely_ended : MessageTimes → MessageRow → Bus → Bool
has_surely_ended times row bus = same_bus bus row.bus || has_passed (end_of_last (last_message times bus)) (gap_at_latest times.setup) (silent_until row bus)

-- it is the one above, and its gap may be heard later
abbrev pub may_go_on : MessageTimes → MessageRow → Bus → Bool
may_go_on times row bus = is_above times bus && not (has_surely_ended times row bus)

-- or not: its words may have ended before
abbrev pub may_have_ended : MessageTimes → MessageRow → Bus → Bool
may_have_ended times row bus = may_go_on times row bus && has_passed (words_of_last (last_message times bus)) times.setup.gap (silent_until row bus)

-- the last message on a bus had not surely ended with a gap when the message above was heard: that is itself, or one on the other bus
abbrev pub went_on : MessageTimes → Bus → Bool
went_on times bus = is_some (last_message times bus) && not (has_passed (end_of_last (last_message times bus)) (gap_at_latest times.setup) (heard_above times))

-- the gap on a bus, before a message; in a pause it is heard anyway
abbrev pub gap_between : MessageTimes → MessageRow → Bus → Option HeardItem
gap_between times row bus = gap_if ((went_on times bus && has_surely_ended times row bus) || is_pause_between times row.time.nanos) bus

-- The gap of the message above that may be heard only behind the first command of a message, on the other bus. If no command of that is for the
-- terminal, it may come later still, or never, where a third message supersedes the one above.
abbrev pub late_gap : MessageTimes → MessageRow → Option HeardItem
late_gap times row =
    if is_asked times.setup.address row then gap_if (may_go_on times row (other row.bus)) (other row.bus)
    else maybe_gap_if (may_go_on times row (other row.bus)) (other row.bus)

-- the second gap on a bus, before a message; in a pause it is heard anyway
abbrev pub second_between : MessageTimes → MessageRow → Bus → Option HeardItem
second_between times row bus = gap_if (has_given_up times (last_message times bus) (silent_until row bus) || is_pause_between times row.time.nanos) bus

-- a gap that may have come: a second one, or that of the message above
abbrev pub maybe_between : MessageTimes → MessageRow → Bus → Option HeardItem
maybe_between times row bus = maybe_gap_if (may_have_given_up (last_message times bus) (silent_until row bus) || may_have_ended times row bus) bus

-- what is heard of the silence before a message
abbrev pub silence_between : MessageTimes → MessageRow → Silence
silence_between times row = record {
  maybe_silent = maybe_silent_if (may_be_silent times);
  other_gap = gap_between times row (other row.bus);
  own_gap = gap_between times row row.bus;
  slot = slot_if (has_slot_between times row (other row.bus) || has_slot_between times row row.bus);
  other_second = second_between times row (other row.bus);
  own_second = second_between times row row.bus;
  pause = pause_if (is_pause_between times row.time.nanos);
  other_maybe = maybe_between times row (other row.bus);
  own_maybe = maybe_between times row row.bus;
}

-- what is heard of the silence behind the last message, which goes on
abbrev pub silence_behind : MessageTimes → Silence
silence_behind times = record {
  maybe_silent = None;
  other_gap = gap_if (is_above times A) A;
  own_gap = gap_if (is_above times B) B;
  slot = slot_if (has_slot_behind times A times.a false forever || has_slot_behind times B times.b false forever);
  other_second = None;
  own_second = None;
  pause = None;
  other_maybe = None;
  own_maybe = None;
}

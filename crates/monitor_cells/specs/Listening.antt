-- What is heard on two buses, by the last word on each. Times are in nanoseconds. A word of another, or noise, is heard when it ends; a word of
-- the terminal is sent when it begins.
use Rattle.std.specs.Prelude.{ℕ, ◌+◌, ◌-◌, ◌^◌, min, max, nat_lt, nat_le, Bool, true, false, not, ◌&&◌, ◌||◌, ◌==◌, if◌then◌else◌, Option, Some, None}
use Rattle.bus_word.specs.declared.word.Bus.{Bus}
use Rattle.bus_word.specs.declared.word.Bus.TheVariants.{A, B}
use Rattle.bus_word.specs.Command.{address_of, transmits, is_mode, is_broadcast, code_of}
use Rattle.bus_word.specs.Mode.{reset, self_test}
use Rattle.bus_word.specs.Word.{is_command_sync}
use Rattle.terminal_rules.specs.Buses.{other}
use Rattle.monitor_cells.specs.declared.cells.WordSync.{WordSync}
use Rattle.monitor_cells.specs.declared.cells.WordSync.TheVariants.{Command, Data, Status}
use Rattle.monitor_cells.specs.declared.heard.HeardItem.{HeardItem}
use Rattle.monitor_cells.specs.declared.heard.HeardItem.TheVariants as heard
use Rattle.monitor_cells.specs.declared.listening.LastWord.{LastWord}
use Rattle.monitor_cells.specs.declared.listening.Listening.{Listening}
use Rattle.monitor_cells.specs.declared.listening.Speaker.{Speaker}
use Rattle.monitor_cells.specs.declared.listening.Speaker.TheVariants.{Another, Terminal, LateTerminal}
use Rattle.monitor_cells.specs.declared.setup.RecordingSetup.{RecordingSetup}
use Rattle.monitor_cells.specs.declared.seen.SeenWord.{SeenWord}
use Rattle.monitor_cells.specs.declared.seen.SeenWord.TheVariants as seen
use Rattle.monitor_cells.specs.declared.seen.WordRow.{WordRow}
use Rattle.monitor_cells.specs.declared.silence.Silence.{Silence}
use Rattle.monitor_cells.specs.Cells.{kind_of_sync}

-- ---- times

-- when a word ends that begins at this time: it lasts 20 microseconds
abbrev pub word_end : ℕ → ℕ
word_end time = min (time + 20000) (2 ^ 64 - 1)

-- more than this time lies between an end, if there was one, and a time
abbrev pub has_passed : Option ℕ → ℕ → ℕ → Bool
has_passed None silence time = false
has_passed (Some end) silence time = nat_lt silence (time - end)

-- this time or more does
abbrev pub has_lasted : Option ℕ → ℕ → ℕ → Bool
has_lasted None silence time = false
has_lasted (Some end) silence time = nat_le silence (time - end)

-- a silence behind an end, if there was one, becomes longer than this after one time, and not later than another
abbrev pub becomes_longer : Option ℕ → ℕ → ℕ → ℕ → Bool
becomes_longer end silence from until = has_passed end silence until && not (has_passed end silence from)

-- the later of two ends
abbrev pub later_end : Option ℕ → Option ℕ → Option ℕ
later_end None e = e
later_end (Some d) None = Some d
later_end (Some d) (Some e) = Some (max d e)

-- a time is more than 1 microsecond before this end, if there was one
abbrev pub is_before_end : ℕ → Option ℕ → Bool
is_before_end time None = false
is_before_end time (Some end) = nat_lt (min (time + 1000) (2 ^ 64 - 1)) end

-- an end, if there was one, was more than 1 microsecond before this time
abbrev pub is_over_before : Option ℕ → ℕ → Bool
is_over_before None time = true
is_over_before (Some end) time = is_before_end end (Some time)

-- a silence on both buses that is longer is a pause: no terminal replies any more, and each bus had its gap
abbrev pub pause_of : RecordingSetup → ℕ
pause_of setup = max setup.pause (max setup.gap setup.no_response)

-- ---- recovery

-- How long a terminal may hear nothing behind its status word to this command: a reset (Notice 2, 30.4.3), or one that begins its self test (30.4.4).
-- For others 0.
abbrev pub recovery_of : RecordingSetup → ℕ → ℕ
recovery_of setup command =
    if not (transmits command && is_mode command) then 0
    else if code_of command == reset then setup.after_reset
    else if code_of command == self_test then setup.after_self_test
    else 0

-- up to when a terminal may be deaf, if it recovers for so long from an end on
abbrev pub recovered_at : Option ℕ → ℕ → ℕ → Option ℕ
recovered_at recovering end recovery = if recovery == 0 then recovering else later_end recovering (Some (min (end + recovery) (2 ^ 64 - 1)))

-- a command that begins at this time may not be heard: the terminal may be deaf up to that time, or longer
abbrev pub may_be_deaf : Option ℕ → ℕ → Bool
may_be_deaf None time = false
may_be_deaf (Some until) time = nat_le time until

-- ---- words

-- it is a word of the terminal
abbrev pub is_own_word : HeardItem → Bool
is_own_word (heard.Reply sent) = true
is_own_word (heard.Late sent late) = true
is_own_word _ = false

-- it is a word of its reply
abbrev pub is_reply : HeardItem → Bool
is_reply (heard.Reply sent) = true
is_reply _ = false

-- it was not too late
abbrev pub counts : HeardItem → Bool
counts (heard.Late sent late) = false
counts _ = true

-- when a word that begins at this time is heard, or sent
abbrev pub heard_time : HeardItem → ℕ → ℕ
heard_time x time = if is_own_word x then time else word_end time

-- when the last word on a bus ends, if there was one
abbrev pub end_of_word : Option LastWord → Option ℕ
end_of_word None = None
end_of_word (Some w) = Some (word_end w.begin)

-- when it was heard, or sent
abbrev pub time_of : Option LastWord → ℕ
time_of None = 0
time_of (Some w) = heard_time w.heard w.begin

-- since when the bus is silent: nothing is heard of a silence behind a word that came too late
abbrev pub silent_since : Option LastWord → Option ℕ
silent_since None = None
silent_since (Some w) = if counts w.heard then Some (word_end w.begin) else None

-- the terminal, in time or too late
abbrev pub speaker_of : Bool → Speaker
speaker_of late = if late then LateTerminal else Terminal

-- whose data words come at this time: those of who spoke before, up to the next gap
abbrev pub speaker_at : RecordingSetup → Option LastWord → ℕ → Speaker
speaker_at setup None time = Another
speaker_at setup (Some w) time = if has_passed (Some (word_end w.begin)) setup.gap time then Another else w.speaker

-- Whose word it is: a status word of the terminal's address is that of the terminal, which is late if the bus was silent for longer than
-- no response.
abbrev pub speaker_with : RecordingSetup → Option LastWord → ℕ → WordSync → ℕ → Speaker
speaker_with setup last time Command bits = Another
speaker_with setup last time Data bits = speaker_at setup last time
speaker_with setup last time Status bits = if address_of bits == setup.address then speaker_of (has_passed (end_of_word last) setup.no_response time) else Another

-- by how much the silence before a word that begins at this time is too long for a reply; 0 where it is not
abbrev pub late_by : RecordingSetup → Option LastWord → ℕ → ℕ
late_by setup None time = 0
late_by setup (Some w) time = time - word_end w.begin - setup.no_response

-- a word of this speaker, who is late by so much, if at all
abbrev pub heard_by : Speaker → ℕ → Bus → WordSync → ℕ → HeardItem
heard_by Another late bus sync bits = heard.Word bus sync bits
heard_by Terminal late bus sync bits = heard.Reply (record { bus = bus; kind = kind_of_sync sync; bits = bits })
heard_by LateTerminal late bus sync bits = heard.Late (record { bus = bus; kind = kind_of_sync sync; bits = bits }) late

-- who speaks on the bus of a row, after its word
abbrev pub speaker_seen : RecordingSetup → Option LastWord → ℕ → SeenWord → Speaker
speaker_seen setup last time seen.Noise = speaker_at setup last time
speaker_seen setup last time (seen.Valid sync bits) = speaker_with setup last time sync bits

-- what is heard as the word of a row
abbrev pub heard_seen : RecordingSetup → Option LastWord → ℕ → Bus → SeenWord → HeardItem
heard_seen setup last time bus seen.Noise = heard.Noise bus
heard_seen setup last time bus (seen.Valid sync bits) = heard_by (speaker_with setup last time sync bits) (late_by setup last time) bus sync bits

-- ---- messages to the terminal

-- the command is for the terminal of this address, or for all
abbrev pub is_meant_for : ℕ → ℕ → Bool
is_meant_for address command = (address_of command == address) || (address_of command == 31)

-- it is a command word for the terminal of this address, or for all
abbrev pub is_command_for : ℕ → HeardItem → Bool
is_command_for address (heard.Word bus Command bits) = is_meant_for address bits
is_command_for address _ = false

-- so was the last word on a bus
abbrev pub was_command_for : ℕ → Option LastWord → Bool
was_command_for address None = false
was_command_for address (Some w) = is_command_for address w.heard

-- a word at this time follows the last one without a gap
abbrev pub is_contiguous : RecordingSetup → Option LastWord → ℕ → Bool
is_contiguous setup None time = false
is_contiguous setup (Some w) time = counts w.heard && not (has_passed (Some (word_end w.begin)) setup.gap time)

-- a message to the terminal, or to all, is open on the bus at this time: it was behind the last word, and no silence as long as a pause came since
abbrev pub is_open_at : RecordingSetup → Option LastWord → ℕ → Bool
is_open_at setup None time = false
is_open_at setup (Some w) time = w.is_open && not (has_passed (Some (word_end w.begin)) (pause_of setup) time)

-- One is open behind a word: a command word for them opens it. One for another terminal ends it, if it begins a message, behind a gap; so does
-- the status word of the terminal.
abbrev pub is_open_behind : RecordingSetup → Option LastWord → ℕ → HeardItem → Bool
is_open_behind setup last time (heard.Word bus Command bits) = is_meant_for setup.address bits || (is_contiguous setup last time && is_open_at setup last time)
is_open_behind setup last time (heard.Reply sent) = not (is_command_sync sent.kind) && is_open_at setup last time
is_open_behind setup last time _ = is_open_at setup last time

-- the terminal may not have heard the message that is open behind the last word
abbrev pub was_unheard : Option LastWord → Bool
was_unheard None = false
was_unheard (Some w) = w.may_be_unheard

-- Nor the one that is open behind a word: a command word for the terminal, or for all, began when it may have been deaf. Further words carry that on.
abbrev pub is_unheard_behind : Listening → Option LastWord → ℕ → HeardItem → Bool
is_unheard_behind l last time (heard.Word bus Command bits) = if is_meant_for l.setup.address bits then may_be_deaf l.recovering time else was_unheard last
is_unheard_behind l last time _ = was_unheard last

-- how long the terminal may be deaf behind its status word: that is known from the last command to it
abbrev pub recovery_behind : Listening → HeardItem → ℕ
recovery_behind l (heard.Word bus Command bits) = if address_of bits == l.setup.address then recovery_of l.setup bits else l.recovery
recovery_behind l (heard.Reply sent) = if is_command_sync sent.kind then 0 else l.recovery
recovery_behind l _ = l.recovery

-- how long from the end of a word on: it is the status word, or a command to all, which has none
abbrev pub recovery_from : Listening → HeardItem → ℕ
recovery_from l (heard.Word bus Command bits) = if is_broadcast bits then recovery_of l.setup bits else 0
recovery_from l (heard.Reply sent) = if is_command_sync sent.kind then l.recovery else 0
recovery_from l _ = 0

-- ---- the last words

-- the last word on a bus, if there was one
abbrev pub last_on : Listening → Bus → Option LastWord
last_on l A = l.a
last_on l B = l.b

-- the same with this word on a bus
abbrev pub with_last : Listening → Bus → LastWord → Listening
with_last l A w = record l { a = Some w }
with_last l B w = record l { b = Some w }

-- nothing was heard yet
abbrev pub listening_first : RecordingSetup → Listening
listening_first setup = record { setup = setup; a = None; b = None; recovering = None; recovery = 0 }

-- when the latest word was heard, or sent
abbrev pub latest_time : Listening → ℕ
latest_time l = max (time_of l.a) (time_of l.b)

-- what is heard as the word of a row
abbrev pub row_heard : Listening → WordRow → HeardItem
row_heard l row = heard_seen l.setup (last_on l row.bus) row.time.nanos row.bus row.word

-- the word of a row, as the last one
abbrev pub row_last : Listening → WordRow → LastWord
row_last l row = record {
  begin = row.time.nanos;
  heard = row_heard l row;
  speaker = speaker_seen l.setup (last_on l row.bus) row.time.nanos row.word;
  is_open = is_open_behind l.setup (last_on l row.bus) row.time.nanos (row_heard l row);
  may_be_unheard = is_unheard_behind l (last_on l row.bus) row.time.nanos (row_heard l row);
}

-- the last words after a row, and until when the terminal may be deaf
abbrev pub row_known : Listening → WordRow → Listening
row_known l row = record (with_last l row.bus (row_last l row)) {
  recovering = recovered_at l.recovering (word_end row.time.nanos) (recovery_from l (row_heard l row));
  recovery = recovery_behind l (row_heard l row);
}

-- when it is heard, or sent
abbrev pub row_time : Listening → WordRow → ℕ
row_time l row = heard_time (row_heard l row) row.time.nanos

-- the word of a row is one of the terminal
abbrev pub is_own_row : Listening → WordRow → Bool
is_own_row l row = is_own_word (row_heard l row)

-- or one of another, behind which a message to the terminal is open
abbrev pub is_open_row : Listening → WordRow → Bool
is_open_row l row = not (is_own_row l row) && is_open_behind l.setup (last_on l row.bus) row.time.nanos (row_heard l row)

-- or a command to the terminal
abbrev pub is_command_row : Listening → WordRow → Bool
is_command_row l row = is_command_for l.setup.address (row_heard l row)

-- when the last word on a bus ends, if there was one
abbrev pub end_on : Listening → Bus → Option ℕ
end_on l bus = end_of_word (last_on l bus)

-- ---- silences

-- a message to the terminal is open behind the last word on the bus
abbrev pub is_open_last : Option LastWord → Bool
is_open_last None = false
is_open_last (Some w) = w.is_open

abbrev pub is_open_on : Listening → Bus → Bool
is_open_on l bus = is_open_last (last_on l bus)

-- the silence of a bus becomes longer than this behind the latest word on both, and not later than this time
abbrev pub falls_silent : Listening → Bus → ℕ → ℕ → Bool
falls_silent l bus silence time = becomes_longer (silent_since (last_on l bus)) silence (latest_time l) time

-- a pause is heard before a word that begins at this time: no word came on either bus for longer than that, and one came before
abbrev pub is_pause_before : Listening → ℕ → Bool
is_pause_before l time = has_passed (later_end (end_of_word l.a) (end_of_word l.b)) (pause_of l.setup) time

-- The terminal may have taken the silence of a bus for a gap by this time, or not: it does no later than it has to reply.
abbrev pub may_be_gap : Listening → Bus → ℕ → Bool
may_be_gap l bus time = has_passed (silent_since (last_on l bus)) l.setup.gap time && not (has_passed (silent_since (last_on l bus)) l.setup.no_response time)

-- Such a silence goes on up to here, on the other bus than that of the latest word, a command to the terminal: the gap may have come behind it.
abbrev pub was_unclear_gap : Listening → Bus → ℕ → Bool
was_unclear_gap l bus time =
    was_command_for l.setup.address (last_on l (other bus)) && (may_be_gap l bus (latest_time l) && not (is_before_end time (Some (latest_time l))))

-- The terminal had to send by now, and did not: the bus with its message has been silent for longer than no response, and all words on the
-- other bus were over when that silence began.
abbrev pub is_silent_reply : Listening → Bus → Option LastWord → ℕ → Bool
is_silent_reply l bus None time = false
is_silent_reply l bus (Some w) time = w.is_open && (falls_silent l bus l.setup.no_response time && is_over_before (end_on l (other bus)) (word_end w.begin))

-- its reply is over: a gap is behind its last word, and all words on the other bus were over when that began
abbrev pub is_reply_over : Listening → Bus → Option LastWord → ℕ → Bool
is_reply_over l bus None time = false
is_reply_over l bus (Some w) time = is_reply w.heard && (falls_silent l bus l.setup.gap time && is_over_before (end_on l (other bus)) w.begin)

-- in the silence of a bus up to this time there is a slot in which the terminal sends nothing, though it has heard the message
abbrev pub has_slot_on : Listening → Bus → ℕ → Bool
has_slot_on l bus time =
    (is_silent_reply l bus (last_on l bus) time && not (was_unheard (last_on l bus))) || is_reply_over l bus (last_on l bus) time

-- or there is one in which it may be silent, since it may not have heard the message: whatever words were on the other bus
abbrev pub may_be_silent_on : Listening → Bus → ℕ → Bool
may_be_silent_on l bus time = (is_open_on l bus && was_unheard (last_on l bus)) && falls_silent l bus l.setup.no_response time

-- a message without a reply is open on a bus at this time that the terminal may not have heard
abbrev pub is_unheard_on : Listening → Bus → ℕ → Bool
is_unheard_on l bus time = is_open_at l.setup (last_on l bus) time && was_unheard (last_on l bus)

-- it is a command word, for whomever
abbrev pub is_any_command : HeardItem → Bool
is_any_command (heard.Word bus Command bits) = true
is_any_command _ = false

-- One ends without a reply with the word of a row: a command that begins a message on its bus; or on the other bus one to the terminal, or to all, or a
-- word that the terminal goes on to send there.
abbrev pub ends_unheard : Listening → WordRow → Bool
ends_unheard l row =
    (is_unheard_on l (other row.bus) row.time.nanos && (is_command_row l row || is_own_row l row))
    || (is_unheard_on l row.bus row.time.nanos && (is_any_command (row_heard l row) && not (is_contiguous l.setup (last_on l row.bus) row.time.nanos)))

-- How long a terminal waits for the status word of another: at least 14 microseconds from mid-bit to mid-sync (4.3.3.9), 12 of silence, and 1
-- less where times are rounded; and no more than 40 behind the two commands, since the first data word begins within 60 behind the first of
-- them (Notice 2, 30.9).
abbrev pub shortest_wait : ℕ
shortest_wait = 11000

abbrev pub longest_wait : ℕ
longest_wait = 40000

-- by this time the terminal has given up waiting on a bus
abbrev pub gives_up : Listening → Bus → ℕ → Bool
gives_up l bus time = is_open_on l bus && falls_silent l bus longest_wait time

-- by this time it may have given up or not
abbrev pub may_give_up : Listening → Bus → ℕ → Bool
may_give_up l bus time = is_open_on l bus && (has_lasted (silent_since (last_on l bus)) shortest_wait time && not (has_passed (silent_since (last_on l bus)) longest_wait time))

-- ---- what is heard of a silence

abbrev pub gap_if : Bool → Bus → Option HeardItem
gap_if b bus = if b then Some (heard.Gap bus) else None

abbrev pub maybe_silent_if : Bool → Option HeardItem
maybe_silent_if b = if b then Some heard.MaybeSilent else None

abbrev pub slot_if : Bool → Option HeardItem
slot_if b = if b then Some heard.Slot else None

abbrev pub maybe_gap_if : Bool → Bus → Option HeardItem
maybe_gap_if b bus = if b then Some (heard.MaybeGap bus) else None

abbrev pub pause_if : Bool → Option HeardItem
pause_if b = if b then Some heard.Pause else None

-- up to when the other bus is silent, before the word of a row is heard or sent: until the next word begins there, if one was read
abbrev pub other_until : Listening → WordRow → Option ℕ → ℕ
other_until l row None = row_time l row
other_until l row (Some begin) = min begin (row_time l row)

-- the gap on a bus that was silent up to this time, and the second one; in a pause each is heard
abbrev pub first_gap_on : Listening → Bus → ℕ → Bool → Option HeardItem
first_gap_on l bus time is_pause = gap_if (falls_silent l bus l.setup.gap time || (was_unclear_gap l bus time || is_pause)) bus

abbrev pub second_on : Listening → Bus → ℕ → Bool → Option HeardItem
second_on l bus time is_pause = gap_if (gives_up l bus time || is_pause) bus

-- the second gap that may have come before a word of another is heard
abbrev pub maybe_on : Listening → Bus → ℕ → HeardItem → Option HeardItem
maybe_on l bus time x = maybe_gap_if (not (is_own_word x) && may_give_up l bus time) bus

-- The gap on the other bus may come before the word of a row or behind it, and that decides what the word ends: it is a command to the terminal.
abbrev pub is_unclear_gap : Listening → WordRow → Option ℕ → Bool
is_unclear_gap l row next =
    is_command_row l row
    && (may_be_gap l (other row.bus) (row_time l row) && not (is_before_end (other_until l row next) (Some (row_time l row))))

-- the gap on the other bus
abbrev pub other_gap_on : Listening → WordRow → Option ℕ → Option HeardItem
other_gap_on l row next =
    if is_unclear_gap l row next then Some (heard.MaybeGap (other row.bus))
    else first_gap_on l (other row.bus) (other_until l row next) (is_pause_before l row.time.nanos)

-- What is heard of the silence before the word of a row: its own bus is silent until it begins, the other until it is heard or sent, or until
-- the next word begins there.
abbrev pub silence_before : Listening → WordRow → Option ℕ → Silence
silence_before l row next = record {
  maybe_silent = maybe_silent_if (may_be_silent_on l (other row.bus) (other_until l row next) || (may_be_silent_on l row.bus row.time.nanos || ends_unheard l row));
  other_gap = other_gap_on l row next;
  own_gap = first_gap_on l row.bus row.time.nanos (is_pause_before l row.time.nanos);
  slot = slot_if (has_slot_on l (other row.bus) (other_until l row next) || has_slot_on l row.bus row.time.nanos);
  other_second = second_on l (other row.bus) (other_until l row next) (is_pause_before l row.time.nanos);
  own_second = second_on l row.bus row.time.nanos (is_pause_before l row.time.nanos);
  pause = pause_if (is_pause_before l row.time.nanos);
  other_maybe = maybe_on l (other row.bus) (other_until l row next) (row_heard l row);
  own_maybe = maybe_on l row.bus row.time.nanos (row_heard l row);
}

-- the silence behind the last words goes on
abbrev pub forever : ℕ
forever = 2 ^ 64 - 1

-- what is heard of it
abbrev pub last_silence : Listening → Silence
last_silence l = record {
  maybe_silent = None;
  other_gap = first_gap_on l A forever false;
  own_gap = first_gap_on l B forever false;
  slot = slot_if (has_slot_on l A forever || has_slot_on l B forever);
  other_second = None;
  own_second = None;
  pause = None;
  other_maybe = None;
  own_maybe = None;
}

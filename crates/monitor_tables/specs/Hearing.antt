-- The words of a table in the order in which they are heard or sent: of two that overlap, on two buses, the one that begins later may come first.
use Rattle.std.specs.Prelude.{ℕ, ◌+◌, ◌*◌, ◌-◌, ◌^◌, min, nat_lt, Bool, false, not, ◌&&◌, ◌||◌, if◌then◌else◌, Option, Some, None}
use Rattle.bus_word.specs.declared.word.Bus.{Bus}
use Rattle.terminal_rules.specs.Buses.{same_bus}
use Rattle.monitor_cells.specs.declared.listening.Listening.{Listening}
use Rattle.monitor_cells.specs.declared.seen.WordRow.{WordRow}
use Rattle.monitor_cells.specs.declared.setup.RecordingSetup.{RecordingSetup}
use Rattle.monitor_cells.specs.Listening.{listening_first, word_end, is_before_end, row_time, row_known, is_own_row, is_open_row, is_command_row, end_on}
use Rattle.monitor_tables.specs.declared.hearing.Hearing.{Hearing}

-- nothing was read yet
abbrev pub hearing_first : RecordingSetup → Hearing
hearing_first setup = record { listening = listening_first setup; held = None }

-- when the word of a row begins, if that is on the other bus
abbrev pub begin_beside : Bus → WordRow → Option ℕ
begin_beside bus row = if same_bus bus row.bus then None else Some row.time.nanos

-- A word of the terminal is sent before one above it is heard, of another on the other bus; also where it begins up to 1 microsecond later, since
-- a command that was heard before would have ended the reply.
abbrev pub comes_first : Listening → WordRow → WordRow → Bool
comes_first l row held =
    not (same_bus row.bus held.bus)
    && ((is_own_row l row && not (is_own_row l held)) && not (is_before_end (row_time l held) (Some (row_time l row))))

-- What times of these units leave open of what lies between them, so many words later: the units, and 20 nanoseconds for each word, which is timed by
-- a clock of 0.1 % (4.3.3.3).
abbrev pub left_open : ℕ → ℕ → ℕ → ℕ
left_open words first second = min (first + second + 20 * words) (2 ^ 64 - 1)

-- a time is before another by more than that
abbrev pub is_surely_before : ℕ → ℕ → ℕ → Bool
is_surely_before time leeway other = nat_lt (min (time + leeway) (2 ^ 64 - 1)) other

-- The order of two words of others decides, and times don't tell it: they end within what their times leave open on two buses, behind each a message to
-- the terminal is open, and one of them is a command to it.
abbrev pub has_unclear_order_with : Listening → WordRow → Option WordRow → Bool
has_unclear_order_with l row None = false
has_unclear_order_with l row (Some held) =
    (not (same_bus row.bus held.bus) && not (is_surely_before (row_time l held) (left_open 2 row.time.unit held.time.unit) (row_time l row)))
    && ((is_open_row l row && is_open_row l held) && (is_command_row l row || is_command_row l held))

abbrev pub has_unclear_order : Hearing → WordRow → Bool
has_unclear_order h row = has_unclear_order_with h.listening row h.held

-- when the last word on a bus ends, of those that were read, if there was one
abbrev pub end_read_by : Listening → Option WordRow → Bus → Option ℕ
end_read_by l None bus = end_on l bus
end_read_by l (Some held) bus = if same_bus bus held.bus then Some (word_end held.time.nanos) else end_on l bus

abbrev pub end_read : Hearing → Bus → Option ℕ
end_read h bus = end_read_by h.listening h.held bus

-- the word of a row begins before the one above it on its bus ends
abbrev pub overlaps : Hearing → WordRow → Bool
overlaps h row = is_before_end row.time.nanos (end_read h row.bus)

-- it begins before the word that is held back
abbrev pub begins_before : WordRow → Option WordRow → Bool
begins_before row None = false
begins_before row (Some held) = nat_lt row.time.nanos held.time.nanos

abbrev pub is_early : Hearing → WordRow → Bool
is_early h row = begins_before row h.held

-- what was heard after a row more, of which one word is held back: the first of the two comes
abbrev pub known_by : Listening → Option WordRow → WordRow → Hearing
known_by l None row = record { listening = l; held = Some row }
known_by l (Some held) row =
    if comes_first l row held then record { listening = row_known l row; held = Some held } else record { listening = row_known l held; held = Some row }

abbrev pub hearing_known : Hearing → WordRow → Hearing
hearing_known h row = known_by h.listening h.held row

-- and at the end of the table, where none is held back
abbrev pub all_known_by : Listening → Option WordRow → Listening
all_known_by l None = l
all_known_by l (Some held) = row_known l held

abbrev pub all_known : Hearing → Listening
all_known h = all_known_by h.listening h.held

-- What the rows of a monitor's table say, and what is written of them.
use Rattle.std.specs.Prelude.{ℕ, ◌≡◌, ◌≤◌, ◌++◌, Bool, false, not, ◌&&◌, ◌||◌, if◌then◌else◌, Option, Some, None, List, [], ◌∷◌, codes}
use Rattle.monitor_cells.specs.declared.cells.MonitorTime.{MonitorTime}
use Rattle.monitor_cells.specs.declared.cells.WordSync.{WordSync}
use Rattle.monitor_cells.specs.declared.listening.Listening.{Listening}
use Rattle.monitor_tables.specs.declared.message_times.MessageTimes.{MessageTimes}
use Rattle.monitor_tables.specs.declared.messages.MessageColumns.{MessageColumns}
use Rattle.monitor_tables.specs.declared.messages.MessageRow.{MessageRow}
use Rattle.monitor_cells.specs.declared.seen.SeenWord.{SeenWord}
use Rattle.monitor_cells.specs.declared.seen.SeenWord.TheVariants.{Noise, Valid}
use Rattle.monitor_tables.specs.declared.words.WordColumns.{WordColumns}
use Rattle.monitor_cells.specs.declared.seen.WordRow.{WordRow}
use Rattle.monitor_cells.specs.Cells.{IsTime, time_said, unit_said, is_headed, bus_said, sync_said, word_said, words_listed, is_some_text}
use Rattle.monitor_tables.specs.Fields.{record_text, HasNoExtra}
use Rattle.monitor_cells.specs.Listening.{silence_before, last_silence, row_heard}
use Rattle.monitor_tables.specs.declared.hearing.Hearing.{Hearing}
use Rattle.monitor_tables.specs.Hearing.{hearing_first, begin_beside, comes_first, has_unclear_order, overlaps, is_early, hearing_known, all_known}
use Rattle.monitor_tables.specs.declared.header.TableLayout.{TableLayout}
use Rattle.monitor_tables.specs.declared.header.TableLayout.TheVariants.{Words, Messages}
use Rattle.monitor_cells.specs.declared.heard.HeardItem.{HeardItem}
use Rattle.monitor_tables.specs.declared.recording.MonitorTable.{MonitorTable}
use Rattle.monitor_cells.specs.declared.setup.RecordingSetup.{RecordingSetup}
use Rattle.monitor_cells.specs.declared.silence.Silence.{Silence}
use Rattle.monitor_tables.specs.Messages.{message_heard, no_messages, begins_within, has_unclear_begin, silence_between, late_gap, silence_behind, message_known}
use Rattle.monitor_tables.specs.Recording.{HeardAt}

-- ---- fields

-- there is text in a field, if there is such a column
abbrev pub has_text_in : List (List ℕ) → Option ℕ → Bool
has_text_in fields None = false
has_text_in fields (Some field) = is_some_text (record_text fields field)

-- the text in the column `error` says that there is none
abbrev pub says_no_error : List ℕ → Bool
says_no_error text = is_headed (codes "0") text || (is_headed (codes "no") text || is_headed (codes "none") text)

-- an error is told in a field, if there is such a column
abbrev pub has_error_in : List (List ℕ) → Option ℕ → Bool
has_error_in fields None = false
has_error_in fields (Some field) = is_some_text (record_text fields field) && not (says_no_error (record_text fields field))

-- the time that a text says
pub record SaysTime (text : List ℕ) (time : MonitorTime) : Type 0 where
  pub is : IsTime text
  pub nanos : time.nanos ≡ time_said text
  pub unit : time.unit ≡ unit_said text
  pub same : time.text.bytes ≡ text

-- the word that a text says, if there is text
abbrev pub SaysSomeWord : List (List ℕ) → Option ℕ → Option ℕ → Type 0
SaysSomeWord fields None word = word ≡ None
SaysSomeWord fields (Some field) word = word ≡ (if is_some_text (record_text fields field) then word_said (record_text fields field) else None)

-- the words that a text says, if there is such a column
abbrev pub SaysWords : List (List ℕ) → Option ℕ → List ℕ → Type 0
SaysWords fields None words = words ≡ []
SaysWords fields (Some field) words = words_listed (record_text fields field) ≡ Some words

-- ---- words

abbrev pub valid_seen : Option WordSync → Option ℕ → Option SeenWord
valid_seen (Some sync) (Some bits) = Some (Valid sync bits)
valid_seen _ _ = None

-- what a row says of its word: of one with an error nothing more
abbrev pub seen_said : WordColumns → List (List ℕ) → Option SeenWord
seen_said columns fields =
    if has_error_in fields columns.error then Some Noise
    else valid_seen (sync_said (record_text fields columns.sync)) (word_said (record_text fields columns.word))

-- what a row says
pub record IsWordRow (columns : WordColumns) (fields : List (List ℕ)) (row : WordRow) : Type 0 where
  pub time : SaysTime (record_text fields columns.time) row.time
  pub bus : bus_said (record_text fields columns.bus) ≡ Some row.bus
  pub word : seen_said columns fields ≡ Some row.word
  pub none_beyond : HasNoExtra fields columns.width

-- one thing that was heard, without a time, if there is one
abbrev pub one_noted : Option HeardItem → List HeardAt
one_noted None = []
one_noted (Some x) = record { time = []; heard = x } ∷ []

-- What is heard of a silence: a slot in which the terminal may be silent, gaps, a slot, second gaps, the end of a pause, and second gaps that may
-- have come.
abbrev pub silence_noted : Silence → List HeardAt
silence_noted s =
    one_noted s.maybe_silent
    ++ (one_noted s.other_gap
    ++ (one_noted s.own_gap
    ++ (one_noted s.slot
    ++ (one_noted s.other_second ++ (one_noted s.own_second ++ (one_noted s.pause ++ (one_noted s.other_maybe ++ one_noted s.own_maybe)))))))

-- what is heard with the word of a row: the silence before it, and the word; the next one on the other bus begins at this time
abbrev pub row_noted : Listening → WordRow → Option ℕ → List HeardAt
row_noted l row next = silence_noted (silence_before l row next) ++ record { time = row.time.text.bytes; heard = row_heard l row } ∷ []

-- what is heard when a row more is read: the first of its word and the one that is held back
abbrev pub noted_by : Listening → Option WordRow → WordRow → List HeardAt
noted_by l None row = []
noted_by l (Some held) row = if comes_first l row held then row_noted l row (begin_beside row.bus held) else row_noted l held (begin_beside held.bus row)

abbrev pub hearing_noted : Hearing → WordRow → List HeardAt
hearing_noted h row = noted_by h.listening h.held row

-- the word that is held back at the end of the table
abbrev pub held_noted_by : Listening → Option WordRow → List HeardAt
held_noted_by l None = []
held_noted_by l (Some held) = row_noted l held None

abbrev pub held_noted : Hearing → List HeardAt
held_noted h = held_noted_by h.listening h.held

-- ---- messages

-- items without times
abbrev pub untimed : List HeardItem → List HeardAt
untimed [] = []
untimed (x ∷ xs) = record { time = []; heard = x } ∷ untimed xs

-- items with this time before the first, and none before the others; behind the first this one more, if there is one
abbrev pub timed : List ℕ → Option HeardItem → List HeardItem → List HeardAt
timed time more [] = []
timed time more (x ∷ xs) = record { time = time; heard = x } ∷ (one_noted more ++ untimed xs)

-- what a row says
pub record IsMessageRow (columns : MessageColumns) (fields : List (List ℕ)) (row : MessageRow) : Type 0 where
  pub time : SaysTime (record_text fields columns.time) row.time
  pub bus : bus_said (record_text fields columns.bus) ≡ Some row.bus
  pub command : word_said (record_text fields columns.command) ≡ Some row.command
  pub command2 : SaysSomeWord fields columns.command2 row.command2
  pub words : SaysWords fields columns.words row.words.items
  pub status : SaysSomeWord fields columns.status row.status
  pub status2 : SaysSomeWord fields columns.status2 row.status2
  pub flawless : has_error_in fields columns.error ≡ false
  pub none_beyond : HasNoExtra fields columns.width

-- ---- tables

-- each of these rows is what a record says
abbrev pub AreWordRows : WordColumns → List (List (List ℕ)) → List WordRow → Type 0
AreWordRows columns [] [] = Unit {0}
AreWordRows columns (fields ∷ records) (row ∷ rows) = IsWordRow columns fields row × AreWordRows columns records rows
AreWordRows columns _ _ = ⊥

abbrev pub AreMessageRows : MessageColumns → List (List (List ℕ)) → List MessageRow → Type 0
AreMessageRows columns [] [] = Unit {0}
AreMessageRows columns (fields ∷ records) (row ∷ rows) = IsMessageRow columns fields row × AreMessageRows columns records rows
AreMessageRows columns _ _ = ⊥

-- what is known after rows that are words
abbrev pub rows_known : Hearing → List WordRow → Hearing
rows_known h [] = h
rows_known h (row ∷ rows) = rows_known (hearing_known h row) rows

-- what is heard while they are read
abbrev pub rows_noted : Hearing → List WordRow → List HeardAt
rows_noted h [] = []
rows_noted h (row ∷ rows) = hearing_noted h row ++ rows_noted (hearing_known h row) rows

-- a word begins neither before the one above it on its bus ends, nor before the one that is held back, and their order is clear
abbrev pub IsApart : Hearing → WordRow → Type 0
IsApart h row = (overlaps h row ≡ false) × (is_early h row ≡ false) × (has_unclear_order h row ≡ false)

-- so does each of these
abbrev pub AreApart : Hearing → List WordRow → Type 0
AreApart h [] = Unit {0}
AreApart h (row ∷ rows) = IsApart h row × AreApart (hearing_known h row) rows

-- what is heard with all words of rows
abbrev pub words_begun : RecordingSetup → List WordRow → List HeardAt
words_begun setup rows = rows_noted (hearing_first setup) rows ++ held_noted (rows_known (hearing_first setup) rows)

-- and at the end of the table
abbrev pub words_noted : RecordingSetup → List WordRow → List HeardAt
words_noted setup rows = words_begun setup rows ++ silence_noted (last_silence (all_known (rows_known (hearing_first setup) rows)))

-- what is heard with a row: the silence before its message, and the message
abbrev pub message_noted : MessageTimes → MessageRow → List HeardAt
message_noted times row = silence_noted (silence_between times row) ++ timed row.time.text.bytes (late_gap times row) (message_heard times.setup.address row)

-- what is known after rows that are messages
abbrev pub messages_known : MessageTimes → List MessageRow → MessageTimes
messages_known times [] = times
messages_known times (row ∷ rows) = messages_known (message_known times row) rows

-- what is heard with them
abbrev pub messages_noted : MessageTimes → List MessageRow → List HeardAt
messages_noted times [] = []
messages_noted times (row ∷ rows) = message_noted times row ++ messages_noted (message_known times row) rows

-- what is heard with all rows, and at the end
abbrev pub all_messages_noted : RecordingSetup → List MessageRow → List HeardAt
all_messages_noted setup rows = messages_noted (no_messages setup) rows ++ silence_noted (silence_behind (messages_known (no_messages setup) rows))

-- a message begins neither before the one above it, nor within one above it (`begins_within`), and their order is clear
abbrev pub ComesBehind : MessageTimes → MessageRow → Type 0
ComesBehind times row = (times.begin ≤ row.time.nanos) × (begins_within times row ≡ false) × (has_unclear_begin times row ≡ false)

-- so does each of these
abbrev pub ComeBehind : MessageTimes → List MessageRow → Type 0
ComeBehind times [] = Unit {0}
ComeBehind times (row ∷ rows) = ComesBehind times row × ComeBehind (message_known times row) rows

-- just this is heard of these records of a table
abbrev pub IsHeardOf : TableLayout → RecordingSetup → List (List (List ℕ)) → List HeardAt → Type 0
IsHeardOf (Words columns) setup records ns = (rows : List WordRow) × AreWordRows columns records rows × AreApart (hearing_first setup) rows × (ns ≡ words_noted setup rows)
IsHeardOf (Messages columns) setup records ns = (rows : List MessageRow) × AreMessageRows columns records rows × ComeBehind (no_messages setup) rows × (ns ≡ all_messages_noted setup rows)

-- just this is heard of these records of a table that goes on
abbrev pub IsHeardSoFar : TableLayout → RecordingSetup → List (List (List ℕ)) → List HeardAt → Type 0
IsHeardSoFar (Words columns) setup records ns = (rows : List WordRow) × AreWordRows columns records rows × AreApart (hearing_first setup) rows × (ns ≡ words_begun setup rows)
IsHeardSoFar (Messages columns) setup records ns = (rows : List MessageRow) × AreMessageRows columns records rows × ComeBehind (no_messages setup) rows × (ns ≡ messages_noted (no_messages setup) rows)

-- what the rows of a table are, by its header
abbrev pub layout_of : {R : Type 0} → MonitorTable R → TableLayout
layout_of table = table.layout

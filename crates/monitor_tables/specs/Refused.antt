-- Why a row is refused, and the recording ends early: the fault of its record, with the column of that.
use Rattle.std.specs.Prelude.{ℕ, ◌≡◌, ◌<◌, ◌⊎◌, Bool, true, false, List, [], ◌∷◌, ◌++◌, length, Option, Some, None, ⊤}
use Rattle.std.specs.Io.KnownBytes.{Appends}
use Rattle.monitor_cells.specs.declared.seen.WordRow.{WordRow}
use Rattle.monitor_cells.specs.declared.setup.RecordingSetup.{RecordingSetup}
use Rattle.monitor_cells.specs.Cells.{IsTime, bus_said, sync_said, word_said, words_listed, is_some_text}
use Rattle.monitor_tables.specs.declared.fault.EarlyEnd.{EarlyEnd}
use Rattle.monitor_tables.specs.declared.fault.EarlyEnd.TheVariants.{Refused, Write}
use Rattle.monitor_tables.specs.declared.fault.MonitorFault.{MonitorFault}
use Rattle.monitor_tables.specs.declared.fault.MonitorFault.TheVariants as fault
use Rattle.monitor_tables.specs.declared.header.TableLayout.{TableLayout}
use Rattle.monitor_tables.specs.declared.header.TableLayout.TheVariants.{Words, Messages}
use Rattle.monitor_tables.specs.declared.hearing.Hearing.{Hearing}
use Rattle.monitor_tables.specs.declared.message_times.MessageTimes.{MessageTimes}
use Rattle.monitor_tables.specs.declared.messages.MessageColumns.{MessageColumns}
use Rattle.monitor_tables.specs.declared.messages.MessageRow.{MessageRow}
use Rattle.monitor_tables.specs.declared.records.TableRecords.{TableRecords}
use Rattle.monitor_tables.specs.declared.words.WordColumns.{WordColumns}
use Rattle.monitor_tables.specs.Fields.{record_text, field_placed, IsExtraField, IsRecordFault}
use Rattle.monitor_tables.specs.Hearing.{hearing_first, overlaps, is_early, has_unclear_order}
use Rattle.monitor_tables.specs.Messages.{no_messages, begins_within, has_unclear_begin}
use Rattle.monitor_tables.specs.Recording.{HeardAt, AreNotable, early_text}
use Rattle.monitor_tables.specs.Rows.{IsHeardSoFar, has_error_in, IsWordRow, IsMessageRow, AreWordRows, AreMessageRows, rows_known, messages_known}
use Rattle.monitor_tables.specs.Table.{TellsFront}

-- ---- words

-- why a record, on a line, is no row that is a word
abbrev pub IsNoWordRow : WordColumns → List (List ℕ) → ℕ → MonitorFault → Type 0
IsNoWordRow columns fields line (fault.Extra place) = (n : ℕ) × (place ≡ field_placed line n) × IsExtraField fields columns.width n
IsNoWordRow columns fields line (fault.Time place) = (place ≡ field_placed line columns.time) × (IsTime (record_text fields columns.time) → ⊥)
IsNoWordRow columns fields line (fault.Bus place) = (place ≡ field_placed line columns.bus) × (bus_said (record_text fields columns.bus) ≡ None)
IsNoWordRow columns fields line (fault.Sync place) =
    (place ≡ field_placed line columns.sync) × (has_error_in fields columns.error ≡ false) × (sync_said (record_text fields columns.sync) ≡ None)
IsNoWordRow columns fields line (fault.Word place) =
    (place ≡ field_placed line columns.word) × (has_error_in fields columns.error ≡ false) × (word_said (record_text fields columns.word) ≡ None)
IsNoWordRow columns fields line _ = ⊥

-- why the word of a row can't come behind those above it
abbrev pub IsMisplacedWord : WordColumns → Hearing → ℕ → WordRow → MonitorFault → Type 0
IsMisplacedWord columns h line row (fault.Overlap place) = (place ≡ field_placed line columns.time) × (overlaps h row ≡ true)
IsMisplacedWord columns h line row (fault.Order place) = (place ≡ field_placed line columns.time) × (is_early h row ≡ true)
IsMisplacedWord columns h line row (fault.UnclearOrder place) = (place ≡ field_placed line columns.time) × (has_unclear_order h row ≡ true)
IsMisplacedWord columns h line row _ = ⊥

-- why a record is refused behind these words
abbrev pub IsRefusedWord : WordColumns → Hearing → List (List ℕ) → ℕ → MonitorFault → Type 0
IsRefusedWord columns h fields line fault =
    IsNoWordRow columns fields line fault ⊎ ((row : WordRow) × IsWordRow columns fields row × IsMisplacedWord columns h line row fault)

-- ---- messages

-- a message is to have a word in this field: it's that of the command, or there is text in it
abbrev pub HasWordField : MessageColumns → List (List ℕ) → ℕ → Type 0
HasWordField columns fields field =
    (field ≡ columns.command)
    ⊎ ((is_some_text (record_text fields field) ≡ true) × ((columns.command2 ≡ Some field) ⊎ ((columns.status ≡ Some field) ⊎ (columns.status2 ≡ Some field))))

-- why a record, on a line, is no row that is a message; a refused growth of memory says nothing of it
abbrev pub IsNoMessageRow : MessageColumns → List (List ℕ) → ℕ → MonitorFault → Type 0
IsNoMessageRow columns fields line (fault.Extra place) = (n : ℕ) × (place ≡ field_placed line n) × IsExtraField fields columns.width n
IsNoMessageRow columns fields line (fault.Unclear place) =
    (field : ℕ) × (columns.error ≡ Some field) × (place ≡ field_placed line field) × (has_error_in fields columns.error ≡ true)
IsNoMessageRow columns fields line (fault.Time place) = (place ≡ field_placed line columns.time) × (IsTime (record_text fields columns.time) → ⊥)
IsNoMessageRow columns fields line (fault.Bus place) = (place ≡ field_placed line columns.bus) × (bus_said (record_text fields columns.bus) ≡ None)
IsNoMessageRow columns fields line (fault.Word place) =
    (field : ℕ) × HasWordField columns fields field × (place ≡ field_placed line field) × (word_said (record_text fields field) ≡ None)
IsNoMessageRow columns fields line (fault.Words place) =
    (field : ℕ) × (columns.words ≡ Some field) × (place ≡ field_placed line field) × (words_listed (record_text fields field) ≡ None)
IsNoMessageRow columns fields line fault.Memory = ⊤
IsNoMessageRow columns fields line _ = ⊥

-- why the message of a row can't come behind those above it
abbrev pub IsMisplacedMessage : MessageColumns → MessageTimes → ℕ → MessageRow → MonitorFault → Type 0
IsMisplacedMessage columns times line row (fault.Order place) = (place ≡ field_placed line columns.time) × (row.time.nanos < times.begin)
IsMisplacedMessage columns times line row (fault.Within place) = (place ≡ field_placed line columns.time) × (begins_within times row ≡ true)
IsMisplacedMessage columns times line row (fault.UnclearOrder place) = (place ≡ field_placed line columns.time) × (has_unclear_begin times row ≡ true)
IsMisplacedMessage columns times line row _ = ⊥

-- why a record is refused behind these messages
abbrev pub IsRefusedMessage : MessageColumns → MessageTimes → List (List ℕ) → ℕ → MonitorFault → Type 0
IsRefusedMessage columns times fields line fault =
    IsNoMessageRow columns fields line fault ⊎ ((row : MessageRow) × IsMessageRow columns fields row × IsMisplacedMessage columns times line row fault)

-- ---- tables

-- why a record is refused behind these of a table
abbrev pub IsRefusedBehind : TableLayout → RecordingSetup → List (List (List ℕ)) → List (List ℕ) → ℕ → MonitorFault → Type 0
IsRefusedBehind (Words columns) setup told fields line fault =
    (rows : List WordRow) × AreWordRows columns told rows × IsRefusedWord columns (rows_known (hearing_first setup) rows) fields line fault
IsRefusedBehind (Messages columns) setup told fields line fault =
    (rows : List MessageRow) × AreMessageRows columns told rows × IsRefusedMessage columns (messages_known (no_messages setup) rows) fields line fault

-- no record was read: of one that has a line feed in a field, nothing is told
abbrev pub IsUnreadFault : MonitorFault → Type 0
IsUnreadFault fault = (fields : List (List ℕ)) × IsRecordFault fields fault

-- why no record is taken behind those told of a table: none was read, or the next one is refused
abbrev pub RefusesNext : {R : Type 0} → (R → Option (List ℕ)) → TableLayout → RecordingSetup → TableRecords R → List (List (List ℕ)) → ℕ → MonitorFault → Type 0
RefusesNext remaining layout setup t told line fault =
    IsUnreadFault fault ⊎ ((fields : List (List ℕ)) × TellsFront remaining t (told ++ fields ∷ []) × IsRefusedBehind layout setup told fields line fault)

-- Why a recording ends early. Just what is heard of the first rows was written, and the line that says which row was refused and how many were
-- written, and the next one has this fault; or the sink failed.
abbrev pub EndsEarly : {R W : Type 0} → (R → Option (List ℕ)) → (W → Option (List ℕ)) → (W → Bool) → TableLayout → RecordingSetup → TableRecords R → W → W → EarlyEnd → Type 0
EndsEarly remaining written has_failed layout setup t w w' (Refused it) =
    (told : List (List (List ℕ))) × TellsFront remaining t told × (it.rows ≡ length told) × RefusesNext remaining layout setup t told it.row it.fault
    × (ns : List HeardAt) × IsHeardSoFar layout setup told ns × AreNotable ns × Appends (written w) (written w') (early_text ns it)
EndsEarly remaining written has_failed layout setup t w w' Write = has_failed w' ≡ true

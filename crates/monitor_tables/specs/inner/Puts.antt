-- What was written of what was heard.
use Rattle.std.specs.Prelude.{ℕ, ◌≡◌, ◌⊎◌, List, [], ◌∷◌, ◌++◌, length, Option, MatchOption, IfSome, true}
use Rattle.std.specs.Io.KnownBytes.{Appends}
use Rattle.monitor_tables.specs.declared.header.TableLayout.{TableLayout}
use Rattle.monitor_cells.specs.Cells.{is_time_text}
use Rattle.monitor_tables.specs.declared.hearing.Hearing.{Hearing}
use Rattle.monitor_tables.specs.declared.message_times.MessageTimes.{MessageTimes}
use Rattle.monitor_tables.specs.declared.messages.MessageColumns.{MessageColumns}
use Rattle.monitor_tables.specs.declared.messages.MessageRow.{MessageRow}
use Rattle.monitor_cells.specs.declared.setup.RecordingSetup.{RecordingSetup}
use Rattle.monitor_tables.specs.declared.words.WordColumns.{WordColumns}
use Rattle.monitor_cells.specs.declared.seen.WordRow.{WordRow}
use Rattle.monitor_tables.specs.declared.fault.MonitorFault.{MonitorFault}
use Rattle.monitor_tables.specs.declared.recording.RowsPut.{RowsPut}
use Rattle.monitor_tables.specs.declared.records.TableRecords.{TableRecords}
use Rattle.monitor_tables.specs.Table.{TellsAll, TellsFront}
use Rattle.monitor_tables.specs.Refused.{IsUnreadFault, IsRefusedWord, IsRefusedMessage, RefusesNext}
use Rattle.monitor_tables.specs.Rows.{AreWordRows, AreApart, AreMessageRows, ComeBehind, rows_known, rows_noted, messages_known, messages_noted, IsHeardOf, IsHeardSoFar}
use Rattle.monitor_tables.specs.Recording.{HeardAt, recording_text, AreNotable}

-- just the lines of these were written
pub record PutsNoted {W : Type 0} (written : W → Option (List ℕ)) (w w' : W) (ns : List HeardAt) : Type 0 where
  pub notable : AreNotable ns
  pub text : Appends (written w) (written w') (recording_text ns)

-- the word that is held back, if there is one, has the text of a time
abbrev pub HasText : Hearing → Type 0
HasText h = IfSome h.held (λ row. is_time_text row.time.text.bytes ≡ true)

-- these records were read as words, and just what is heard with them was written
pub record WordsSoFar {W : Type 0} (written : W → Option (List ℕ)) (columns : WordColumns) (records : List (List (List ℕ))) (h g : Hearing) (w w' : W) : Type 0 where
  pub rows : List WordRow
  pub are : AreWordRows columns records rows
  pub apart : AreApart h rows
  pub puts : PutsNoted written w w' (rows_noted h rows)
  pub known : g ≡ rows_known h rows
  pub timed : HasText g

-- these records were read as messages, and just what is heard with them was written
pub record MessagesSoFar {W : Type 0} (written : W → Option (List ℕ)) (columns : MessageColumns) (records : List (List (List ℕ))) (t u : MessageTimes) (w w' : W) : Type 0 where
  pub rows : List MessageRow
  pub are : AreMessageRows columns records rows
  pub behind : ComeBehind t rows
  pub puts : PutsNoted written w w' (messages_noted t rows)
  pub known : u ≡ messages_known t rows

-- so many records of a table were told: all, or the first of them, and then a fault came
abbrev pub ToldTo : {R : Type 0} → (R → Option (List ℕ)) → TableRecords R → List (List (List ℕ)) → RowsPut → Type 0
ToldTo remaining t told put = (put.rows ≡ length told) × MatchOption put.fault (TellsAll remaining t told) (λ _. TellsFront remaining t told)

-- the fault that came: no record was read, or the next one is refused behind the words that were heard
abbrev pub WordsRefused : {R : Type 0} → (R → Option (List ℕ)) → WordColumns → Hearing → TableRecords R → List (List (List ℕ)) → RowsPut → Type 0
WordsRefused remaining columns g t told put = IfSome put.fault (λ fault.
    IsUnreadFault fault ⊎ ((fields : List (List ℕ)) × TellsFront remaining t (told ++ fields ∷ []) × IsRefusedWord columns g fields put.line fault))

-- the same of messages
abbrev pub MessagesRefused : {R : Type 0} → (R → Option (List ℕ)) → MessageColumns → MessageTimes → TableRecords R → List (List (List ℕ)) → RowsPut → Type 0
MessagesRefused remaining columns u t told put = IfSome put.fault (λ fault.
    IsUnreadFault fault ⊎ ((fields : List (List ℕ)) × TellsFront remaining t (told ++ fields ∷ []) × IsRefusedMessage columns u fields put.line fault))

-- this is all that is heard of a table, or of its first rows, and then a fault came
abbrev pub IsHeardTo : TableLayout → RecordingSetup → List (List (List ℕ)) → List HeardAt → Option MonitorFault → Type 0
IsHeardTo layout setup records ns fault = MatchOption fault (IsHeardOf layout setup records ns) (λ _. IsHeardSoFar layout setup records ns)

-- just what is heard of so many records of a table was written
pub record PutsRows {R W : Type 0} (remaining : R → Option (List ℕ)) (written : W → Option (List ℕ)) (layout : TableLayout) (setup : RecordingSetup) (t : TableRecords R) (w w' : W) (put : RowsPut) : Type 0 where
  pub told : List (List (List ℕ))
  pub to : ToldTo remaining t told put
  pub refused : IfSome put.fault (RefusesNext remaining layout setup t told put.line)
  pub ns : List HeardAt
  pub heard : IsHeardTo layout setup told ns put.fault
  pub puts : PutsNoted written w w' ns

-- What reading a record does to what was told of a table.
use Rattle.std.specs.Prelude.{ℕ, ◌≡◌, ◌⊎◌, Bool, true, false, Option, List, [], ◌∷◌, ◌++◌}
use Rattle.csv.specs.Records.{fields_of}
use Rattle.monitor_tables.specs.declared.fault.MonitorFault.{MonitorFault}
use Rattle.monitor_tables.specs.declared.hearing.Hearing.{Hearing}
use Rattle.monitor_tables.specs.declared.message_times.MessageTimes.{MessageTimes}
use Rattle.monitor_tables.specs.declared.messages.MessageColumns.{MessageColumns}
use Rattle.monitor_tables.specs.declared.records.TableRecords.{TableRecords}
use Rattle.monitor_tables.specs.declared.words.WordColumns.{WordColumns}
use Rattle.monitor_tables.specs.Fields.{IsRecordFault}
use Rattle.monitor_tables.specs.Refused.{IsRefusedWord, IsRefusedMessage}
use Rattle.monitor_tables.specs.Table.{is_some_record, told_of, HasTold, TellsAll}

-- these records were told
abbrev pub TellsMore : {R : Type 0} → (R → Option (List ℕ)) → TableRecords R → TableRecords R → List (List (List ℕ)) → Type 0
TellsMore remaining old new records = (text : List ℕ) (told : List (List (List ℕ))) → HasTold remaining text told old → HasTold remaining text (told ++ records) new

-- one record was read, or none was left
abbrev pub ReadsOne : {R : Type 0} → (R → Option (List ℕ)) → TableRecords R → TableRecords R → Bool → Type 0
ReadsOne remaining old new true = TellsMore remaining old new (told_of (fields_of new.row))
ReadsOne remaining old new false = TellsAll remaining old []

-- the next record that has text was read, or none was left
abbrev pub ReadsNext : {R : Type 0} → (R → Option (List ℕ)) → TableRecords R → TableRecords R → Bool → Type 0
ReadsNext remaining old new true = (is_some_record (fields_of new.row) ≡ true) × TellsMore remaining old new (fields_of new.row ∷ [])
ReadsNext remaining old new false = TellsAll remaining old []

-- no record could be read, or the next one is refused behind these words
abbrev pub RefusesWord : {R : Type 0} → (R → Option (List ℕ)) → WordColumns → Hearing → TableRecords R → TableRecords R → MonitorFault → Type 0
RefusesWord remaining columns h old new fault =
    IsRecordFault (fields_of new.row) fault ⊎ (TellsMore remaining old new (fields_of new.row ∷ []) × IsRefusedWord columns h (fields_of new.row) new.line fault)

-- or behind these messages
abbrev pub RefusesMessage : {R : Type 0} → (R → Option (List ℕ)) → MessageColumns → MessageTimes → TableRecords R → TableRecords R → MonitorFault → Type 0
RefusesMessage remaining columns times old new fault =
    IsRecordFault (fields_of new.row) fault ⊎ (TellsMore remaining old new (fields_of new.row ∷ []) × IsRefusedMessage columns times (fields_of new.row) new.line fault)

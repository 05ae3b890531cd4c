-- Which faults the fields of a record have.
use Rattle.std.specs.Prelude.{ℕ, ◌≡◌, ◌⊎◌, true, List, Option, Some, None}
use Rattle.monitor_cells.specs.Cells.{IsTime, bus_said, word_said, words_listed, is_some_text}
use Rattle.monitor_tables.specs.declared.fault.MonitorFault.{MonitorFault}
use Rattle.monitor_tables.specs.declared.fault.MonitorFault.TheVariants.{Time, Bus, Word, Words, Unclear, Memory}
use Rattle.monitor_tables.specs.Fields.{record_text, field_placed}
use Rattle.monitor_tables.specs.Rows.{has_error_in}

-- a field, on a line, is no time
abbrev pub IsNoTimeField : List (List ℕ) → ℕ → ℕ → MonitorFault → Type 0
IsNoTimeField fields line field fault = (fault ≡ Time (field_placed line field)) × (IsTime (record_text fields field) → ⊥)

-- it is no bus
abbrev pub IsNoBusField : List (List ℕ) → ℕ → ℕ → MonitorFault → Type 0
IsNoBusField fields line field fault = (fault ≡ Bus (field_placed line field)) × (bus_said (record_text fields field) ≡ None)

-- it is no word
abbrev pub IsNoWordField : List (List ℕ) → ℕ → ℕ → MonitorFault → Type 0
IsNoWordField fields line field fault = (fault ≡ Word (field_placed line field)) × (word_said (record_text fields field) ≡ None)

-- there is such a column, its field has text, and is no word
abbrev pub IsNoSomeWord : List (List ℕ) → ℕ → Option ℕ → MonitorFault → Type 0
IsNoSomeWord fields line column fault =
    (field : ℕ) × (column ≡ Some field) × (is_some_text (record_text fields field) ≡ true) × IsNoWordField fields line field fault

-- there is such a column, and its field is no list of words; or memory ran out
abbrev pub IsNoWords : List (List ℕ) → ℕ → Option ℕ → MonitorFault → Type 0
IsNoWords fields line column fault =
    (fault ≡ Memory) ⊎ ((field : ℕ) × (column ≡ Some field) × (fault ≡ Words (field_placed line field)) × (words_listed (record_text fields field) ≡ None))

-- there is such a column, and its field tells an error
abbrev pub IsUnclear : List (List ℕ) → ℕ → Option ℕ → MonitorFault → Type 0
IsUnclear fields line column fault = (field : ℕ) × (column ≡ Some field) × (fault ≡ Unclear (field_placed line field)) × (has_error_in fields column ≡ true)

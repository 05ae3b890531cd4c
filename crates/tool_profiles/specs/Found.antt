-- The statuses of what is found in texts.
use Rattle.std.specs.Prelude.{ℕ, ◌≡◌, ◌≤◌, ◌⊎◌, ◌↔◌, ◌==◌, if◌then◌else◌, List, Option, Some, None, is_some, length}
use Rattle.std.specs.List.{list_any}
use Rattle.bus_legal.specs.Parts.{Parts}
use Rattle.rt1553.specs.Load.{Reaches}
use Rattle.rt1553_lint.specs.declared.finding.Finding.{Finding}
use Rattle.rt1553_import.specs.declared.fault.FaultyTable.{FaultyTable}
use Rattle.rt1553_import.specs.Import.{IsImported, HasFaults}

-- the status of what is found in a text: 2 where one is an error, else 1 where there is a warning, else 0
abbrev pub findings_status : List Finding → ℕ
findings_status fs = if list_any (λ f. is_some f.fault) fs then 2 else if length fs == 0 then 0 else 1

-- a table gives this text of a profile, or none, and has faults
abbrev pub IsReadTable : List ℕ → Option (List ℕ) → Type 0
IsReadTable table (Some text) = IsImported table text
IsReadTable table None = (faulty : FaultyTable) × HasFaults table faulty

-- `import` ends with 0 where a table gives a profile, and with 2 where it has faults
abbrev pub EndsImport : List ℕ → ℕ → Type 0
EndsImport table status = ((text : List ℕ) × IsImported table text × (status ≡ 0)) ⊎ ((faulty : FaultyTable) × HasFaults table faulty × (status ≡ 2))

-- `import --check` ends with 0 where a table gives a profile and this is what can be reached of its terminal, with 1 where it is not, and with 2
-- where the table has faults
abbrev pub EndsCheck : List ℕ → Parts → ℕ → Type 0
EndsCheck table q status =
    ((text : List ℕ) × (p : Parts) × IsImported table text × Reaches text p × (status ≤ 1) × ((status ≡ 0) ↔ (p ≡ q)))
    ⊎ ((faulty : FaultyTable) × HasFaults table faulty × (status ≡ 2))

-- What a table becomes: a profile, or its faults.
use Rattle.std.specs.Prelude.{◌≡◌, ◌<◌, ◌≤◌, ℕ, List, [], length}
use Rattle.bus_legal.specs.declared.profile.Profile.{Profile}
use Rattle.bus_legal.specs.Plain.{plain}
use Rattle.bus_profile.specs.Gives.{profile_of}
use Rattle.bus_profile.specs.Read.{Accepts}
use Rattle.rt1553_import.specs.declared.fault.FaultyTable.{FaultyTable}
use Rattle.rt1553_import.specs.declared.fault.ImportFault.{ImportFault}
use Rattle.rt1553_import.specs.declared.fault.ImportFault.TheVariants.{Faults, LongNames}
use Rattle.rt1553_import.specs.declared.sheet.Sheet.{Sheet}
use Rattle.rt1553_import.specs.NoTable.{IsNoTable}
use Rattle.rt1553_import.specs.Reading.{IsSheetOf}
use Rattle.rt1553_import.specs.Tree.{table_tree}
use Rattle.rt1553_import.specs.Places.{reported_faults}

-- the text is a table, this one, and no fault is reported of it
pub record IsFaultless (table : List ℕ) (sheet : Sheet) : Type 0 where
  pub read : IsSheetOf table sheet
  pub faultless : reported_faults sheet ≡ []

-- the text is an accepted profile text, and its profile is the one that the table says
pub record SaysTable (sheet : Sheet) (text : List ℕ) : Type 0 where
  pub profile : Profile
  pub accepts : Accepts text profile
  pub gives : plain profile ≡ profile_of (table_tree sheet)

-- the table has no fault, and the profile text says what it says, and is no larger than such a text may be
pub record IsImported (table profile_text : List ℕ) : Type 0 where
  pub sheet : Sheet
  pub is : IsFaultless table sheet
  pub says : SaysTable sheet profile_text
  pub few : length profile_text ≤ 1048576

-- the table has no fault, but its profile text, with the names, is larger
pub record HasLongNames (table : List ℕ) : Type 0 where
  pub sheet : Sheet
  pub is : IsFaultless table sheet
  pub profile_text : List ℕ
  pub says : SaysTable sheet profile_text
  pub many : 1048576 < length profile_text

-- this is the table, with all the faults that are reported of it, and there is one
pub record HasFaults (table : List ℕ) (faulty : FaultyTable) : Type 0 where
  pub read : IsSheetOf table faulty.sheet
  pub all : faulty.faults.items ≡ reported_faults faulty.sheet
  pub some : 0 < length faulty.faults.items

-- why a table is refused: its faults, or that it is no table; want of memory says nothing of it
abbrev pub IsTableRefused : List ℕ → ImportFault → Type 0
IsTableRefused table (Faults faulty) = HasFaults table faulty
IsTableRefused table fault = IsNoTable table fault

-- why no profile is made of a table: it is refused, or its names are too long
abbrev pub IsImportRefused : List ℕ → ImportFault → Type 0
IsImportRefused table (LongNames place) = HasLongNames table
IsImportRefused table fault = IsTableRefused table fault

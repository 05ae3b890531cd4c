-- Where in a table the faults of its profile stand.
use Rattle.std.specs.Prelude.{ℕ, ◌-◌, ◌==◌, ◌||◌, ◌&&◌, nat_lt, not, Bool, true, false, List, ◌++◌, map, filter, find, reverse, Option, Some, None, option_map, slice_get, codes}
use Rattle.std.specs.List.{list_any}
use Rattle.std.specs.Result.{result_unwrap_or}
use Rattle.std.specs.Str.{str_eq_ignore_ascii_case}
use Rattle.bus_word.specs.Mask.{has_bit}
use Rattle.bus_profile.specs.declared.fault.Key.{Key}
use Rattle.bus_profile.specs.declared.fault.Key.TheVariants as key
use Rattle.bus_profile.specs.declared.fault.Part.{Part}
use Rattle.bus_profile.specs.declared.fault.Part.TheVariants as part
use Rattle.bus_profile.specs.declared.fault.ProfileFault.{ProfileFault}
use Rattle.bus_profile.specs.declared.fault.ProfileFault.TheVariants.{Missing, WrongKind, OutOfRange, BadRanges, TooMany, RequiredCode}
use Rattle.bus_profile.specs.AllFaults.{told_faults}
use Rattle.bus_profile.specs.RangesOf.{ranges_of}
use Rattle.rt1553_import.specs.declared.column.TableColumn.{TableColumn}
use Rattle.rt1553_import.specs.declared.column.TableColumn.TheVariants as column
use Rattle.rt1553_import.specs.declared.kind.RowKind.TheVariants as kind
use Rattle.csv_rows.specs.declared.place.CellPlace.{CellPlace}
use Rattle.rt1553_import.specs.declared.fault.TableFault.{TableFault}
use Rattle.rt1553_import.specs.declared.fault.TableFaultKind.{TableFaultKind}
use Rattle.rt1553_import.specs.declared.fault.TableFaultKind.TheVariants as fault
use Rattle.rt1553_import.specs.declared.sheet.Sheet.{Sheet}
use Rattle.rt1553_import.specs.declared.sheet.TableRow.{TableRow}
use Rattle.rt1553_import.specs.declared.tree.Entry.{Entry}
use Rattle.rt1553_import.specs.declared.tree.Entry.TheVariants as entry
use Rattle.rt1553_import.specs.Cells.{cell_number}
use Rattle.rt1553_import.specs.Columns.{cell, row_place}
use Rattle.rt1553_import.specs.Tree.{is_entry, entry_rows, setting_row, table_tree}
use Rattle.rt1553_import.specs.TableFaults.{table_faults}

-- the row that became the entry of this number, from 1
abbrev pub entry_row : Sheet → Entry → ℕ → Option TableRow
entry_row sheet e number = slice_get (entry_rows sheet e) (number - 1)

-- the row that has a key of the root; of an array that is too long the row of its first entry beyond
abbrev pub root_row : Sheet → Key → Option TableRow
root_row sheet key.Address = setting_row sheet kind.Address
root_row sheet key.Broadcast = setting_row sheet kind.Broadcast
root_row sheet key.Wraparound = setting_row sheet kind.Wraparound
root_row sheet key.AcceptBusControl = setting_row sheet kind.AcceptBusControl
root_row sheet key.Vector = setting_row sheet kind.Vector
root_row sheet key.Bit = setting_row sheet kind.Bit
root_row sheet key.Rule = entry_row sheet entry.Rule 257
root_row sheet key.Mode = entry_row sheet entry.Mode 257
root_row sheet key.Initial = entry_row sheet entry.Initial 257
root_row sheet _ = None

-- the row that became a part of the profile
abbrev pub part_row : Sheet → Part → Key → Option TableRow
part_row sheet part.Root k = root_row sheet k
part_row sheet (part.Rule n) k = entry_row sheet entry.Rule n
part_row sheet (part.Mode n) k = entry_row sheet entry.Mode n
part_row sheet (part.Initial n) k = entry_row sheet entry.Initial n

-- the column from which a key comes
abbrev pub key_column : Key → TableColumn
key_column key.Rule = column.Kind
key_column key.Mode = column.Kind
key_column key.Direction = column.Kind
key_column key.Initial = column.Initial
key_column key.To = column.To
key_column key.Subaddresses = column.Subaddress
key_column key.Subaddress = column.Subaddress
key_column key.Counts = column.Words
key_column key.Legal = column.Legal
key_column key.Codes = column.Code
key_column key.At = column.Initial
key_column key.Words = column.Initial
key_column _ = column.Value

-- the place of a row in a column, where there is a row
abbrev pub place_in : Sheet → Option TableRow → TableColumn → Option CellPlace
place_in sheet row c = option_map (λ r. row_place sheet r c) row

-- where a key of a part of the profile comes from
abbrev pub key_place : Sheet → Part → Key → Option CellPlace
key_place sheet p k = place_in sheet (part_row sheet p k) (key_column k)

-- the text of mode codes, whose number this is, has a code
abbrev pub names_code : ℕ → List ℕ → Option ℕ → Bool
names_code code text (Some number) = number == code
names_code code text None = nat_lt code 32 && has_bit (result_unwrap_or (ranges_of 0 31 text) 0) code

-- the row of mode codes speaks of this own code
abbrev pub has_own_code : Sheet → ℕ → TableRow → Bool
has_own_code sheet code row =
    (is_entry sheet entry.Mode row && not (str_eq_ignore_ascii_case (cell sheet row column.To) (codes "broadcast")))
    && names_code code (cell sheet row column.Code) (cell_number (cell sheet row column.Code))

-- the row that says whether an own code is legal: the last that speaks of it
abbrev pub code_row : Sheet → ℕ → Option TableRow
code_row sheet code = find (has_own_code sheet code) (reverse sheet.rows.items)

-- where a fault of the profile stands; one that is of no row has no place
abbrev pub fault_place : Sheet → ProfileFault → Option CellPlace
fault_place sheet (Missing p k) = key_place sheet p k
fault_place sheet (WrongKind p k) = key_place sheet p k
fault_place sheet (OutOfRange p k) = key_place sheet p k
fault_place sheet (BadRanges p k) = key_place sheet p k
fault_place sheet (TooMany p k) = key_place sheet p k
fault_place sheet (RequiredCode code) = place_in sheet (code_row sheet code) column.Legal
fault_place sheet _ = None

-- a fault of the profile as a fault of the table, at its place
abbrev pub placed_fault : Sheet → ProfileFault → TableFault
placed_fault sheet f = record { place = fault_place sheet f; kind = fault.Profile f }

-- With such a fault of the header no row says anything.
abbrev pub hides_all : TableFaultKind → Bool
hides_all (fault.NoColumn c) = true
hides_all (fault.TwoColumns c) = true
hides_all _ = false

-- With such a fault of a row it is not known which of its fields is which.
abbrev pub hides_row : TableFaultKind → Bool
hides_row fault.Fields = true
hides_row _ = false

-- both places are in one row, and in one column if the row alone is not enough
abbrev pub shares_place : Bool → Option CellPlace → Option CellPlace → Bool
shares_place by_row (Some a) (Some b) = (a.row == b.row) && (by_row || (a.column == b.column))
shares_place by_row _ _ = false

-- A fault of the table hides the faults of the profile in its own cell, in its row, or all of them.
abbrev pub hides : TableFault → TableFault → Bool
hides t f = hides_all t.kind || shares_place (hides_row t.kind) t.place f.place

-- one of these faults hides it
abbrev pub is_hidden : List TableFault → TableFault → Bool
is_hidden ts f = list_any (λ t. hides t f) ts

-- the faults of the profile that the table says, each at its place, but for those that these hide
abbrev pub profile_faults : Sheet → List TableFault → List TableFault
profile_faults sheet ts = filter (λ f. not (is_hidden ts f)) (map (placed_fault sheet) (told_faults (table_tree sheet)))

-- all faults that are reported of a table: its own, and then those of the profile that it says
abbrev pub reported_faults : Sheet → List TableFault
reported_faults sheet = table_faults sheet ++ profile_faults sheet (table_faults sheet)

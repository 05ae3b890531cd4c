-- The full table has no fault.
use Rattle.std.proofs.Common.{◌≡◌, ℕ, ◌+◌, ◌^◌, ◌<◌, ◌≤◌, ◌==◌, ◌||◌, ◌&&◌, nat_lt, Bool, true, false, not, cond, is_none, Option, Some, None, List, [], ◌∷◌, ◌++◌, map, filter, length, get_or, codes, refl, ap, ◌∙◌, inl, inr, arith}
use Rattle.std.proofs.lemmas.Bool.Decides.{nat_tests}
use Rattle.std.specs.List.{flat_map, zip}
use Rattle.std.specs.Str.{str_eq_ignore_ascii_case, trim}
use Rattle.toml.specs.Data.{Data, string}
use Rattle.toml.specs.View.{items_of}
use Rattle.bus_profile.specs.AllFaults.{failing, HasShortArrays, told_faults}
use Rattle.bus_profile.specs.Checks.{Check, HasNoFault}
use Rattle.bus_profile.specs.Faults.{faults}
use Rattle.bus_profile.specs.Kinds.{count_items}
use Rattle.bus_profile.proofs.AllFaults.{told_all}
use Rattle.bus_legal.specs.Parts.{Parts, IsNormal}
use Rattle.rt1553_import.specs.declared.column.TableColumn.{TableColumn}
use Rattle.rt1553_import.specs.declared.column.TableColumn.TheVariants as column
use Rattle.rt1553_import.specs.declared.fault.TableFault.{TableFault}
use Rattle.rt1553_import.specs.declared.fault.TableFaultKind.TheVariants as fault
use Rattle.rt1553_import.specs.declared.kind.RowKind.{RowKind}
use Rattle.rt1553_import.specs.declared.kind.RowKind.TheVariants as kind
use Rattle.rt1553_import.specs.declared.sheet.Sheet.{Sheet}
use Rattle.rt1553_import.specs.declared.sheet.TableRow.{TableRow}
use Rattle.rt1553_import.specs.Cells.{has_no_text, cell_number, cell_words}
use Rattle.rt1553_import.specs.Columns.{column_name, all_columns, place_from, cell, row_place}
use Rattle.rt1553_import.specs.Kinds.{kind_name, row_kind, is_setting, takes}
use Rattle.rt1553_import.specs.Reading.{row_fields}
use Rattle.rt1553_import.specs.Tree.{table_tree}
use Rattle.rt1553_import.specs.Places.{placed_fault, is_hidden, reported_faults}
use Rattle.rt1553_import.specs.TableFaults.{fault_where, fault_if_any, second_fault, column_fault_by, column_fault, header_faults, is_set_in, kind_fault, initial_fault, taken_fault, cell_fault, kind_faults, last_place, row_faults, rows_faults, or_others, table_faults}
use Rattle.rt1553_toml.specs.Sets.{two_digits}
use Rattle.rt1553_toml.specs.inner.FullTree.{from_number, initial_data, rules_by, modes_by, initials_by, full_tree}
use Rattle.rt1553_toml.proofs.TreeFaults.{AllIn, AllIn-append, IsMask32, all_masks, from_number_in, own_mode_fits, broadcast_mode_fits, rules_few, length-from_number, count_items_of, full_tree_faultless}
use Rattle.rt1553_export.specs.inner.Rows.{header_cells, setting_cells}
use Rattle.rt1553_export.specs.inner.Full.{yes_no, word_cell, wrap_cell, words_cell, receive_row, transmit_row, mode_codes_row, all_messages, all_codes, full_rows}
use Rattle.rt1553_export.proofs.Trimmed.{IsPlain, plain_by, trim_plain, trim_nothing}
use Rattle.rt1553_export.proofs.CellValues.{two_number}
use Rattle.rt1553_export.proofs.FullSheet.{row_of, row_made, Says, column_place, place_is, cell_is}
use Rattle.rt1553_export.proofs.FullEntries.{IsHeld, IsWordCell, two_cell, set_cell, truth_cell, own_cell, broadcast_cell, receive_cell, transmit_cell, mode_plain, block_cell}
use Rattle.rt1553_export.proofs.FullTable.{all_held, zip_long, setting_at, setting_kind, address_says, wrap_is, vector_says, bit_says, full_table_tree}

-- ---- the tree has none

none_failing : (checks : List Check) → HasNoFault checks → failing checks ≡ []
none_failing [] h = refl
none_failing (c ∷ cs) h = ap (λ b. cond b (c.fault ∷ failing cs) (failing cs)) (h c (inl refl)) ∙ none_failing cs (λ d among. h d (inr among))

few_items : (ds : List Data) → length ds ≤ 256 → nat_lt 256 (count_items (items_of ds)) ≡ false
few_items ds few = let short : nat_lt 256 (length ds) ≡ false = grind (arith, nat_tests) in ap (nat_lt 256) (count_items_of ds) ∙ short

short_arrays : (v : Parts) → IsNormal v → HasShortArrays (full_tree v)
short_arrays v is = record {
  rules = few_items (rules_by v.tables) (omega (arith, rules_few v is));
  modes = few_items (modes_by v.tables) (omega arith);
  initials = few_items (initials_by v.initial) (omega (arith, length-from_number initial_data 1 v.initial, is.words.thirty));
}

tree_faultless : (v : Parts) → IsNormal v → told_faults (full_tree v) ≡ []
tree_faultless v is = told_all (full_tree v) (short_arrays v is) ∙ none_failing (faults (full_tree v)) (full_tree_faultless v is)

-- ---- the header has none

flat_none : (f : TableColumn → Option TableFault) (cs : List TableColumn) → ((c : TableColumn) → f c ≡ None) → flat_map (λ c. fault_if_any (f c)) cs ≡ []
flat_none f [] h = refl
flat_none f (c ∷ cs) h = λ j. fault_if_any (h c j) ++ flat_none f cs h j

no_second : (c : TableColumn) → place_from (column_name c) (column_place c + 1) header_cells ≡ None
no_second column.Kind = refl
no_second column.Value = refl
no_second column.Subaddress = refl
no_second column.Words = refl
no_second column.Code = refl
no_second column.To = refl
no_second column.Initial = refl
no_second column.Legal = refl
no_second column.Name = refl

module _ (s : Sheet) (header : row_fields s.header ≡ header_cells) where
  one_column : (c : TableColumn) → column_fault s c ≡ None
  one_column c = ap (column_fault_by s c) (place_is s header c) ∙ ap (second_fault s c) (ap (place_from (column_name c) (column_place c + 1)) header ∙ no_second c)

  header_faultless : header_faults s ≡ []
  header_faultless = flat_none (column_fault s) all_columns one_column

  -- ---- a row without fault

  row_faultless : (before : List TableRow) (row : TableRow) (fs : List (List ℕ)) (k : RowKind) → row_fields row ≡ fs → (length fs == 9) ≡ true → row_kind (cell s row column.Kind) ≡ Some k
      → ((c : TableColumn) → cell_fault s before row k c ≡ None) → row_faults s before row ≡ []
  row_faultless before row fs k e nine is all =
      ap (λ b. cond b (kind_faults s before row (row_kind (cell s row column.Kind))) (fault_where (last_place s row) fault.Fields ∷ [])) long ∙ columns
    where
      long : (length (row_fields row) == length (row_fields s.header)) ≡ true
      long = (λ j. length (e j) == length (header j)) ∙ nine

      columns : kind_faults s before row (row_kind (cell s row column.Kind)) ≡ []
      columns = ap (kind_faults s before row) is ∙ flat_none (cell_fault s before row k) all_columns all

  empty_cell : (before : List TableRow) (row : TableRow) (k : RowKind) (c : TableColumn) → cell s row c ≡ [] → cell_fault s before row k c ≡ None
  empty_cell before row k c e = ap (λ t. cond (has_no_text t) None (cond (takes k c) (taken_fault s before row k c) (Some (fault_where (row_place s row c) (fault.NotTaken c))))) e

  taken_cell : (before : List TableRow) (row : TableRow) (k : RowKind) (c : TableColumn) → takes k c ≡ true → taken_fault s before row k c ≡ None → cell_fault s before row k c ≡ None
  taken_cell before row k c t e = pick (has_no_text (cell s row c))
    where
      pick : (b : Bool) → cond b None (cond (takes k c) (taken_fault s before row k c) (Some (fault_where (row_place s row c) (fault.NotTaken c)))) ≡ None
      pick true = refl
      pick false = ap (λ b. cond b (taken_fault s before row k c) (Some (fault_where (row_place s row c) (fault.NotTaken c)))) t ∙ e

  abbrev IsFaultless : List (List ℕ) → Type 0
  IsFaultless fs = (before : List TableRow) → row_faults s before (row_of fs) ≡ []

  -- ---- settings

  none_set : (k : RowKind) (settings : List (List ℕ × List ℕ)) → AllIn (λ x. IsPlain x.0 × (trim x.1 ≡ x.1) × (str_eq_ignore_ascii_case x.0 (kind_name k) ≡ false)) settings → (v : Parts) (is : IsNormal v) → is_set_in s k (map (λ x. row_of (setting_cells x.0 x.1)) settings) ≡ false
  none_set k [] h v is = refl
  none_set k (x ∷ xs) h v is = λ j. (setting_kind s header v is x.0 x.1 k h.0.0 h.0.1 ∙ h.0.2) j || none_set k xs h.1 v is j

  setting_faultless : (v : Parts) (is : IsNormal v) (before : List TableRow) (k : RowKind) (value : List ℕ) → IsPlain (kind_name k) → trim value ≡ value → is_setting k ≡ true → row_kind (kind_name k) ≡ Some k → takes k column.Value ≡ true → is_set_in s k before ≡ false
      → row_faults s before (row_of (setting_cells (kind_name k) value)) ≡ []
  setting_faultless v is before k value plain trimmed setting named taken fresh = row_faultless before (row_of (setting_cells (kind_name k) value)) (setting_cells (kind_name k) value) k (row_made (setting_cells (kind_name k) value)) refl (ap row_kind (at column.Kind) ∙ named) columns
    where
      at : (c : TableColumn) → cell s (row_of (setting_cells (kind_name k) value)) c ≡ get_or (setting_cells (kind_name k) value) (column_place c) []
      at c = setting_at s header v is (kind_name k) value c plain trimmed

      once : kind_fault s before (row_of (setting_cells (kind_name k) value)) k ≡ None
      once = λ j. cond (setting j && fresh j) (Some (fault_where (row_place s (row_of (setting_cells (kind_name k) value)) column.Kind) fault.Twice)) None

      columns : (c : TableColumn) → cell_fault s before (row_of (setting_cells (kind_name k) value)) k c ≡ None
      columns column.Kind = taken_cell before (row_of (setting_cells (kind_name k) value)) k column.Kind refl once
      columns column.Value = taken_cell before (row_of (setting_cells (kind_name k) value)) k column.Value taken refl
      columns column.Subaddress = empty_cell before (row_of (setting_cells (kind_name k) value)) k column.Subaddress (at column.Subaddress)
      columns column.Words = empty_cell before (row_of (setting_cells (kind_name k) value)) k column.Words (at column.Words)
      columns column.Code = empty_cell before (row_of (setting_cells (kind_name k) value)) k column.Code (at column.Code)
      columns column.To = empty_cell before (row_of (setting_cells (kind_name k) value)) k column.To (at column.To)
      columns column.Initial = empty_cell before (row_of (setting_cells (kind_name k) value)) k column.Initial (at column.Initial)
      columns column.Legal = empty_cell before (row_of (setting_cells (kind_name k) value)) k column.Legal (at column.Legal)
      columns column.Name = empty_cell before (row_of (setting_cells (kind_name k) value)) k column.Name (at column.Name)

  -- ---- messages of data

  receive_faultless : (to : List ℕ) → IsWordCell to → (n mask : ℕ) → n ≤ 30 → mask < 2 ^ 32 → IsFaultless (receive_row to n mask)
  receive_faultless to t n mask l fits before = row_faultless before (row_of (receive_row to n mask)) (receive_row to n mask) kind.Receive (row_made (receive_row to n mask)) refl (ap row_kind (at column.Kind)) columns
    where
      at : (c : TableColumn) → cell s (row_of (receive_row to n mask)) c ≡ get_or (receive_row to n mask) (column_place c) []
      at c = cell_is s header (row_of (receive_row to n mask)) (receive_row to n mask) (row_made (receive_row to n mask))
          (receive_cell.trimmed, (trim_nothing, ((two_cell n (omega arith)).trimmed, ((set_cell 1 mask (omega arith) fits).trimmed, (trim_nothing, (t.says.trimmed, (trim_nothing, ((truth_cell (not (mask == 0))).trimmed, (trim_nothing, tt))))))))) c

      columns : (c : TableColumn) → cell_fault s before (row_of (receive_row to n mask)) kind.Receive c ≡ None
      columns column.Kind = taken_cell before (row_of (receive_row to n mask)) kind.Receive column.Kind refl refl
      columns column.Value = empty_cell before (row_of (receive_row to n mask)) kind.Receive column.Value (at column.Value)
      columns column.Subaddress = taken_cell before (row_of (receive_row to n mask)) kind.Receive column.Subaddress refl refl
      columns column.Words = taken_cell before (row_of (receive_row to n mask)) kind.Receive column.Words refl refl
      columns column.Code = empty_cell before (row_of (receive_row to n mask)) kind.Receive column.Code (at column.Code)
      columns column.To = taken_cell before (row_of (receive_row to n mask)) kind.Receive column.To refl refl
      columns column.Initial = empty_cell before (row_of (receive_row to n mask)) kind.Receive column.Initial (at column.Initial)
      columns column.Legal = taken_cell before (row_of (receive_row to n mask)) kind.Receive column.Legal refl refl
      columns column.Name = empty_cell before (row_of (receive_row to n mask)) kind.Receive column.Name (at column.Name)

  transmit_faultless : (n : ℕ) (held : ℕ × List ℕ) → n ≤ 30 → IsHeld held → IsFaultless (transmit_row n held)
  transmit_faultless n held l h before = row_faultless before (row_of (transmit_row n held)) (transmit_row n held) kind.Transmit (row_made (transmit_row n held)) refl (ap row_kind (at column.Kind)) columns
    where
      at : (c : TableColumn) → cell s (row_of (transmit_row n held)) c ≡ get_or (transmit_row n held) (column_place c) []
      at c = cell_is s header (row_of (transmit_row n held)) (transmit_row n held) (row_made (transmit_row n held))
          (transmit_cell.trimmed, (trim_nothing, ((two_cell n (omega arith)).trimmed, ((set_cell 1 held.0 (omega arith) h.0).trimmed, (trim_nothing, (own_cell.says.trimmed, (trim_plain (words_cell held.1) (block_cell held.1 h.1).plain, ((truth_cell (not (held.0 == 0))).trimmed, (trim_nothing, tt))))))))) c

      number : cell_number (cell s (row_of (transmit_row n held)) column.Subaddress) ≡ Some n
      number = ap cell_number (at column.Subaddress) ∙ two_number n (omega arith)

      words : cell_words (cell s (row_of (transmit_row n held)) column.Initial) ≡ Some held.1
      words = ap cell_words (at column.Initial) ∙ (block_cell held.1 h.1).read

      initial : initial_fault s (row_of (transmit_row n held)) ≡ None
      initial = λ j. cond (is_none (number j)) (Some (fault_where (row_place s (row_of (transmit_row n held)) column.Subaddress) fault.OneSubaddress))
          (cond (is_none (words j)) (Some (fault_where (row_place s (row_of (transmit_row n held)) column.Initial) fault.NotWords)) None)

      columns : (c : TableColumn) → cell_fault s before (row_of (transmit_row n held)) kind.Transmit c ≡ None
      columns column.Kind = taken_cell before (row_of (transmit_row n held)) kind.Transmit column.Kind refl refl
      columns column.Value = empty_cell before (row_of (transmit_row n held)) kind.Transmit column.Value (at column.Value)
      columns column.Subaddress = taken_cell before (row_of (transmit_row n held)) kind.Transmit column.Subaddress refl refl
      columns column.Words = taken_cell before (row_of (transmit_row n held)) kind.Transmit column.Words refl refl
      columns column.Code = empty_cell before (row_of (transmit_row n held)) kind.Transmit column.Code (at column.Code)
      columns column.To = taken_cell before (row_of (transmit_row n held)) kind.Transmit column.To refl refl
      columns column.Initial = taken_cell before (row_of (transmit_row n held)) kind.Transmit column.Initial refl initial
      columns column.Legal = taken_cell before (row_of (transmit_row n held)) kind.Transmit column.Legal refl refl
      columns column.Name = empty_cell before (row_of (transmit_row n held)) kind.Transmit column.Name (at column.Name)

  -- ---- mode codes

  codes_faultless : (to : List ℕ) → IsWordCell to → (mask : ℕ) → mask < 2 ^ 32 → IsFaultless (mode_codes_row to mask)
  codes_faultless to t mask fits before = row_faultless before (row_of (mode_codes_row to mask)) (mode_codes_row to mask) kind.Mode (row_made (mode_codes_row to mask)) refl (ap row_kind (at column.Kind)) columns
    where
      at : (c : TableColumn) → cell s (row_of (mode_codes_row to mask)) c ≡ get_or (mode_codes_row to mask) (column_place c) []
      at c = cell_is s header (row_of (mode_codes_row to mask)) (mode_codes_row to mask) (row_made (mode_codes_row to mask))
          (trim_plain (codes "mode") mode_plain, (trim_nothing, (trim_nothing, (trim_nothing, ((set_cell 0 mask (omega arith) fits).trimmed, (t.says.trimmed, (trim_nothing, ((truth_cell (not (mask == 0))).trimmed, (trim_nothing, tt))))))))) c

      columns : (c : TableColumn) → cell_fault s before (row_of (mode_codes_row to mask)) kind.Mode c ≡ None
      columns column.Kind = taken_cell before (row_of (mode_codes_row to mask)) kind.Mode column.Kind refl refl
      columns column.Value = empty_cell before (row_of (mode_codes_row to mask)) kind.Mode column.Value (at column.Value)
      columns column.Subaddress = empty_cell before (row_of (mode_codes_row to mask)) kind.Mode column.Subaddress (at column.Subaddress)
      columns column.Words = empty_cell before (row_of (mode_codes_row to mask)) kind.Mode column.Words (at column.Words)
      columns column.Code = taken_cell before (row_of (mode_codes_row to mask)) kind.Mode column.Code refl refl
      columns column.To = taken_cell before (row_of (mode_codes_row to mask)) kind.Mode column.To refl refl
      columns column.Initial = empty_cell before (row_of (mode_codes_row to mask)) kind.Mode column.Initial (at column.Initial)
      columns column.Legal = taken_cell before (row_of (mode_codes_row to mask)) kind.Mode column.Legal refl refl
      columns column.Name = empty_cell before (row_of (mode_codes_row to mask)) kind.Mode column.Name (at column.Name)

  -- ---- all rows

  rows_step : (before rows : List TableRow) (row : TableRow) → row_faults s before row ≡ [] → rows_faults s (before ++ row ∷ []) rows ≡ [] → rows_faults s before (row ∷ rows) ≡ []
  rows_step before rows row a b = λ j. a j ++ b j

  rest_faultless : (fs : List (List (List ℕ))) → AllIn IsFaultless fs → (before : List TableRow) → rows_faults s before (map row_of fs) ≡ []
  rest_faultless [] h before = refl
  rest_faultless (f ∷ fs) h before = rows_step before (map row_of fs) (row_of f) (h.0 before) (rest_faultless fs h.1 (before ++ row_of f ∷ []))

  module _ (v : Parts) (is : IsNormal v) where
    messages_faultless : AllIn IsFaultless (all_messages v)
    messages_faultless =
        AllIn-append IsFaultless (from_number (receive_row (codes "own")) 1 v.tables.own_receive) (from_number transmit_row 1 (zip v.tables.own_transmit v.initial) ++ from_number (receive_row (codes "broadcast")) 1 v.tables.broadcast_receive)
        (from_number_in IsMask32 IsFaultless (receive_row (codes "own")) (λ n mask low l fits. receive_faultless (codes "own") own_cell n mask l fits) 1 v.tables.own_receive (omega arith) (omega (arith, is.own_receive.thirty)) (all_masks v.tables.own_receive is.own_receive))
        (AllIn-append IsFaultless (from_number transmit_row 1 (zip v.tables.own_transmit v.initial)) (from_number (receive_row (codes "broadcast")) 1 v.tables.broadcast_receive)
        (from_number_in IsHeld IsFaultless transmit_row (λ n held low l h. transmit_faultless n held l h) 1 (zip v.tables.own_transmit v.initial) (omega arith) (omega (arith, zip_long s header v is)) (all_held s header v is))
        (from_number_in IsMask32 IsFaultless (receive_row (codes "broadcast")) (λ n mask low l fits. receive_faultless (codes "broadcast") broadcast_cell n mask l fits) 1 v.tables.broadcast_receive (omega arith) (omega (arith, is.broadcast_receive.thirty)) (all_masks v.tables.broadcast_receive is.broadcast_receive)))

    others_faultless : AllIn IsFaultless (all_messages v ++ all_codes v.tables)
    others_faultless =
        AllIn-append IsFaultless (all_messages v) (all_codes v.tables) messages_faultless
        (codes_faultless (codes "own") own_cell v.tables.own_mode (own_mode_fits v is), (codes_faultless (codes "broadcast") broadcast_cell v.tables.broadcast_mode (broadcast_mode_fits v is), tt))

    abbrev others : List TableRow
    others = map row_of (all_messages v ++ all_codes v.tables)

    -- a setting whose kind is known, behind settings of other kinds
    next_setting : (k : RowKind) (value : List ℕ) (settings : List (List ℕ × List ℕ)) (rows : List TableRow) → IsPlain (kind_name k) → trim value ≡ value → is_setting k ≡ true → row_kind (kind_name k) ≡ Some k → takes k column.Value ≡ true
        → AllIn (λ x. IsPlain x.0 × (trim x.1 ≡ x.1) × (str_eq_ignore_ascii_case x.0 (kind_name k) ≡ false)) settings
        → rows_faults s (map (λ x. row_of (setting_cells x.0 x.1)) settings ++ row_of (setting_cells (kind_name k) value) ∷ []) rows ≡ []
        → rows_faults s (map (λ x. row_of (setting_cells x.0 x.1)) settings) (row_of (setting_cells (kind_name k) value) ∷ rows) ≡ []
    next_setting k value settings rows plain trimmed setting named taken other more =
        rows_step (map (λ x. row_of (setting_cells x.0 x.1)) settings) rows (row_of (setting_cells (kind_name k) value))
        (setting_faultless v is (map (λ x. row_of (setting_cells x.0 x.1)) settings) k value plain trimmed setting named taken (none_set k settings other v is)) more

    abbrev address_pair : List ℕ × List ℕ
    address_pair = (codes "address", two_digits v.address)

    abbrev broadcast_pair : List ℕ × List ℕ
    broadcast_pair = (codes "broadcast", yes_no v.broadcast)

    abbrev wraparound_pair : List ℕ × List ℕ
    wraparound_pair = (codes "wraparound", wrap_cell v.wrap)

    abbrev accept_pair : List ℕ × List ℕ
    accept_pair = (codes "accept_bus_control", yes_no v.accept)

    abbrev vector_pair : List ℕ × List ℕ
    vector_pair = (codes "vector", word_cell v.vector)

    address_fine : IsPlain (codes "address")
    address_fine = plain_by (codes "address") refl

    broadcast_fine : IsPlain (codes "broadcast")
    broadcast_fine = plain_by (codes "broadcast") refl

    wraparound_fine : IsPlain (codes "wraparound")
    wraparound_fine = plain_by (codes "wraparound") refl

    accept_fine : IsPlain (codes "accept_bus_control")
    accept_fine = plain_by (codes "accept_bus_control") refl

    vector_fine : IsPlain (codes "vector")
    vector_fine = plain_by (codes "vector") refl

    all_faultless : rows_faults s [] (map row_of (full_rows v)) ≡ []
    all_faultless =
        let a = (address_says s header v is).trimmed in
        let b = (truth_cell v.broadcast).trimmed in
        let w = (wrap_is s header v is).trimmed in
        let c = (truth_cell v.accept).trimmed in
        let x = (vector_says s header v is).trimmed in
        let y = (bit_says s header v is).trimmed in
        next_setting kind.Address (two_digits v.address) [] (map row_of (setting_cells (codes "broadcast") (yes_no v.broadcast) ∷ setting_cells (codes "wraparound") (wrap_cell v.wrap) ∷ setting_cells (codes "accept_bus_control") (yes_no v.accept) ∷ setting_cells (codes "vector") (word_cell v.vector) ∷ setting_cells (codes "bit") (word_cell v.bit) ∷ []) ++ others) address_fine a refl refl refl tt
        (next_setting kind.Broadcast (yes_no v.broadcast) (address_pair ∷ []) (map row_of (setting_cells (codes "wraparound") (wrap_cell v.wrap) ∷ setting_cells (codes "accept_bus_control") (yes_no v.accept) ∷ setting_cells (codes "vector") (word_cell v.vector) ∷ setting_cells (codes "bit") (word_cell v.bit) ∷ []) ++ others) broadcast_fine b refl refl refl
        ((address_fine, a, refl), tt)
        (next_setting kind.Wraparound (wrap_cell v.wrap) (address_pair ∷ broadcast_pair ∷ []) (map row_of (setting_cells (codes "accept_bus_control") (yes_no v.accept) ∷ setting_cells (codes "vector") (word_cell v.vector) ∷ setting_cells (codes "bit") (word_cell v.bit) ∷ []) ++ others) wraparound_fine w refl refl refl
        ((address_fine, a, refl), ((broadcast_fine, b, refl), tt))
        (next_setting kind.AcceptBusControl (yes_no v.accept) (address_pair ∷ broadcast_pair ∷ wraparound_pair ∷ []) (map row_of (setting_cells (codes "vector") (word_cell v.vector) ∷ setting_cells (codes "bit") (word_cell v.bit) ∷ []) ++ others) accept_fine c refl refl refl
        ((address_fine, a, refl), ((broadcast_fine, b, refl), ((wraparound_fine, w, refl), tt)))
        (next_setting kind.Vector (word_cell v.vector) (address_pair ∷ broadcast_pair ∷ wraparound_pair ∷ accept_pair ∷ []) (row_of (setting_cells (codes "bit") (word_cell v.bit)) ∷ others) vector_fine x refl refl refl
        ((address_fine, a, refl), ((broadcast_fine, b, refl), ((wraparound_fine, w, refl), ((accept_fine, c, refl), tt))))
        (next_setting kind.Bit (word_cell v.bit) (address_pair ∷ broadcast_pair ∷ wraparound_pair ∷ accept_pair ∷ vector_pair ∷ []) others (plain_by (codes "bit") refl) y refl refl refl
        ((address_fine, a, refl), ((broadcast_fine, b, refl), ((wraparound_fine, w, refl), ((accept_fine, c, refl), ((vector_fine, x, refl), tt)))))
        (rest_faultless (all_messages v ++ all_codes v.tables) others_faultless _))))))

    pub full_table_faultless : s.rows.items ≡ map row_of (full_rows v) → reported_faults s ≡ []
    unfolding table_faults
    full_table_faultless rows =
        let header_none = header_faultless in
        let rows_none : rows_faults s [] s.rows.items ≡ [] = ap (rows_faults s []) rows ∙ all_faultless in
        let tree_none : map (placed_fault s) (told_faults (table_tree s)) ≡ [] = ap (λ t. map (placed_fault s) (told_faults t)) (full_table_tree s header v is rows) ∙ ap (map (placed_fault s)) (tree_faultless v is) in
        let table_none : table_faults s ≡ [] = (λ j. or_others (header_none j) (rows_none j)) in
        (λ j. table_none j ++ filter (λ f. not (is_hidden (table_none j) f)) (tree_none j))

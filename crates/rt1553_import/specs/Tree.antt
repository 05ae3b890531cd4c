-- The tree of a table: the profile that it says, as the tree of a TOML document.
use Rattle.std.specs.Prelude.{ℕ, Bool, true, false, not, ◌||◌, ◌&&◌, if◌then◌else◌, pos, List, [], ◌∷◌, map, filter, Option, Some, None, codes}
use Rattle.std.specs.List.{find}
use Rattle.std.specs.Ordering.{nat_cmp, match_ordering}
use Rattle.std.specs.Cmp.Lexicographic.{slice_cmp}
use Rattle.std.specs.Str.{str_to_ascii_lowercase, str_eq_ignore_ascii_case}
use Rattle.toml.specs.Data.{Data, integer, array, table, Members, no_members, member}
use Rattle.toml.specs.View.{items_of}
use Rattle.rt1553_import.specs.declared.column.TableColumn.TheVariants as column
use Rattle.rt1553_import.specs.declared.kind.RowKind.{RowKind}
use Rattle.rt1553_import.specs.declared.kind.RowKind.TheVariants as kind
use Rattle.rt1553_import.specs.declared.sheet.Sheet.{Sheet}
use Rattle.rt1553_import.specs.declared.sheet.TableRow.{TableRow}
use Rattle.rt1553_import.specs.declared.tree.Entry.{Entry}
use Rattle.rt1553_import.specs.declared.tree.Entry.TheVariants as entry
use Rattle.rt1553_import.specs.Columns.{cell}
use Rattle.rt1553_import.specs.Kinds.{kind_name}
use Rattle.rt1553_import.specs.Cells.{has_no_text, cell_words, cell_value}

-- ---- which rows become what

-- the row is of this kind, in any capitals
abbrev pub is_kind : Sheet → RowKind → TableRow → Bool
is_kind sheet k row = str_eq_ignore_ascii_case (cell sheet row column.Kind) (kind_name k)

-- the row becomes such an entry: each message of data a rule, and each transmit row with initial words an initial entry too
abbrev pub is_entry : Sheet → Entry → TableRow → Bool
is_entry sheet entry.Rule row = (is_kind sheet kind.Receive row || is_kind sheet kind.Transmit row) || is_kind sheet kind.Both row
is_entry sheet entry.Mode row = is_kind sheet kind.Mode row
is_entry sheet entry.Initial row = is_kind sheet kind.Transmit row && not (has_no_text (cell sheet row column.Initial))

-- ---- tables

-- the members with a value at a key, which stands in the order of the keys
abbrev pub member_put : List ℕ → Data → Members → Members
member_put k d no_members = member k d no_members
member_put k d (member l e ms) = match_ordering (slice_cmp nat_cmp k l) (member k d (member l e ms)) (member l d ms) (member l e (member_put k d ms))

-- the value of a text at a key, where there is a text
abbrev pub with_text : List ℕ → List ℕ → Members → Members
with_text key text ms = if has_no_text text then ms else member_put key (cell_value text) ms

-- a text with small letters in place of capitals, at a key, where there is a text
abbrev pub with_small_text : List ℕ → List ℕ → Members → Members
with_small_text key text ms = with_text key (str_to_ascii_lowercase text) ms

-- the list is empty
abbrev pub has_none : List Data → Bool
has_none [] = true
has_none (d ∷ ds) = false

-- entries at a key, where there are any
abbrev pub with_entries : List ℕ → List Data → Members → Members
with_entries key ds ms = if has_none ds then ms else member_put key (array (items_of ds)) ms

-- ---- rows as entries

-- to which address the commands of a row go, and whether they are legal
abbrev pub with_scope : Sheet → TableRow → Members → Members
with_scope sheet row ms = with_text (codes "legal") (cell sheet row column.Legal) (with_small_text (codes "to") (cell sheet row column.To) ms)

-- a message of data, as a rule
abbrev pub rule_entry_data : Sheet → TableRow → Data
rule_entry_data sheet row =
    table (with_scope sheet row
    (with_text (codes "counts") (cell sheet row column.Words)
    (with_text (codes "subaddresses") (cell sheet row column.Subaddress)
    (with_small_text (codes "direction") (cell sheet row column.Kind) no_members))))

-- mode codes, as a mode entry
abbrev pub mode_entry_data : Sheet → TableRow → Data
mode_entry_data sheet row =
    table (with_scope sheet row (with_text (codes "codes") (cell sheet row column.Code) no_members))

-- a word as an integer of TOML
abbrev pub word_value : ℕ → Data
word_value word = integer (pos word)

-- each of the words as an integer; none where there is no list of words
abbrev pub each_word : Option (List ℕ) → List Data
each_word None = []
each_word (Some words) = map word_value words

-- the words of a text; none where it is no list of words
abbrev pub words_data : List ℕ → List Data
words_data text = each_word (cell_words text)

-- initial words, as an initial entry
abbrev pub initial_entry_data : Sheet → TableRow → Data
initial_entry_data sheet row =
    table (member_put (codes "words") (array (items_of (words_data (cell sheet row column.Initial))))
    (with_text (codes "subaddress") (cell sheet row column.Subaddress) no_members))

-- what a row becomes as an entry of this kind
abbrev pub entry_data : Sheet → Entry → TableRow → Data
entry_data sheet entry.Rule row = rule_entry_data sheet row
entry_data sheet entry.Mode row = mode_entry_data sheet row
entry_data sheet entry.Initial row = initial_entry_data sheet row

-- the rows that become such entries, in their order
abbrev pub entry_rows : Sheet → Entry → List TableRow
entry_rows sheet e = filter (is_entry sheet e) sheet.rows.items

-- all entries of this kind, in the order of their rows
abbrev pub entries_of : Sheet → Entry → List Data
entries_of sheet e = map (entry_data sheet e) (entry_rows sheet e)

-- ---- the tree

-- the first row of this kind
abbrev pub setting_row : Sheet → RowKind → Option TableRow
setting_row sheet k = find (is_kind sheet k) sheet.rows.items

-- the text of a row in the column `value`; empty without a row
abbrev pub value_in : Sheet → Option TableRow → List ℕ
value_in sheet None = []
value_in sheet (Some row) = cell sheet row column.Value

-- the text of the value of a setting: none where no row has it
abbrev pub setting_text : Sheet → RowKind → List ℕ
setting_text sheet k = value_in sheet (setting_row sheet k)

-- the value of a setting at its key
abbrev pub with_setting : Sheet → RowKind → Members → Members
with_setting sheet k ms = with_text (kind_name k) (setting_text sheet k) ms

-- all settings, each at its key
abbrev pub with_settings : Sheet → Members → Members
with_settings sheet ms =
    with_setting sheet kind.Bit (with_setting sheet kind.Vector (with_setting sheet kind.AcceptBusControl
    (with_setting sheet kind.Wraparound (with_setting sheet kind.Broadcast (with_setting sheet kind.Address ms)))))

-- all entries, in their three arrays
abbrev pub with_arrays : Sheet → Members → Members
with_arrays sheet ms =
    with_entries (codes "initial") (entries_of sheet entry.Initial) (with_entries (codes "mode") (entries_of sheet entry.Mode)
    (with_entries (codes "rule") (entries_of sheet entry.Rule) ms))

-- the settings of a table and its entries, each at its key
unfoldable pub table_tree : Sheet → Members
table_tree sheet = with_arrays sheet (with_settings sheet no_members)

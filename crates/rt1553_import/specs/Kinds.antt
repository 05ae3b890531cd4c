-- What the rows of a table are, and which columns each kind takes.
use Rattle.std.specs.Prelude.{ℕ, Bool, true, false, not, List, [], ◌∷◌, Option, codes}
use Rattle.std.specs.List.{find}
use Rattle.std.specs.Str.{str_eq_ignore_ascii_case}
use Rattle.rt1553_import.specs.declared.column.TableColumn.{TableColumn}
use Rattle.rt1553_import.specs.declared.column.TableColumn.TheVariants as column
use Rattle.rt1553_import.specs.declared.kind.RowKind.{RowKind}
use Rattle.rt1553_import.specs.declared.kind.RowKind.TheVariants as kind

-- the text that names the kind
abbrev pub kind_name : RowKind → List ℕ
kind_name kind.Address = codes "address"
kind_name kind.Broadcast = codes "broadcast"
kind_name kind.Wraparound = codes "wraparound"
kind_name kind.AcceptBusControl = codes "accept_bus_control"
kind_name kind.Vector = codes "vector"
kind_name kind.Bit = codes "bit"
kind_name kind.Receive = codes "receive"
kind_name kind.Transmit = codes "transmit"
kind_name kind.Both = codes "both"
kind_name kind.Mode = codes "mode"

-- the words that the column `kind` may have
abbrev pub all_kinds : List RowKind
all_kinds = kind.Address ∷ kind.Broadcast ∷ kind.Wraparound ∷ kind.AcceptBusControl ∷ kind.Vector ∷ kind.Bit ∷ kind.Receive ∷ kind.Transmit ∷ kind.Both ∷ kind.Mode ∷ []

-- the kind that a text names, in any capitals
abbrev pub row_kind : List ℕ → Option RowKind
row_kind text = find (λ k. str_eq_ignore_ascii_case text (kind_name k)) all_kinds

-- a message of data
abbrev pub is_message : RowKind → Bool
is_message kind.Receive = true
is_message kind.Transmit = true
is_message kind.Both = true
is_message _ = false

-- a key of the profile that holds one value
abbrev pub is_setting : RowKind → Bool
is_setting kind.Receive = false
is_setting kind.Transmit = false
is_setting kind.Both = false
is_setting kind.Mode = false
is_setting _ = true

-- a row of mode codes
abbrev pub is_mode_kind : RowKind → Bool
is_mode_kind kind.Mode = true
is_mode_kind _ = false

-- a row of messages that the terminal transmits
abbrev pub is_transmit : RowKind → Bool
is_transmit kind.Transmit = true
is_transmit _ = false

-- a row of this kind may have text in this column
abbrev pub takes : RowKind → TableColumn → Bool
takes k column.Kind = true
takes k column.Name = true
takes k column.Value = is_setting k
takes k column.Subaddress = is_message k
takes k column.Words = is_message k
takes k column.Code = is_mode_kind k
takes k column.To = not (is_setting k)
takes k column.Legal = not (is_setting k)
takes k column.Initial = is_transmit k

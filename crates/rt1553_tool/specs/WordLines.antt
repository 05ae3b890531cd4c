-- The language of lines that say a word of the bus. A form is read from the left: the first part that isn't what is wanted
-- in its place is the fault.
use Rattle.std.specs.Prelude.{ℕ, ◌+◌, ◌*◌, ◌%◌, Bool, true, false, ◌&&◌, ◌||◌, nat_le, nat_lt, if◌then◌else◌, List, [], ◌∷◌, codes, drop, length, Option, Some, None, Result, Ok, Err}
use Rattle.std.specs.List.{slice_get, list_any}
use Rattle.std.specs.Str.{bytes_eq}
use Rattle.bus_word.specs.declared.mode.ModeRow.{ModeRow}
use Rattle.bus_word.specs.declared.word.Kind.{Kind}
use Rattle.bus_word.specs.declared.word.Kind.TheVariants as kind
use Rattle.bus_word.specs.Word.{bit_of, valid_word}
use Rattle.bus_word.specs.Mode.{mode_row}
use Rattle.script_lines.specs.Digits.{number_of}
use Rattle.script_lines.specs.Line.{bits_in}
use Rattle.rt1553_tool.specs.Parts.{line_parts}
use Rattle.rt1553_tool.specs.Fields.{command_fields_in, status_in}
use Rattle.rt1553_tool.specs.declared.fields.WordFields.{WordFields}
use Rattle.rt1553_tool.specs.declared.fields.WordFields.TheVariants.{Command, Status, Data}
use Rattle.rt1553_tool.specs.declared.fields.StatusFields.{StatusFields}
use Rattle.rt1553_tool.specs.declared.word_lines.WordLine.{WordLine}
use Rattle.rt1553_tool.specs.declared.word_lines.WordLineFault.{WordLineFault}
use Rattle.rt1553_tool.specs.declared.word_lines.WordLineFault.TheVariants.{Long, Name, Address, Subaddress, Count, Code, Direction, ModeSubaddress, Bit, Digits, Parity, Much}

-- the fields that a line says, and whether it says them by their names, or by the word's digits
pub record SaidWord : Type 0 where
  pub fields : WordFields
  pub by_fields : Bool

infixl 10 ◌>>=◌
-- what follows, unless there is a fault
abbrev pub ◌>>=◌ : {A B : Type 0} → Result A WordLineFault → (A → Result B WordLineFault) → Result B WordLineFault
Err fault >>= f = Err fault
Ok x >>= f = f x

-- the part is this word
abbrev pub is_word : List ℕ → Option (List ℕ) → Bool
is_word word None = false
is_word word (Some part) = bytes_eq part word

-- one or two decimal digits
abbrev pub small_number : List ℕ → Option ℕ
small_number (d ∷ []) = number_of 48 d
small_number (t ∷ d ∷ []) = number_of t d
small_number _ = None

-- a number in these bounds
abbrev pub within : ℕ → ℕ → WordLineFault → Option ℕ → Result ℕ WordLineFault
within least most fault None = Err fault
within least most fault (Some n) = if nat_le least n && nat_le n most then Ok n else Err fault

-- the part is to be a number in these bounds
abbrev pub number_part : ℕ → ℕ → WordLineFault → Option (List ℕ) → Result ℕ WordLineFault
number_part least most fault None = Err fault
number_part least most fault (Some part) = within least most fault (small_number part)

-- an address, 0 to 30, or `all`, which is 31
abbrev pub address_part : Option (List ℕ) → Result ℕ WordLineFault
address_part part = if is_word (codes "all") part then Ok 31 else number_part 0 30 Address part

-- the word; or a fault, where no four hexadecimal digits are there
abbrev pub or_digits : Option ℕ → Result ℕ WordLineFault
or_digits None = Err Digits
or_digits (Some bits) = Ok bits

-- four hexadecimal digits
abbrev pub digits_part : Option (List ℕ) → Result ℕ WordLineFault
digits_part None = Err Digits
digits_part (Some part) = or_digits (bits_in part)

-- there are no more parts than these
abbrev pub ended_at : {A : Type 0} → ℕ → List (List ℕ) → A → Result A WordLineFault
ended_at count parts said = if nat_lt count (length parts) then Err Much else Ok said

-- `rx A S N` and `tx A S N`: a count of 32 is a field of 0
abbrev pub transfer_line : Bool → List (List ℕ) → Result WordFields WordLineFault
transfer_line transmit parts = do
  address ← address_part (slice_get parts 1)
  subaddress ← number_part 1 30 Subaddress (slice_get parts 2)
  count ← number_part 1 32 Count (slice_get parts 3)
  ended_at 4 parts (Command (record { address = address; transmit = transmit; subaddress = subaddress; low = count % 32 }))

-- T/R as the table of mode codes has it
abbrev pub listed_direction : Option ModeRow → Result Bool WordLineFault
listed_direction None = Err Direction
listed_direction (Some row) = Ok row.transmit

-- `tx` or `rx`; where nothing follows the code, what the table has
abbrev pub direction_part : ℕ → Option (List ℕ) → Result Bool WordLineFault
direction_part code None = listed_direction (mode_row code)
direction_part code (Some part) =
    if bytes_eq part (codes "tx") then Ok true
    else if bytes_eq part (codes "rx") then Ok false
    else Err Direction

-- `0` or `31`, and 0 where nothing follows
abbrev pub mode_subaddress_part : Option (List ℕ) → Result ℕ WordLineFault
mode_subaddress_part None = Ok 0
mode_subaddress_part (Some part) =
    if bytes_eq part (codes "0") then Ok 0
    else if bytes_eq part (codes "31") then Ok 31
    else Err ModeSubaddress

-- `mode A CODE`, `mode A CODE TR`, `mode A CODE TR S`
abbrev pub mode_line : List (List ℕ) → Result WordFields WordLineFault
mode_line parts = do
  address ← address_part (slice_get parts 1)
  code ← number_part 0 31 Code (slice_get parts 2)
  transmit ← direction_part code (slice_get parts 3)
  subaddress ← mode_subaddress_part (slice_get parts 4)
  ended_at 5 parts (Command (record { address = address; transmit = transmit; subaddress = subaddress; low = code }))

-- this word is one of the parts
abbrev pub has_part : List ℕ → List (List ℕ) → Bool
has_part word [] = false
has_part word (part ∷ parts) = bytes_eq part word || has_part word parts

-- what the bits of a status word are called
abbrev pub bit_names : List (List ℕ)
bit_names = codes "error" ∷ codes "instrumentation" ∷ codes "service" ∷ codes "reserved1" ∷ codes "reserved2" ∷ codes "reserved3"
    ∷ codes "broadcast" ∷ codes "busy" ∷ codes "subsystem" ∷ codes "accept" ∷ codes "terminal" ∷ []

-- each of these parts names a bit
abbrev pub name_bits : List (List ℕ) → Bool
name_bits [] = true
name_bits (part ∷ parts) = list_any (λ name. bytes_eq part name) bit_names && name_bits parts

-- the status word with the bits that are named
abbrev pub status_with : ℕ → List (List ℕ) → StatusFields
status_with address names = record {
  address = address;
  error = has_part (codes "error") names;
  instrumentation = has_part (codes "instrumentation") names;
  service = has_part (codes "service") names;
  reserved = 4 * bit_of (has_part (codes "reserved1") names) + (2 * bit_of (has_part (codes "reserved2") names) + bit_of (has_part (codes "reserved3") names));
  broadcast = has_part (codes "broadcast") names;
  busy = has_part (codes "busy") names;
  subsystem = has_part (codes "subsystem") names;
  accept = has_part (codes "accept") names;
  terminal = has_part (codes "terminal") names;
}

-- `status A BIT BIT ..`
abbrev pub status_line : List (List ℕ) → Result WordFields WordLineFault
status_line parts = do
  address ← number_part 0 30 Address (slice_get parts 1)
  if name_bits (drop 2 parts) then Ok (Status (status_with address (drop 2 parts))) else Err Bit

-- `data XXXX`
abbrev pub data_line : List (List ℕ) → Result WordFields WordLineFault
data_line parts = do
  bits ← digits_part (slice_get parts 1)
  ended_at 2 parts (Data bits)

-- the right parity bit, or nothing
abbrev pub parity_part : Bool → Option (List ℕ) → Result Bool WordLineFault
parity_part parity None = Ok parity
parity_part parity (Some part) =
    if bytes_eq part (codes "0") then (if parity then Err (Parity parity) else Ok parity)
    else if bytes_eq part (codes "1") then (if parity then Ok parity else Err (Parity parity))
    else Err Much

-- `K XXXX` and `K XXXX P`: the 16 bits of a word of the kind K
abbrev pub digits_line : Kind → List (List ℕ) → Result ℕ WordLineFault
digits_line kind parts = do
  bits ← digits_part (slice_get parts 1)
  parity ← parity_part (valid_word kind bits).parity (slice_get parts 2)
  ended_at 3 parts bits

-- the fields are said by their names
abbrev pub by_fields : Result WordFields WordLineFault → Result SaidWord WordLineFault
by_fields (Err fault) = Err fault
by_fields (Ok fields) = Ok (record { fields = fields; by_fields = true })

-- the fields are said by the digits of a word that has them
abbrev pub by_digits : (ℕ → WordFields) → Result ℕ WordLineFault → Result SaidWord WordLineFault
by_digits fields (Err fault) = Err fault
by_digits fields (Ok bits) = Ok (record { fields = fields bits; by_fields = false })

-- the first part tells the form
abbrev pub said_by_parts : List (List ℕ) → Result SaidWord WordLineFault
said_by_parts parts =
    let name = slice_get parts 0 in
    if is_word (codes "rx") name then by_fields (transfer_line false parts)
    else if is_word (codes "tx") name then by_fields (transfer_line true parts)
    else if is_word (codes "mode") name then by_fields (mode_line parts)
    else if is_word (codes "status") name then by_fields (status_line parts)
    else if is_word (codes "data") name then by_fields (data_line parts)
    else if is_word (codes "c") name then by_digits (λ bits. Command (command_fields_in bits)) (digits_line kind.Com parts)
    else if is_word (codes "s") name then by_digits (λ bits. Status (status_in bits)) (digits_line kind.Com parts)
    else if is_word (codes "d") name then by_digits Data (digits_line kind.Dat parts)
    else Err Name

-- what a line says: it has at most 128 bytes
abbrev pub word_line : List ℕ → Result SaidWord WordLineFault
word_line line = if nat_lt 128 (length line) then Err Long else said_by_parts (line_parts line)

-- what is said by a line that was read
abbrev pub said_of : WordLine → SaidWord
said_of line = record { fields = line.fields; by_fields = line.by_fields }

-- the same of a line that may be refused
abbrev pub said_by : Result WordLine WordLineFault → Result SaidWord WordLineFault
said_by (Ok line) = Ok (said_of line)
said_by (Err fault) = Err fault

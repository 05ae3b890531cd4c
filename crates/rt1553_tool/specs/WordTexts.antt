-- What is written of words: by their fields and by their digits, and why a line is refused.
use Rattle.std.specs.Prelude.{ℕ, ◌+◌, ◌-◌, ◌/◌, ◌%◌, ◌==◌, ◌||◌, nat_le, nat_lt, Bool, true, false, if◌then◌else◌, List, [], ◌∷◌, ◌++◌, length, codes, take, drop, get_or, Option, Some, None, Result, Ok, Err, ◌&&◌}
use Rattle.std.specs.List.{flat_map}
use Rattle.bus_word.specs.declared.mode.ModeRow.{ModeRow}
use Rattle.bus_word.specs.declared.word.Raw.{Raw}
use Rattle.bus_word.specs.Word.{bit_of, valid_word}
use Rattle.bus_word.specs.Command.{count_in}
use Rattle.bus_word.specs.Cell.{same_bool}
use Rattle.bus_word.specs.Mode.{mode_row, mode_name}
use Rattle.script_lines.specs.Digits.{digits_of}
use Rattle.rt1553_tool.specs.Fields.{sync_of, bits_with}
use Rattle.rt1553_tool.specs.WordLines.{SaidWord, word_line}
use Rattle.rt1553_tool.specs.declared.fields.CommandFields.{CommandFields}
use Rattle.rt1553_tool.specs.declared.fields.StatusFields.{StatusFields}
use Rattle.rt1553_tool.specs.declared.fields.WordFields.{WordFields}
use Rattle.rt1553_tool.specs.declared.fields.WordFields.TheVariants.{Command, Status, Data}
use Rattle.rt1553_tool.specs.declared.word_lines.WordLineFault.{WordLineFault}
use Rattle.rt1553_tool.specs.declared.word_lines.WordLineFault.TheVariants.{Long, Name, Address, Subaddress, Count, Code, Direction, ModeSubaddress, Bit, Digits, Parity, Much}

-- a number below 100, in decimal digits
abbrev pub short_decimal : ℕ → List ℕ
short_decimal n = if nat_lt n 10 then (48 + n) ∷ [] else (48 + n / 10) ∷ (48 + n % 10) ∷ []

-- an address of a command word: 31 is that of all terminals
abbrev pub address_text : ℕ → List ℕ
address_text address = if address == 31 then codes "all" else short_decimal address

-- the T/R bit: whether the terminal is to transmit or to receive
abbrev pub tr_text : Bool → List ℕ
tr_text transmit = if transmit then codes "tx" else codes "rx"

-- what a mode code is called, where it has a row of the table with this T/R
abbrev pub mode_note : Bool → ℕ → Option ModeRow → List ℕ
mode_note transmit code None = codes "always illegal"
mode_note transmit code (Some row) = if same_bool row.transmit transmit then mode_name code else codes "always illegal"

-- `mode A CODE TR`, at subaddress 31 with `31` behind T/R
abbrev pub mode_text : CommandFields → List ℕ
mode_text f = codes "mode " ++ (address_text f.address ++ (codes " " ++ (short_decimal f.low ++ (codes " " ++ (tr_text f.transmit
    ++ (if f.subaddress == 31 then codes " 31" else []))))))

-- behind a mode command ` # NAME`
abbrev pub note_text : CommandFields → List ℕ
note_text f = codes " # " ++ mode_note f.transmit f.low (mode_row f.low)

-- `TR A S N`
abbrev pub transfer_text : CommandFields → List ℕ
transfer_text f = tr_text f.transmit ++ (codes " " ++ (address_text f.address ++ (codes " " ++ (short_decimal f.subaddress
    ++ (codes " " ++ short_decimal (count_in f.low))))))

-- a mode code is asked for
abbrev pub asks_mode : CommandFields → Bool
asks_mode f = (f.subaddress == 0) || (f.subaddress == 31)

-- a command word by its fields
abbrev pub command_text : CommandFields → List ℕ
command_text f = if asks_mode f then mode_text f else transfer_text f

-- what is noted of a command
abbrev pub command_note : CommandFields → List ℕ
command_note f = if asks_mode f then note_text f else []

-- the name of a bit that is set
abbrev pub bit_text : Bool → List ℕ → List ℕ
bit_text is_set name = if is_set then 32 ∷ name else []

-- the bits behind the address
abbrev pub first_bits_text : StatusFields → List ℕ
first_bits_text f = bit_text f.error (codes "error") ++ (bit_text f.instrumentation (codes "instrumentation") ++ bit_text f.service (codes "service"))

-- the reserved bits
abbrev pub reserved_text : ℕ → List ℕ
reserved_text reserved = bit_text (reserved / 4 % 2 == 1) (codes "reserved1") ++ (bit_text (reserved / 2 % 2 == 1) (codes "reserved2")
    ++ bit_text (reserved % 2 == 1) (codes "reserved3"))

-- the bits behind the reserved ones
abbrev pub last_bits_text : StatusFields → List ℕ
last_bits_text f = bit_text f.broadcast (codes "broadcast") ++ (bit_text f.busy (codes "busy") ++ (bit_text f.subsystem (codes "subsystem")
    ++ (bit_text f.accept (codes "accept") ++ bit_text f.terminal (codes "terminal"))))

-- what is noted of an address: no terminal has 31
abbrev pub address_note : ℕ → List ℕ
address_note address = if address == 31 then codes " # no terminal has this address" else []

-- `status A BIT BIT ..`
abbrev pub status_text : StatusFields → List ℕ
status_text f = codes "status " ++ (short_decimal f.address ++ (first_bits_text f ++ (reserved_text f.reserved ++ (last_bits_text f ++ address_note f.address))))

-- a word by its fields
abbrev pub fields_text : WordFields → List ℕ
fields_text (Command f) = command_text f ++ command_note f
fields_text (Status f) = status_text f
fields_text (Data bits) = codes "data " ++ digits_of bits

-- what stands before the digits of a word
abbrev pub letter_text : WordFields → List ℕ
letter_text (Command f) = codes "c "
letter_text (Status f) = codes "s "
letter_text (Data bits) = codes "d "

-- a word by its digits and its parity bit
abbrev pub digits_text : WordFields → Raw → List ℕ
digits_text fields word = letter_text fields ++ (digits_of word.bits ++ (32 ∷ (48 + bit_of word.parity) ∷ []))

-- what answers a word: its digits where it was said by its fields, and its fields where it was said by its digits
abbrev pub said_text : SaidWord → List ℕ
said_text s = if s.by_fields then digits_text s.fields (valid_word (sync_of s.fields) (bits_with s.fields)) else fields_text s.fields

-- why a line is refused
abbrev pub fault_text : WordLineFault → List ℕ
fault_text Long = codes "a line has at most 128 bytes"
fault_text Name = codes "a line begins with rx, tx, mode, status, data, c, s or d"
fault_text Address = codes "an address is 0 to 30, or all for a command"
fault_text Subaddress = codes "a subaddress is 1 to 30"
fault_text Count = codes "a count is 1 to 32"
fault_text Code = codes "a mode code is 0 to 31"
fault_text Direction = codes "after a mode code comes tx or rx; a reserved code needs it"
fault_text ModeSubaddress = codes "the subaddress of a mode code is 0 or 31"
fault_text Bit = codes "a status has error, instrumentation, service, reserved1 to 3, broadcast, busy, subsystem, accept, terminal"
fault_text Digits = codes "a word is four hexadecimal digits"
fault_text (Parity false) = codes "the parity bit of this word is 0"
fault_text (Parity true) = codes "the parity bit of this word is 1"
fault_text Much = codes "nothing may follow the last field"

-- a byte as it is written back: printable ASCII as it is, any other byte by its two digits
abbrev pub shown_byte : ℕ → List ℕ
shown_byte b = if nat_le 32 b && nat_le b 126 then b ∷ [] else codes "\\x" ++ drop 2 (digits_of b)

-- an empty line, or a comment
abbrev pub is_comment : List ℕ → Bool
is_comment [] = true
is_comment (b ∷ bytes) = b == 35

-- what a line of words is: a comment, a word, or refused
abbrev pub answer_by : Result SaidWord WordLineFault → List ℕ
answer_by (Ok s) = said_text s
answer_by (Err fault) = codes "? " ++ fault_text fault

-- a line without the carriage return that may end it
abbrev pub without_return : List ℕ → List ℕ
without_return line = if get_or line (length line - 1) 0 == 13 then take (length line - 1) line else line

-- what a line says that a carriage return may end: it has at most 128 bytes with that
abbrev pub ended_word_line : List ℕ → Result SaidWord WordLineFault
ended_word_line line = if nat_lt 128 (length line) then Err Long else word_line (without_return line)

-- a line of at most 128 bytes that is empty or a comment
abbrev pub is_passed : List ℕ → Bool
is_passed line = nat_le (length line) 128 && is_comment line

-- the line that answers a line, with its line feed
abbrev pub word_answer : List ℕ → List ℕ
word_answer line = (if is_passed line then flat_map shown_byte line else answer_by (ended_word_line line)) ++ codes "\n"

-- the lines that answer lines
abbrev pub word_answers : List (List ℕ) → List ℕ
word_answers lines = flat_map word_answer lines

-- the line is refused
abbrev pub is_fault : Result SaidWord WordLineFault → Bool
is_fault (Ok s) = false
is_fault (Err fault) = true

-- the line is refused
abbrev pub is_refused_line : List ℕ → Bool
is_refused_line line = if is_passed line then false else is_fault (ended_word_line line)

-- how many lines are refused
abbrev pub refused_count : List (List ℕ) → ℕ
refused_count [] = 0
refused_count (line ∷ lines) = bit_of (is_refused_line line) + refused_count lines

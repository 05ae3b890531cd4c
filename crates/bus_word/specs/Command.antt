-- Command words (MIL-STD-1553B, 4.3.3.5.1). A command is the number of its 16 bits.
use Rattle.std.specs.Prelude.{ℕ, ◌+◌, ◌*◌, ◌/◌, ◌%◌, ◌≤◌, Bool, not, ◌&&◌, ◌||◌, ◌==◌, nat_le, if◌then◌else◌}

-- The fields of a command word: the address in bits 15 to 11, T/R in bit 10, the subaddress in bits
-- 9 to 5, and in bits 4 to 0 the low field, which is a word count or a mode code.
pub record Fields : Type 0 where
  pub address : ℕ
  pub tr : ℕ
  pub subaddress : ℕ
  pub low : ℕ

-- each field is of its width
pub record AreOfTheirWidth (f : Fields) : Type 0 where
  pub address : f.address ≤ 31
  pub tr : f.tr ≤ 1
  pub subaddress : f.subaddress ≤ 31
  pub low : f.low ≤ 31

-- the command word of these fields
abbrev pub command_bits : Fields → ℕ
command_bits f = f.address * 2048 + f.tr * 1024 + f.subaddress * 32 + f.low

-- the fields of a command word; that they are the only ones whose word it is, is a law
abbrev pub fields_of : ℕ → Fields
fields_of command = record {
  address = command / 2048;
  tr = command / 1024 % 2;
  subaddress = command / 32 % 32;
  low = command % 32;
}

-- the address field: in a command the terminal that it is for, in a status word the one that sent it
abbrev pub address_of : ℕ → ℕ
address_of command = (fields_of command).address

-- T/R is 1: the terminal is to transmit
abbrev pub transmits : ℕ → Bool
transmits command = (fields_of command).tr == 1

-- the subaddress field: 1 to 30 for data, 0 and 31 for mode codes
abbrev pub subaddress_of : ℕ → ℕ
subaddress_of command = (fields_of command).subaddress

-- the subaddress of data wraparound that Notice 2 names (30.7)
abbrev pub wraparound_subaddress : ℕ
wraparound_subaddress = 30

-- the low field as a mode code
abbrev pub code_of : ℕ → ℕ
code_of command = (fields_of command).low

-- a count field of 0 means 32 words
abbrev pub count_in : ℕ → ℕ
count_in low = if low == 0 then 32 else low

-- the low field as a word count
abbrev pub count_of : ℕ → ℕ
count_of command = count_in (fields_of command).low

-- subaddresses 0 and 31 both mean that the low field is a mode code (4.3.3.5.1.4; Notice 2, 30.4.1)
abbrev pub is_mode : ℕ → Bool
is_mode command = (subaddress_of command == 0) || (subaddress_of command == 31)

-- the command is for all terminals: its address is 31
abbrev pub is_broadcast : ℕ → Bool
is_broadcast command = address_of command == 31

-- a receive command to a subaddress of data
abbrev pub is_receive : ℕ → Bool
is_receive command = not (transmits command) && not (is_mode command)

-- how many data words are to follow the command on the bus
abbrev pub expected : ℕ → ℕ
expected command =
    if transmits command then 0
    else if is_mode command then (if nat_le 16 (code_of command) then 1 else 0)
    else count_of command

-- the terminal of this address, with the broadcast option or without it, takes the command as meant for it
abbrev pub is_addressed_to : ℕ → Bool → ℕ → Bool
is_addressed_to address broadcast command = (address_of command == address) || (is_broadcast command && broadcast)

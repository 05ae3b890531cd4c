-- The words of a bus and their fields (MIL-STD-1553B, 4.3.3.5).
use Rattle.std.specs.Prelude.{ℕ, ◌+◌, ◌*◌, ◌≡◌, ◌/◌, ◌%◌, ◌≤◌, ◌==◌}
use Rattle.bus_word.specs.declared.word.Kind.{Kind}
use Rattle.bus_word.specs.declared.word.Kind.TheVariants.{Com, Dat}
use Rattle.bus_word.specs.declared.word.Raw.{Raw}
use Rattle.bus_word.specs.Word.{bit_of, valid_word}
use Rattle.bus_word.specs.Command.{Fields, AreOfTheirWidth, fields_of, command_bits}
use Rattle.rt1553_tool.specs.declared.fields.CommandFields.{CommandFields}
use Rattle.rt1553_tool.specs.declared.fields.StatusFields.{StatusFields}
use Rattle.rt1553_tool.specs.declared.fields.WordFields.{WordFields}
use Rattle.rt1553_tool.specs.declared.fields.WordFields.TheVariants.{Command, Status, Data}

-- the fields of a command word as the standard's, T/R as a bit
abbrev pub in_word : CommandFields → Fields
in_word f = record { address = f.address; tr = bit_of f.transmit; subaddress = f.subaddress; low = f.low }

-- each field of a status word stands at its place in the 16 bits, and they have no other bits
pub record HasStatusFields (bits : ℕ) (f : StatusFields) : Type 0 where
  pub address : bits / 0x0800 ≡ f.address
  pub error : bits / 0x0400 % 2 ≡ bit_of f.error
  pub instrumentation : bits / 0x0200 % 2 ≡ bit_of f.instrumentation
  pub service : bits / 0x0100 % 2 ≡ bit_of f.service
  pub reserved : bits / 0x0020 % 8 ≡ f.reserved
  pub broadcast : bits / 0x0010 % 2 ≡ bit_of f.broadcast
  pub busy : bits / 0x0008 % 2 ≡ bit_of f.busy
  pub subsystem : bits / 0x0004 % 2 ≡ bit_of f.subsystem
  pub accept : bits / 0x0002 % 2 ≡ bit_of f.accept
  pub terminal : bits % 2 ≡ bit_of f.terminal

-- the fields of a command word
abbrev pub command_fields_in : ℕ → CommandFields
command_fields_in bits = record { address = bits / 2048; transmit = bits / 1024 % 2 == 1; subaddress = bits / 32 % 32; low = bits % 32 }

-- the fields of a status word
abbrev pub status_in : ℕ → StatusFields
status_in bits = record {
  address = bits / 0x0800;
  error = bits / 0x0400 % 2 == 1;
  instrumentation = bits / 0x0200 % 2 == 1;
  service = bits / 0x0100 % 2 == 1;
  reserved = bits / 0x0020 % 8;
  broadcast = bits / 0x0010 % 2 == 1;
  busy = bits / 0x0008 % 2 == 1;
  subsystem = bits / 0x0004 % 2 == 1;
  accept = bits / 0x0002 % 2 == 1;
  terminal = bits % 2 == 1;
}

-- each field is of its width
abbrev pub AreOfWidth : WordFields → Type 0
AreOfWidth (Command f) = AreOfTheirWidth (in_word f)
AreOfWidth (Status f) = (f.address ≤ 31) × (f.reserved ≤ 7)
AreOfWidth (Data bits) = Unit {0}

-- the 16 bits have these fields
abbrev pub HasFields : ℕ → WordFields → Type 0
HasFields bits (Command f) = fields_of bits ≡ in_word f
HasFields bits (Status f) = HasStatusFields bits f
HasFields bits (Data word) = bits ≡ word

-- the sync of a word with these fields
abbrev pub sync_of : WordFields → Kind
sync_of (Command f) = Com
sync_of (Status f) = Com
sync_of (Data word) = Dat

-- the 16 bits of a status word
abbrev pub status_bits : StatusFields → ℕ
status_bits f = f.address * 2048 + bit_of f.error * 0x0400 + bit_of f.instrumentation * 0x0200 + bit_of f.service * 0x0100 + f.reserved * 0x0020
    + bit_of f.broadcast * 0x0010 + bit_of f.busy * 0x0008 + bit_of f.subsystem * 0x0004 + bit_of f.accept * 0x0002 + bit_of f.terminal

-- the 16 bits of the word with these fields
abbrev pub bits_with : WordFields → ℕ
bits_with (Command f) = command_bits (in_word f)
bits_with (Status f) = status_bits f
bits_with (Data bits) = bits

-- the word is the valid one of these fields
pub record IsWordOf (word : Raw) (f : WordFields) : Type 0 where
  pub fields : HasFields word.bits f
  pub valid : word ≡ valid_word (sync_of f) word.bits

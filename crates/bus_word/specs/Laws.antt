-- Laws over the definitions of words, commands, status words, mode codes and cells.
use Rattle.std.specs.Prelude.{◌≡◌, ℕ, zero, suc, ◌+◌, ◌/◌, ◌%◌, ◌^◌, ◌<◌, Bool, true, not, ◌&&◌, if◌then◌else◌, Some, is_some}
use Rattle.bus_word.specs.declared.word.Raw.{Raw}
use Rattle.bus_word.specs.declared.status.StatusParts.{StatusParts}
use Rattle.bus_word.specs.declared.mode.ModeRow.{ModeRow}
use Rattle.bus_word.specs.declared.cell.Cell.{Cell}
use Rattle.bus_word.specs.Word.{bit_of, is_valid, valid_word}
use Rattle.bus_word.specs.Command.{Fields, AreOfTheirWidth, command_bits, fields_of, transmits, code_of, is_mode, expected}
use Rattle.bus_word.specs.Status.{status_word}
use Rattle.bus_word.specs.Mode.{mode_row, is_required_code}
use Rattle.bus_word.specs.Cell.{cell_of, is_allowed, allows_broadcast}

-- of a sync and 16 bits, there is one valid word
abbrev pub OneValidWord : Type 0
OneValidWord = (w : Raw) → is_valid w ≡ true → w ≡ valid_word w.kind w.bits

-- each command word is that of its fields, which are in range
abbrev pub EachWordHasFields : Type 0
EachWordHasFields = (command : ℕ) → command < 2 ^ 16 → AreOfTheirWidth (fields_of command) × (command_bits (fields_of command) ≡ command)

-- fields in range are the fields of their command word: so it has no others
abbrev pub FieldsAreUnique : Type 0
FieldsAreUnique = (f : Fields) → AreOfTheirWidth f → (command_bits f < 2 ^ 16) × (fields_of (command_bits f) ≡ f)

-- where each bit of a status word stands
pub record HasStatusBits (status address : ℕ) (parts : StatusParts) : Type 0 where
  pub address_field : status / 0x0800 ≡ address
  pub error : status / 0x0400 % 2 ≡ bit_of parts.error
  pub instrumentation : status / 0x0200 % 2 ≡ 0
  pub service : status / 0x0100 % 2 ≡ bit_of parts.service
  pub reserved : status / 0x0020 % 8 ≡ 0
  pub broadcast : status / 0x0010 % 2 ≡ bit_of parts.broadcast
  pub busy : status / 0x0008 % 2 ≡ bit_of parts.busy
  pub subsystem : status / 0x0004 % 2 ≡ bit_of parts.subsystem
  pub accept : status / 0x0002 % 2 ≡ bit_of parts.accept
  pub terminal : status % 2 ≡ bit_of parts.terminal

-- each status word has its parts at these bits, and no bit besides
abbrev pub StatusHasBits : Type 0
StatusHasBits = (address : ℕ) (parts : StatusParts) → HasStatusBits (status_word address parts) address parts

-- the number below 2 ^ n whose bit i is set exactly if i passes the test
abbrev pub mask_where : ℕ → (ℕ → Bool) → ℕ
mask_where zero test = 0
mask_where (suc n) test = mask_where n test + (if test n then 2 ^ n else 0)

-- the own mode codes that may be legal, as a mask
abbrev pub OwnCodes : Type 0
OwnCodes = mask_where 32 (λ code. is_some (mode_row code)) ≡ 0x000f01ff

-- the own mode codes that every profile must leave legal
abbrev pub RequiredCodes : Type 0
RequiredCodes = mask_where 32 is_required_code ≡ 0x00000134

-- the mode codes that may be legal by broadcast
abbrev pub BroadcastCodes : Type 0
BroadcastCodes = mask_where 32 (λ code. allows_broadcast (mode_row code)) ≡ 0x000201fa

-- Of a mode command whose code has a row, a data word is to follow exactly if T/R is 0 and the row has a word.
abbrev pub WordIsExpected : Type 0
WordIsExpected =
    (command : ℕ) (row : ModeRow) → is_mode command ≡ true → mode_row (code_of command) ≡ Some row →
    expected command ≡ (if not (transmits command) && row.word then 1 else 0)

-- some command has this cell
pub record HasCommand (cell : Cell) : Type 0 where
  pub command : ℕ
  pub small : command < 2 ^ 16
  pub is : cell_of command ≡ Some cell

-- the allowed cells are those that some command has
abbrev pub AllowedHaveCommands : Type 0
AllowedHaveCommands = (cell : Cell) → is_allowed cell ≡ true → HasCommand cell

-- and the cell of each command is an allowed one
abbrev pub CommandsHaveAllowed : Type 0
CommandsHaveAllowed = (cell : Cell) → HasCommand cell → is_allowed cell ≡ true

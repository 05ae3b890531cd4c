-- Words as they are on the bus.
use Rattle.std.specs.Prelude.{ℕ, zero, suc, ◌+◌, ◌/◌, ◌%◌, Bool, true, false, ◌&&◌, ◌==◌, List, [], ◌∷◌}
use Rattle.bus_word.specs.declared.word.Kind.{Kind}
use Rattle.bus_word.specs.declared.word.Kind.TheVariants.{Com, Dat}
use Rattle.bus_word.specs.declared.word.Raw.{Raw}
use Rattle.bus_word.specs.Command.{is_addressed_to}

-- a truth value as a bit
abbrev pub bit_of : Bool → ℕ
bit_of true = 1
bit_of false = 0

-- the n lowest bits of a number, the lowest first
abbrev pub low_bits : ℕ → ℕ → List ℕ
low_bits zero number = []
low_bits (suc n) number = number % 2 ∷ low_bits n (number / 2)

-- how many of a list of bits are ones
abbrev pub ones : List ℕ → ℕ
ones [] = 0
ones (bit ∷ bits) = bit + ones bits

-- the 17 bits of a word that its parity is over: the parity bit and the 16 others
abbrev pub parity_bits : Raw → List ℕ
parity_bits w = bit_of w.parity ∷ low_bits 16 w.bits

-- Word validation (MIL-STD-1553B, 4.4.1.1): the parity is odd. What is noise, a word of wrong sync,
-- code or bit count, is no `Raw`, and never valid.
abbrev pub is_valid : Raw → Bool
is_valid w = ones (parity_bits w) % 2 == 1

-- the word of this sync and these bits whose parity is odd
abbrev pub valid_word : Kind → ℕ → Raw
valid_word kind bits = record { kind = kind; bits = bits; parity = ones (low_bits 16 bits) % 2 == 0 }

-- the sync of command words and status words
abbrev pub is_command_sync : Kind → Bool
is_command_sync Com = true
is_command_sync Dat = false

-- the sync of data words
abbrev pub is_data_sync : Kind → Bool
is_data_sync Com = false
is_data_sync Dat = true

-- a valid word of command sync: a command word or a status word
abbrev pub is_command : Raw → Bool
is_command w = is_command_sync w.kind && is_valid w

-- a valid word of data sync
abbrev pub is_data : Raw → Bool
is_data w = is_data_sync w.kind && is_valid w

-- A word for the terminal of this address, with the broadcast option or without it (4.4.3.1).
abbrev pub is_for : ℕ → Bool → Raw → Bool
is_for address broadcast w = is_command w && is_addressed_to address broadcast w.bits

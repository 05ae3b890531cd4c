-- The words that stand in a saved state for what a terminal keeps, and what they mean when they are read.
use Rattle.std.specs.Prelude.{◌≡◌, ℕ, Bool, true, false, ◌==◌, ◌&&◌, nat_lt, if◌then◌else◌, Option, Some, None, List, [], ◌∷◌, get_or}
use Rattle.std.specs.Option.{option_map}
use Rattle.bus_word.specs.declared.word.Bus.{Bus}
use Rattle.bus_word.specs.declared.word.Bus.TheVariants.{A, B}
use Rattle.bus_word.specs.declared.cell.Cell.{Cell}
use Rattle.bus_word.specs.declared.cell.Cell.TheVariants.{OwnReceive, OwnTransmit, BroadReceive, OwnMode, BroadMode}
use Rattle.terminal_rules.specs.History.{Replying}
use Rattle.terminal_state.specs.declared.message.Collected.TheVariants.{Words, Transmitter, Spoilt}
use Rattle.terminal_state.specs.declared.message.Phase.{Phase}
use Rattle.terminal_state.specs.declared.message.Phase.TheVariants.{Collects, Waits, Resumes}
use Rattle.terminal_state.specs.Replies.{reply_at}
use Rattle.rt1553_live.specs.declared.bits.Bits.{Bits}
use Rattle.rt1553_live.specs.declared.message.SavedMessage.{SavedMessage}

-- 1 for true, 0 for false
abbrev pub bit : Bool → ℕ
bit b = if b then 1 else 0

-- only 1 reads as true
abbrev pub is_set : ℕ → Bool
is_set n = n == 1

-- 0 for bus A, 1 for bus B
abbrev pub bus_number : Bus → ℕ
bus_number A = 0
bus_number B = 1

-- 1 reads as bus B, and any other number as bus A
abbrev pub bus_from : ℕ → Bus
bus_from n = if n == 1 then B else A

-- a number of a byte; 0 for any other
abbrev pub byte : ℕ → ℕ
byte n = if nat_lt n 256 then n else 0

-- the word at a place of a line
abbrev pub at : ℕ → List ℕ → ℕ
at i xs = get_or xs i 0

-- ---- truth values

-- the words of the line `bits`, in their order: the runs, the flags, the inhibited terminal flag, the transmitters, the kept status
abbrev pub bit_numbers : Bits → List ℕ
bit_numbers b =
    bit b.heard.a ∷ bit b.heard.b
    ∷ bit b.flags.service ∷ bit b.flags.busy ∷ bit b.flags.subsystem ∷ bit b.flags.terminal
    ∷ bit b.inhibited ∷ bit b.off.a ∷ bit b.off.b
    ∷ bit b.status.error ∷ bit b.status.service ∷ bit b.status.broadcast ∷ bit b.status.busy ∷ bit b.status.subsystem ∷ bit b.status.accept ∷ bit b.status.terminal
    ∷ []

-- the truth values that these words mean
abbrev pub bits_from : List ℕ → Bits
bits_from xs = record {
  heard = record { a = is_set (at 0 xs); b = is_set (at 1 xs) };
  flags = record { service = is_set (at 2 xs); busy = is_set (at 3 xs); subsystem = is_set (at 4 xs); terminal = is_set (at 5 xs) };
  inhibited = is_set (at 6 xs);
  off = record { a = is_set (at 7 xs); b = is_set (at 8 xs) };
  status = record { error = is_set (at 9 xs); service = is_set (at 10 xs); broadcast = is_set (at 11 xs); busy = is_set (at 12 xs); subsystem = is_set (at 13 xs); accept = is_set (at 14 xs); terminal = is_set (at 15 xs) };
}

-- ---- the reply in progress

-- 1 where the message was not done, and else by the kind of its cell
abbrev pub cell_kind : Option Cell → ℕ
cell_kind None = 1
cell_kind (Some (OwnReceive s n)) = 2
cell_kind (Some (OwnTransmit s n)) = 3
cell_kind (Some (BroadReceive s n)) = 4
cell_kind (Some (OwnMode c)) = 5
cell_kind (Some (BroadMode c)) = 6

-- the subaddress or the mode code
abbrev pub cell_place : Option Cell → ℕ
cell_place None = 0
cell_place (Some (OwnReceive s n)) = s
cell_place (Some (OwnTransmit s n)) = s
cell_place (Some (BroadReceive s n)) = s
cell_place (Some (OwnMode c)) = c
cell_place (Some (BroadMode c)) = c

-- the word count
abbrev pub cell_count : Option Cell → ℕ
cell_count (Some (OwnReceive s n)) = n
cell_count (Some (OwnTransmit s n)) = n
cell_count (Some (BroadReceive s n)) = n
cell_count _ = 0

-- the cell that a kind, a place and a word count mean; none for a kind without a cell
abbrev pub cell_from : ℕ → ℕ → ℕ → Option Cell
cell_from kind place count =
    if kind == 2 then Some (OwnReceive place count)
    else if kind == 3 then Some (OwnTransmit place count)
    else if kind == 4 then Some (BroadReceive place count)
    else if kind == 5 then Some (OwnMode place)
    else if kind == 6 then Some (BroadMode place)
    else None

-- zeros where no reply is in progress
abbrev pub reply_numbers : Option Replying → List ℕ
reply_numbers None = 0 ∷ 0 ∷ 0 ∷ 0 ∷ 0 ∷ []
reply_numbers (Some r) = cell_kind r.cell ∷ bus_number r.bus ∷ cell_place r.cell ∷ cell_count r.cell ∷ r.number ∷ []

-- the reply in progress that these words mean: kind, bus, place, word count, number of the next word
abbrev pub reply_by : ℕ → ℕ → ℕ → ℕ → ℕ → Option Replying
reply_by kind bus place count next = if kind == 0 then None else reply_at (bus_from bus) (cell_from kind (byte place) (byte count)) (byte next)

-- the reply in progress that the words of the line `reply` mean
abbrev pub reply_from : List ℕ → Option Replying
reply_from xs = reply_by (at 0 xs) (at 1 xs) (at 2 xs) (at 3 xs) (at 4 xs)

-- ---- the message in progress

-- the number of a phase: 1 to 3 while data words are collected, 4 while a transfer waits for a status word, 5 to 7 after that word
abbrev pub phase_number : Phase → ℕ
phase_number (Collects Words) = 1
phase_number (Collects (Transmitter a)) = 2
phase_number (Collects Spoilt) = 3
phase_number (Waits a) = 4
phase_number (Resumes Words) = 5
phase_number (Resumes (Transmitter a)) = 6
phase_number (Resumes Spoilt) = 7

-- the address of the other terminal, or 0
abbrev pub phase_address : Phase → ℕ
phase_address (Collects (Transmitter a)) = a
phase_address (Waits a) = a
phase_address (Resumes (Transmitter a)) = a
phase_address _ = 0

-- data words are collected, and nothing else
abbrev pub has_words : Phase → Bool
has_words (Collects Words) = true
has_words (Resumes Words) = true
has_words _ = false

-- the phase that a number means, with the address of the other terminal
abbrev pub phase_from : ℕ → ℕ → Option Phase
phase_from n a =
    if n == 1 then Some (Collects Words)
    else if n == 2 then Some (Collects (Transmitter a))
    else if n == 3 then Some (Collects Spoilt)
    else if n == 4 then Some (Waits a)
    else if n == 5 then Some (Resumes Words)
    else if n == 6 then Some (Resumes (Transmitter a))
    else if n == 7 then Some (Resumes Spoilt)
    else None

-- so many words were collected, if they can be
abbrev pub words_collected : Phase → ℕ → ℕ
words_collected phase n = if has_words phase && nat_lt n 33 then n else 0

-- zeros where no message is in progress
abbrev pub message_numbers : Option SavedMessage → List ℕ
message_numbers None = 0 ∷ 0 ∷ 0 ∷ 0 ∷ 0 ∷ []
message_numbers (Some m) = phase_number m.phase ∷ bus_number m.bus ∷ m.command ∷ phase_address m.phase ∷ m.count ∷ []

-- the message in progress that these words mean: phase, bus, command, address of the other terminal, number of words collected
abbrev pub message_by : ℕ → ℕ → ℕ → ℕ → ℕ → Option SavedMessage
message_by phase bus command address count =
    option_map (λ p. record { bus = bus_from bus; command = command; phase = p; count = words_collected p count }) (phase_from phase (byte address))

-- the message in progress that the words of the line `message` mean
abbrev pub message_from : List ℕ → Option SavedMessage
message_from xs = message_by (at 0 xs) (at 1 xs) (at 2 xs) (at 3 xs) (at 4 xs)

-- a message has as many words as it can have
abbrev pub IsCounted : Option SavedMessage → Type 0
IsCounted None = Unit {0}
IsCounted (Some m) = words_collected m.phase m.count ≡ m.count

-- Events as plain numbers: which event the numbers mean, if they mean one.
use Rattle.std.specs.Prelude.{ℕ, Bool, true, false, ◌==◌, if◌then◌else◌, Option, Some, None, option_and_then}
use Rattle.bus_word.specs.declared.word.Bus.{Bus}
use Rattle.bus_word.specs.declared.word.Bus.TheVariants.{A, B}
use Rattle.bus_word.specs.declared.word.Kind.{Kind}
use Rattle.bus_word.specs.declared.word.Kind.TheVariants.{Com, Dat}
use Rattle.bus_word.specs.declared.word.Raw.{Raw}
use Rattle.bus_word.specs.Word.{valid_word}
use Rattle.bus_word.specs.Cell.{is_data_place}
use Rattle.terminal_rules.specs.declared.event.Flag.{Flag}
use Rattle.terminal_rules.specs.declared.event.Flag.TheVariants.{Service, Busy, Subsystem, Terminal}
use Rattle.terminal_rules.specs.declared.event.Event.{Event}
use Rattle.terminal_rules.specs.declared.event.Event.TheVariants.{Word, Noise, Gap, Write, Vector, Bit, Flag as FlagIs, Slot}
use Rattle.rt1553_live.specs.declared.event.PlainEvent.{PlainEvent}

-- by the number of a bus: 0 is A, 1 is B
abbrev pub bus_of_number : ℕ → Option Bus
bus_of_number n = if n == 0 then Some A else if n == 1 then Some B else None

-- by the sync of a word: 0 is that of commands, 1 that of data
abbrev pub sync_of_number : ℕ → Option Kind
sync_of_number n = if n == 0 then Some Com else if n == 1 then Some Dat else None

-- by the number of a flag
abbrev pub flag_of_number : ℕ → Option Flag
flag_of_number n = if n == 0 then Some Service else if n == 1 then Some Busy else if n == 2 then Some Subsystem else if n == 3 then Some Terminal else None

-- by a truth value: 0 is false, 1 is true
abbrev pub truth_of_number : ℕ → Option Bool
truth_of_number n = if n == 0 then Some false else if n == 1 then Some true else None

-- a word with this parity bit, or with the right one
abbrev pub word_with : Kind → ℕ → ℕ → Option Raw
word_with kind parity bits =
    if parity == 2 then Some (valid_word kind bits)
    else option_and_then (λ p. Some (record { kind = kind; bits = bits; parity = p })) (truth_of_number parity)

-- the word that is meant
abbrev pub plain_word : PlainEvent → Option Raw
plain_word p = option_and_then (λ kind. word_with kind p.parity p.bits) (sync_of_number p.sync)

-- the write of the subsystem that is meant: subaddress 1 to 30, number 1 to 32
abbrev pub plain_write : PlainEvent → Option Event
plain_write p =
    if is_data_place p.subaddress p.number
    then Some (Write (record { subaddress = p.subaddress; number = p.number }) p.bits)
    else None

-- the change of a flag that is meant
abbrev pub plain_flag : PlainEvent → Option Event
plain_flag p = option_and_then (λ flag. option_and_then (λ value. Some (FlagIs flag value)) (truth_of_number p.value)) (flag_of_number p.flag)

-- the event that is meant, or none
abbrev pub plain_event : PlainEvent → Option Event
plain_event p =
    if p.what == 0 then option_and_then (λ bus. option_and_then (λ word. Some (Word bus word)) (plain_word p)) (bus_of_number p.bus)
    else if p.what == 1 then option_and_then (λ bus. Some (Noise bus)) (bus_of_number p.bus)
    else if p.what == 2 then option_and_then (λ bus. Some (Gap bus)) (bus_of_number p.bus)
    else if p.what == 3 then plain_write p
    else if p.what == 4 then Some (Vector p.bits)
    else if p.what == 5 then Some (Bit p.bits)
    else if p.what == 6 then plain_flag p
    else if p.what == 7 then Some Slot
    else None

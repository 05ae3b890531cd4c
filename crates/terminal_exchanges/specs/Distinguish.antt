-- Scripts that tell two terminals apart: one for each kind of difference between what can be reached of them.
use Rattle.std.specs.Prelude.{ℕ, zero, suc, ◌+◌, ◌-◌, ◌%◌, ◌≤◌, ◌≢◌, Bool, ◌==◌, if◌then◌else◌, List, [], ◌∷◌, length, replicate}
use Rattle.bus_word.specs.declared.cell.Cell.TheVariants.{OwnReceive, BroadReceive}
use Rattle.bus_word.specs.Command.{command_bits}
use Rattle.bus_word.specs.Mode as mode
use Rattle.bus_legal.specs.Description.{Description}
use Rattle.bus_legal.specs.Reach.{any_to, any_count, largest_count, transmits_at}
use Rattle.terminal_rules.specs.declared.event.Event.{Event}
use Rattle.terminal_rules.specs.Out.{outs}
use Rattle.terminal_rules.specs.Same.{AreProper}
use Rattle.terminal_exchanges.specs.Exchanges.{Exchange, script_of}

-- A script of few events, which can come, on which two terminals answer otherwise from power-up.
pub record TellsApart (P Q : Description) (script : List Event) : Type 0 where
  pub proper : AreProper script
  pub short : length script ≤ 70
  pub differ : outs P script ≢ outs Q script

-- the least number from 1 to n that passes, or 0 where none does
abbrev pub least_to : ℕ → (ℕ → Bool) → ℕ
least_to zero p = 0
least_to (suc n) p = if any_to n p then least_to n p else (if p (suc n) then suc n else 0)

-- the least word count that passes, or 0 where none does
unfoldable pub least_count : (ℕ → Bool) → ℕ
least_count p = least_to 32 p

-- the address of all terminals
abbrev pub all_terminals : ℕ
all_terminals = 31

-- the command word of these fields
abbrev pub command_of : ℕ → ℕ → ℕ → ℕ → ℕ
command_of address tr subaddress low = command_bits (record { address = address; tr = tr; subaddress = subaddress; low = low })

-- A command to the own address is answered in slots, and one to all terminals isn't.
abbrev pub slots_for : ℕ → ℕ → ℕ
slots_for address n = if address == all_terminals then 0 else n

-- data words to a subaddress; a count of 32 is written as 0
abbrev pub receive : ℕ → ℕ → ℕ → List ℕ → Exchange
receive address s n words = record { command = command_of address 0 s (n % 32); words = words; slots = slots_for address 1 }

-- the same with data words of 0
abbrev pub receive_zeros : ℕ → ℕ → ℕ → Exchange
receive_zeros address s n = receive address s n (replicate n 0)

-- so many words from a subaddress, with so many slots
abbrev pub transmit : ℕ → ℕ → ℕ → ℕ → Exchange
transmit address s n slots = record { command = command_of address 1 s (n % 32); words = []; slots = slots }

-- a mode code by subaddress 0; synchronize with data word goes with a data word of 0
abbrev pub mode_code_with : ℕ → ℕ → ℕ → Exchange
mode_code_with slots address code =
    if code == mode.synchronize_with_word
    then (record { command = command_of address 0 0 code; words = 0 ∷ []; slots = slots_for address slots })
    else (record { command = command_of address 1 0 code; words = []; slots = slots_for address slots })

-- with a slot for the status
abbrev pub mode_code : ℕ → ℕ → Exchange
mode_code address code = mode_code_with 1 address code

-- transmit status word: it asks for the kept status
abbrev pub ask : ℕ → Exchange
ask address = mode_code address mode.transmit_status

-- 1: another address
abbrev pub address_script : ℕ → List Event
address_script address = script_of (ask address ∷ [])

-- 2: the broadcast option. A broadcast transmit status word is illegal where it is heard.
abbrev pub option_script : ℕ → List Event
option_script address = script_of (mode_code all_terminals mode.transmit_status ∷ ask address ∷ [])

-- 3: the legality of an own receive cell
abbrev pub own_receive_script : ℕ → ℕ → ℕ → List Event
own_receive_script address s n = script_of (receive_zeros address s n ∷ [])

-- 4: the legality of an own transmit cell
abbrev pub own_transmit_script : ℕ → ℕ → ℕ → List Event
own_transmit_script address s n = script_of (transmit address s n 1 ∷ [])

-- 5: the legality of a broadcast receive cell. A broadcast is not answered, so the status is asked for after it.
abbrev pub broadcast_receive_script : ℕ → ℕ → ℕ → List Event
broadcast_receive_script address s n = script_of (receive_zeros all_terminals s n ∷ ask address ∷ [])

-- 6: the legality of an own mode code
abbrev pub own_code_script : ℕ → ℕ → List Event
own_code_script address code = script_of (mode_code address code ∷ [])

-- 7: the legality of a broadcast mode code
abbrev pub broadcast_code_script : ℕ → ℕ → List Event
broadcast_code_script address code = script_of (mode_code all_terminals code ∷ ask address ∷ [])

-- 8: acceptance of dynamic bus control
abbrev pub acceptance_script : ℕ → List Event
acceptance_script address = script_of (mode_code address mode.dynamic_bus_control ∷ [])

-- 9: the vector word
abbrev pub vector_script : ℕ → List Event
vector_script address = script_of (mode_code_with 2 address mode.vector_word ∷ [])

-- 10: the BIT word
abbrev pub bit_script : ℕ → List Event
bit_script address = script_of (mode_code_with 2 address mode.bit_word ∷ [])

-- 11: an initial word of a subaddress, with the longest legal transmit command
abbrev pub initial_script : Description → ℕ → List Event
initial_script P s =
    let m : ℕ = largest_count (transmits_at P s) in
    script_of (transmit P.address s m (m + 1) ∷ [])

-- a receive command of n words to the own address is legal
abbrev pub receives_own : Description → ℕ → ℕ → Bool
receives_own P s n = P.legal (OwnReceive s n)

-- one to all terminals is legal
abbrev pub receives_broadcast : Description → ℕ → ℕ → Bool
receives_broadcast P s n = P.legal (BroadReceive s n)

-- n words to subaddress s, of which the first is the complement of the one that is held there at power-up
abbrev pub receive_complement : Description → ℕ → ℕ → ℕ → Exchange
receive_complement P s to n = receive to s n ((65535 - P.initial s 1) ∷ replicate (n - 1) 0)

-- those of the shortest legal receive command, by broadcast only where there is no other
abbrev pub shortest_receive : Description → ℕ → Exchange
shortest_receive P s =
    if any_count (receives_own P s)
    then receive_complement P s P.address (least_count (receives_own P s))
    else receive_complement P s all_terminals (least_count (receives_broadcast P s))

-- the shortest legal transmit command, with slots for all its words
abbrev pub shortest_transmit : Description → ℕ → Exchange
shortest_transmit P s =
    let m : ℕ = least_count (transmits_at P s) in
    transmit P.address s m (m + 1)

-- Wraparound at subaddress s: what is received is transmitted.
abbrev pub sent_back : Description → ℕ → List Exchange
sent_back P s = shortest_receive P s ∷ shortest_transmit P s ∷ []

-- 12: wraparound at subaddress s
abbrev pub wraparound_script : Description → ℕ → List Event
wraparound_script P s = script_of (sent_back P s)

-- the wraparound subaddress of P, or of Q where P has none
abbrev pub shown_subaddress : ℕ → ℕ → ℕ
shown_subaddress p q = if p == 0 then q else p

-- What a terminal remembers until it is reset.
use Rattle.std.specs.Prelude.{ℕ, ◌-◌, Bool, true, false, not, ◌&&◌, ◌||◌, ◌==◌, if◌then◌else◌, Option, Some, None, List, [], ◌∷◌}
use Rattle.bus_word.specs.declared.word.Bus.{Bus}
use Rattle.bus_word.specs.declared.cell.Cell.{Cell}
use Rattle.bus_word.specs.declared.cell.Cell.TheVariants.{OwnReceive, BroadReceive, OwnMode, BroadMode}
use Rattle.bus_word.specs.Cell.{cell_of}
use Rattle.bus_word.specs.Mode as mode
use Rattle.bus_legal.specs.Description.{Description}
use Rattle.terminal_rules.specs.declared.event.Event.{Event}
use Rattle.terminal_rules.specs.declared.event.Event.TheVariants.{Write, Vector, Bit}
use Rattle.terminal_rules.specs.Buses.{other}
use Rattle.terminal_rules.specs.LookBack.{latest, or_else, since}
use Rattle.terminal_rules.specs.History.{Noted, Turn, Begins, Sends, Ending, Done, of_start, is_gap_on}

-- the mode code of a cell, own or by broadcast
abbrev pub code_in : Cell → Option ℕ
code_in (OwnMode code) = Some code
code_in (BroadMode code) = Some code
code_in _ = None

-- the mode code that was carried out
abbrev pub done_code : Ending → Option ℕ
done_code (Done c cell ds) = code_in cell
done_code _ = None

-- Reset remote terminal (MIL-STD-1553B, 4.3.3.5.1.7.9; Notice 2, 30.4.3) acts after its status was sent; where none is
-- sent, it acts at its gap. So there are three cases. First: a reset by broadcast acts at its gap, since no broadcast is
-- answered.
abbrev pub resets_by_broadcast : Ending → Bool
resets_by_broadcast (Done c (BroadMode code) ds) = code == mode.reset
resets_by_broadcast _ = false

-- a reset by the own address is done
abbrev pub does_own_reset : Ending → Bool
does_own_reset (Done c (OwnMode code) ds) = code == mode.reset
does_own_reset _ = false

-- a reply begins with the event
abbrev pub begins : Turn → Bool
begins (Begins b cell) = true
begins _ = false

-- Second: a reset by the own address acts at its gap where no reply begins with it, since the transmitter of its bus is
-- shut down.
abbrev pub resets_in_silence : Turn → Ending → Bool
resets_in_silence turn x = does_own_reset x && not (begins turn)

-- a word of a reply, by its number and the cell that is answered, is the status of a reset
abbrev pub is_status_of_reset : ℕ → Option Cell → Bool
is_status_of_reset number (Some (OwnMode code)) = (number == 0) && (code == mode.reset)
is_status_of_reset number _ = false

-- Third: a reset by the own address that is answered acts in the slot that sends its status.
abbrev pub resets_in_slot : Turn → Bool
resets_in_slot (Sends r) = is_status_of_reset r.number r.cell
resets_in_slot _ = false

-- an event is a reset in these three cases, and in no other
abbrev pub resets : Turn → Ending → Bool
resets turn x = resets_by_broadcast x || (resets_in_silence turn x || resets_in_slot turn)

-- the terminal was reset with this event
abbrev pub is_reset : Noted → Bool
is_reset p = resets p.turn p.ends

-- what came after the latest reset
abbrev pub since_reset : List Noted → List Noted
since_reset h = since is_reset h

-- true at the first mode code, false at the second
abbrev pub switched : ℕ → ℕ → Option ℕ → Option Bool
switched on off None = None
switched on off (Some code) = if code == on then Some true else (if code == off then Some false else None)

-- The terminal flag is inhibited by mode code 6, and shows again after mode code 7 (4.3.3.5.1.7.7, 4.3.3.5.1.7.8).
abbrev pub inhibits : Noted → Option Bool
inhibits p = switched mode.inhibit_flag mode.override_inhibit (done_code p.ends)

-- the terminal flag is inhibited: the latest code 6 or 7 done since the last reset was 6
abbrev pub inhibited_now : List Noted → Bool
inhibited_now h = or_else (latest inhibits (since_reset h)) false

-- The transmitter of a bus is shut down by mode code 4 on the other bus, and comes back by mode code 5 on
-- the other bus (4.3.3.5.1.7.5, 4.3.3.5.1.7.6).
abbrev pub shuts : Bus → Noted → Option Bool
shuts b p = if is_gap_on (other b) p.event then switched mode.shutdown mode.override_shutdown (done_code p.ends) else None

-- the transmitter is shut down: the latest code 4 or 5 done on the other bus since the last reset was 4
abbrev pub off_now : List Noted → Bus → Bool
off_now h b = or_else (latest (shuts b) (since_reset h)) false

-- the vector word (4.3.3.5.1.7.11): that of the subsystem's latest event
abbrev pub vector_word_set : Event → Option ℕ
vector_word_set (Vector v) = Some v
vector_word_set _ = None

-- the latest vector word since the last reset, or that of the profile
abbrev pub vector_now : Description → List Noted → ℕ
vector_now P h = or_else (latest (λ p. vector_word_set p.event) (since_reset h)) P.vector

-- the BIT word (4.3.3.5.1.7.14): that of the subsystem's latest event
abbrev pub bit_word_set : Event → Option ℕ
bit_word_set (Bit v) = Some v
bit_word_set _ = None

-- the latest BIT word since the last reset, or that of the profile
abbrev pub bit_now : Description → List Noted → ℕ
bit_now P h = or_else (latest (λ p. bit_word_set p.event) (since_reset h)) P.bit

-- Word number i of a list, from 1: in the list without its first word it has number i - 1. There is no word 0: for i of
-- 0, where i - 1 is 0 too, none is found.
abbrev pub nth_word : ℕ → List ℕ → Option ℕ
nth_word i [] = None
nth_word i (d ∷ ds) = if i == 1 then Some d else nth_word (i - 1) ds

-- what words received at subaddress t leave as word i of subaddress s, by wraparound alone
abbrev pub wrapped_at : ℕ → ℕ → ℕ → ℕ → List ℕ → Option ℕ
wrapped_at wrap s i t ds = if (s == t) && (t == wrap) then nth_word i ds else None

-- words received at the wraparound subaddress (Notice 2, 30.7), own or by broadcast, are held there
abbrev pub wrapped : ℕ → ℕ → ℕ → Ending → Option ℕ
wrapped wrap s i (Done c (OwnReceive t n) ds) = wrapped_at wrap s i t ds
wrapped wrap s i (Done c (BroadReceive t n) ds) = wrapped_at wrap s i t ds
wrapped wrap s i _ = None

-- what a write of the subsystem leaves as word i of subaddress s
abbrev pub written : ℕ → ℕ → Event → Option ℕ
written s i (Write place v) = if (place.subaddress == s) && (place.number == i) then Some v else None
written s i _ = None

-- the word that one of the two gives; no event gives both
abbrev pub either_word : Option ℕ → Option ℕ → Option ℕ
either_word (Some v) w = Some v
either_word None w = w

-- a write of the subsystem, or words received by wraparound, set word i of subaddress s
abbrev pub held_set : Description → ℕ → ℕ → Noted → Option ℕ
held_set P s i p = either_word (written s i p.event) (wrapped P.wrap s i p.ends)

-- the word held ready as number i of subaddress s
abbrev pub held_now : Description → List Noted → ℕ → ℕ → ℕ
held_now P h s i = or_else (latest (held_set P s i) (since_reset h)) (P.initial s i)

-- the command of a start
abbrev pub start_bits : Noted → Option ℕ
start_bits p = of_start (λ b w. w.bits) p

-- the cell of own mode code 18, transmit last command
abbrev pub is_last_command_code : Option Cell → Bool
is_last_command_code (Some (OwnMode code)) = code == mode.last_command
is_last_command_code _ = false

-- what a start records as last command: its command, unless that is transmit last command
abbrev pub recorded_by : Option ℕ → Option ℕ
recorded_by None = None
recorded_by (Some c) = if is_last_command_code (cell_of c) then None else Some c

-- The last command (4.3.3.5.1.7.13): that of the latest start whose cell is not own mode code 18, transmit last command.
-- It may be illegal.
abbrev pub last_now : List Noted → ℕ
last_now h = or_else (latest (λ p. recorded_by (start_bits p)) (since_reset h)) 0

-- The message in progress on a bus (MIL-STD-1553B, 4.3.3.6, 4.4.3.2, 4.6.3.2).
use Rattle.std.specs.Prelude.{ℕ, Bool, false, not, ◌&&◌, ◌==◌, if◌then◌else◌, Option, Some, None, List, [], ◌∷◌}
use Rattle.bus_word.specs.declared.word.Bus.{Bus}
use Rattle.bus_word.specs.declared.word.Raw.{Raw}
use Rattle.bus_word.specs.Word.{is_command}
use Rattle.bus_word.specs.Command.{address_of, transmits, is_receive, is_broadcast}
use Rattle.bus_legal.specs.Description.{Description}
use Rattle.terminal_rules.specs.Buses.{same_bus}
use Rattle.terminal_rules.specs.LookBack.{latest, since, before, oldest}
use Rattle.terminal_rules.specs.History.{Noted, Entry, of_start, ends_run, run}

-- The state of a message, by what is known of what followed: no message; a message in the run of its command, with what followed
-- the command; a receive command that waits for the status word of an address; such a message after that status word, with what
-- followed the status.
pub data MessageState (Followed : Type 0) : Type 0 where
  Idle : MessageState Followed
  Collects : (command : ℕ) → (after : Followed) → MessageState Followed
  Waits : (command : ℕ) → (address : ℕ) → MessageState Followed
  Resumes : (command : ℕ) → (after : Followed) → MessageState Followed

-- the message in progress, with all that followed
abbrev pub Open : Type 0
Open = MessageState (List Entry)

-- the bus of a start
abbrev pub start_bus : Noted → Option Bus
start_bus p = of_start (λ b w. b) p

-- there is a bus, and it is this one
abbrev pub is_on : Bus → Option Bus → Bool
is_on b None = false
is_on b (Some c) = same_bus b c

-- The latest start of all is on this bus: so no start on the other bus came after the latest on this one. The message
-- in progress on a bus is always that of the latest start there. So this asks of the whole history what the rule asks
-- of the time since that start: a command on one bus supersedes what is in progress on the other (4.4.3.2, 4.6.3.2).
abbrev pub is_latest : List Noted → Bus → Bool
is_latest h b = is_on b (latest start_bus h)

-- the bits of a word; noise has none
abbrev pub bits_of : Option Raw → Option ℕ
bits_of None = None
bits_of (Some w) = Some w.bits

-- the command of an entry that started a message
abbrev pub started_by : Entry → Option ℕ
started_by x = if x.starts then bits_of x.word else None

-- the latest start of a run, with what followed it
abbrev pub first_message : Bool → List Entry → Option (ℕ × List Entry)
first_message is_latest r =
    if is_latest then (elim (latest started_by r) [ None ↦ None | Some c ↦ Some (c, since (λ x. x.starts) r) ]) else None

-- the message that started in the run of this bus, with what followed it, unless the other bus has had a start since
abbrev pub first_open : List Noted → Bus → Option (ℕ × List Entry)
first_open h b = first_message (is_latest h b) (run h b)

-- the address of a valid command word that has another terminal transmit
abbrev pub transmitter_at : ℕ → Option Raw → Option ℕ
transmitter_at own None = None
transmitter_at own (Some w) =
    if is_command w && (transmits w.bits && (not (address_of w.bits == own) && not (is_broadcast w.bits)))
    then Some (address_of w.bits) else None

-- the address of the other terminal that an entry of a run has transmit
abbrev pub transmitter : Description → Entry → Option ℕ
transmitter P x = transmitter_at P.address x.word

-- A transfer between two terminals (4.3.3.6.3, 4.3.3.6.7.2), of which this one receives: a receive command,
-- with just a command to the other terminal after it. The count of that second command is not compared.
abbrev pub transfer : Description → Option (ℕ × List Entry) → Option (ℕ × ℕ)
transfer P (Some (c, x ∷ [])) = if is_receive c then (elim (transmitter P x) [ None ↦ None | Some a ↦ Some (c, a) ]) else None
transfer P _ = None

-- what came before the last gap on a bus
abbrev pub before_gap : List Noted → Bus → Option (List Noted)
before_gap h b = before (ends_run b) h

-- the transfer in progress when a gap came, by the history before that gap
abbrev pub transfer_at : Description → Bus → Option (List Noted) → Option (ℕ × ℕ)
transfer_at P b None = None
transfer_at P b (Some g) = transfer P (first_open g b)

-- the transfer that stood when the last gap on the bus came, where the latest start of all is on this bus
abbrev pub awaited_of : Description → Bus → Bool → Option (List Noted) → Option (ℕ × ℕ)
awaited_of P b is_latest g = if is_latest then transfer_at P b g else None

-- a valid word of command sync with this address is its status word, whatever its other bits
abbrev pub status_at : ℕ → Option Raw → Bool
status_at a None = false
status_at a (Some w) = is_command w && (address_of w.bits == a)

-- an entry of a run is the status word of this address
abbrev pub is_status_of : ℕ → Entry → Bool
is_status_of a x = status_at a x.word

-- a transfer waits while its run is empty; where the run begins with the awaited status, the message goes on
abbrev pub waits_or_resumes : ℕ → ℕ → Option (Entry × List Entry) → Open
waits_or_resumes c a None = Waits c a
waits_or_resumes c a (Some (x, after)) = if is_status_of a x then Resumes c after else Idle

-- the message in progress: one that started in this run, or a transfer that began before its gap, or none
abbrev pub open_of : List Entry → Option (ℕ × List Entry) → Option (ℕ × ℕ) → Open
open_of r (Some f) t = Collects f.0 f.1
open_of r None None = Idle
open_of r None (Some t) = waits_or_resumes t.0 t.1 (oldest r)

-- the message in progress on a bus: that of its latest start, unless the other bus has had a start since
abbrev pub open_now : Description → List Noted → Bus → Open
open_now P h b = open_of (run h b) (first_open h b) (awaited_of P b (is_latest h b) (before_gap h b))

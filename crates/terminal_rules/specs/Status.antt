-- The status that a terminal forms, and the one that it keeps (MIL-STD-1553B, 4.3.3.5.3, 4.3.3.5.4).
use Rattle.std.specs.Prelude.{ℕ, Bool, true, false, not, ◌&&◌, ◌||◌, ◌==◌, if◌then◌else◌, Option, Some, None, List}
use Rattle.bus_word.specs.declared.status.StatusParts.{StatusParts}
use Rattle.bus_word.specs.declared.cell.Cell.{Cell}
use Rattle.bus_word.specs.declared.cell.Cell.TheVariants.{OwnMode}
use Rattle.bus_word.specs.Command.{is_broadcast}
use Rattle.bus_word.specs.Cell.{cell_of}
use Rattle.bus_word.specs.Mode as mode
use Rattle.bus_legal.specs.Description.{Description}
use Rattle.terminal_rules.specs.declared.event.Flag.TheVariants.{Service, Busy, Subsystem, Terminal}
use Rattle.terminal_rules.specs.LookBack.{or_else, some, latest_with, since_with}
use Rattle.terminal_rules.specs.History.{Noted, Turn, Ending, Nothing, Badly, Illegal, Blocked, Done}
use Rattle.terminal_rules.specs.Flags.{flag_now}
use Rattle.terminal_rules.specs.SinceReset.{switched, inhibited_now, start_bits, code_in, resets_by_broadcast, resets_in_silence, resets_in_slot}

-- a status word with no bit set but the address
abbrev pub no_parts : StatusParts
no_parts = record {
  error = false;
  service = false;
  broadcast = false;
  busy = false;
  subsystem = false;
  accept = false;
  terminal = false;
}

-- these bits, with message error besides where it is added
abbrev pub with_error_if : Bool → StatusParts → StatusParts
with_error_if true s = record s { error = true }
with_error_if false s = s

-- the status formed for command c: the flags as they stand, the terminal flag unless it is inhibited
abbrev pub formed : List Noted → ℕ → Bool → Bool → Bool → StatusParts
formed h c error accepts inhibited = record {
  error = error;
  service = flag_now h Service;
  broadcast = is_broadcast c;
  busy = flag_now h Busy;
  subsystem = flag_now h Subsystem;
  accept = accepts;
  terminal = flag_now h Terminal && not inhibited;
}

-- with message error (4.3.3.5.3.3), for a message that ends in error or is illegal
abbrev pub formed_error : List Noted → ℕ → StatusParts
formed_error h c = formed h c true false (inhibited_now h)

-- for a message that the busy flag blocks
abbrev pub formed_blocked : List Noted → ℕ → StatusParts
formed_blocked h c = formed h c false false (inhibited_now h)

-- dynamic bus control is accepted, mode code 0 (4.3.3.5.1.7.1)
abbrev pub accepts : Bool → Cell → Bool
accepts accept (OwnMode code) = (code == mode.dynamic_bus_control) && accept
accepts accept _ = false

-- mode codes 6 and 7 have acted already where their own status is formed
abbrev pub inhibited_after : Bool → Cell → Bool
inhibited_after inhibited cell = or_else (switched mode.inhibit_flag mode.override_inhibit (code_in cell)) inhibited

-- for a message that is done
abbrev pub formed_done : Description → List Noted → ℕ → Cell → StatusParts
formed_done P h c cell = formed h c false (accepts P.accept cell) (inhibited_after (inhibited_now h) cell)

-- own mode codes 2 and 18, transmit status word and transmit last command, report the kept status and leave
-- it as it is (4.3.3.5.1.7.3, 4.3.3.5.1.7.13)
abbrev pub reports_kept : Cell → Bool
reports_kept (OwnMode code) = (code == mode.transmit_status) || (code == mode.last_command)
reports_kept _ = false

-- the cell of a legal own mode code 2 or 18: its message leaves the kept status as it is
abbrev pub spares_kept : Description → Option Cell → Bool
spares_kept P None = false
spares_kept P (Some cell) = reports_kept cell && P.legal cell

-- a command of these codes, where it is legal
abbrev pub spares : Description → ℕ → Bool
spares P c = spares_kept P (cell_of c)

-- Of the three cases of a reset two act with the end of its message: by broadcast, and in silence.
abbrev pub resets_at_end : Turn → Ending → Bool
resets_at_end turn x = resets_by_broadcast x || resets_in_silence turn x

-- What a message that is done sets the kept status to. A reset that acts with this end leaves no bit set. One that acts
-- later, in the slot of its status, sets the formed status here, as any other message does, and that is the one sent.
abbrev pub kept_by_done : Description → List Noted → Bool → ℕ → Cell → Option StatusParts
kept_by_done P h resets c cell =
    if resets then Some no_parts
    else if reports_kept cell then None
    else Some (formed_done P h c cell)

-- an end sets the kept status, by what came before it and whether a reset acts with it
abbrev pub kept_by_end : Description → List Noted → Bool → Ending → Option StatusParts
kept_by_end P h resets Nothing = None
kept_by_end P h resets (Badly c) = if spares P c then None else Some (formed_error h c)
kept_by_end P h resets (Illegal c) = Some (formed_error h c)
kept_by_end P h resets (Blocked c cell) = Some (formed_blocked h c)
kept_by_end P h resets (Done c cell ds) = kept_by_done P h resets c cell

-- The third case of a reset is the slot that sends its status: after it no bit is set.
abbrev pub kept_by_slot : Turn → Option StatusParts
kept_by_slot turn = if resets_in_slot turn then Some no_parts else None

-- what a command that starts a message sets the kept status to
abbrev pub kept_by_command : Bool → ℕ → Option StatusParts
kept_by_command spares c = if spares then None else Some (record no_parts { broadcast = is_broadcast c })

-- a start sets it, to the broadcast bit alone
abbrev pub kept_by_start : Description → Option ℕ → Option StatusParts
kept_by_start P None = None
kept_by_start P (Some c) = kept_by_command (spares P c) c

-- what the later of two says, and where it says nothing, what the other says
abbrev pub later_or : Option StatusParts → Option StatusParts → Option StatusParts
later_or (Some s) e = Some s
later_or None e = e

-- What an event sets the kept status to: by a start, in a slot or by an end. Where one event both ends and starts a
-- message, the start is the later.
abbrev pub kept_set : Description → Noted → List Noted → Option StatusParts
kept_set P p h =
    later_or (kept_by_start P (start_bits p))
    (later_or (kept_by_slot p.turn) (kept_by_end P h (resets_at_end p.turn p.ends) p.ends))

-- a legal own code 2 or 18 that ends in error adds message error
abbrev pub adds_error : Description → Ending → Bool
adds_error P (Badly c) = spares P c
adds_error P _ = false

-- The kept status: what the latest start, end or reset set, with message error where a command that spares it ended
-- in error after that.
abbrev pub kept_now : Description → List Noted → StatusParts
kept_now P h =
    with_error_if (some (λ p. adds_error P p.ends) (since_with (kept_set P) h))
    (or_else (latest_with (kept_set P) h) no_parts)

-- The registers of a terminal: what looking back gives for its history, and how an event changes that.
use Rattle.std.specs.Prelude.{ℕ, Bool, true, false, not, ◌&&◌, if◌then◌else◌, Option, Some, None, List}
use Rattle.bus_word.specs.declared.word.Bus.{Bus}
use Rattle.bus_word.specs.declared.word.Bus.TheVariants.{A, B}
use Rattle.bus_word.specs.declared.status.StatusParts.{StatusParts}
use Rattle.bus_word.specs.declared.cell.Cell.{Cell}
use Rattle.bus_word.specs.Command.{is_broadcast}
use Rattle.bus_word.specs.Mode as mode
use Rattle.bus_legal.specs.Description.{Description}
use Rattle.terminal_rules.specs.declared.event.Flag.TheVariants.{Service, Busy, Subsystem, Terminal}
use Rattle.terminal_rules.specs.declared.event.Event.{Event}
use Rattle.terminal_state.specs.declared.registers.Flags.{Flags}
use Rattle.terminal_state.specs.declared.registers.Registers.{Registers}
use Rattle.terminal_rules.specs.Buses.{same_bus, other}
use Rattle.terminal_rules.specs.LookBack.{or_else}
use Rattle.terminal_rules.specs.History.{Noted, Ending, Nothing, Badly, Illegal, Blocked, Done, of_word, is_gap_on}
use Rattle.terminal_rules.specs.Flags.{flag_set, flag_now}
use Rattle.terminal_rules.specs.SinceReset.{switched, done_code, inhibited_now, off_now, vector_word_set, vector_now, bit_word_set, bit_now, recorded_by, last_now}
use Rattle.terminal_rules.specs.Status.{no_parts, with_error_if, accepts, inhibited_after, reports_kept, spares, kept_by_start, later_or, adds_error, kept_now}
use Rattle.terminal_rules.specs.Steps.{reset_first, kept_after, unless_reset}

-- what looking back over a noted history gives
abbrev pub registers_now : Description → List Noted → Registers
registers_now P h = record {
  power_up = record { vector = P.vector; bit = P.bit };
  flags = record {
    service = flag_now h Service;
    busy = flag_now h Busy;
    subsystem = flag_now h Subsystem;
    terminal = flag_now h Terminal;
  };
  inhibited = inhibited_now h;
  off = record { a = off_now h A; b = off_now h B };
  vector = vector_now P h;
  bit = bit_now P h;
  last = last_now h;
  kept = kept_now P h;
}

-- what a terminal has at power-up
abbrev pub power_up_registers : ℕ → ℕ → Registers
power_up_registers vector bit = record {
  power_up = record { vector = vector; bit = bit };
  flags = record { service = false; busy = false; subsystem = false; terminal = false };
  inhibited = false;
  off = record { a = false; b = false };
  vector = vector;
  bit = bit;
  last = 0;
  kept = no_parts;
}

-- the status formed from the registers
abbrev pub formed_from : Registers → ℕ → Bool → Bool → Bool → StatusParts
formed_from r c error accepts inhibited = record {
  error = error;
  service = r.flags.service;
  broadcast = is_broadcast c;
  busy = r.flags.busy;
  subsystem = r.flags.subsystem;
  accept = accepts;
  terminal = r.flags.terminal && not inhibited;
}

-- for a message that ends in error or is illegal
abbrev pub error_from : Registers → ℕ → StatusParts
error_from r c = formed_from r c true false r.inhibited

-- for one that the busy flag blocks
abbrev pub blocked_from : Registers → ℕ → StatusParts
blocked_from r c = formed_from r c false false r.inhibited

-- for one that is done
abbrev pub done_from : Bool → Registers → ℕ → Cell → StatusParts
done_from accept r c cell = formed_from r c false (accepts accept cell) (inhibited_after r.inhibited cell)

-- the status that goes with a message that ended well
abbrev pub status_from : Bool → Registers → Ending → Option StatusParts
status_from accept r Nothing = None
status_from accept r (Badly c) = None
status_from accept r (Illegal c) = Some (error_from r c)
status_from accept r (Blocked c cell) = Some (blocked_from r c)
status_from accept r (Done c cell ds) = Some (if reports_kept cell then r.kept else done_from accept r c cell)

-- what an end sets the kept status to
abbrev pub kept_from : Description → Registers → Ending → Option StatusParts
kept_from P r Nothing = None
kept_from P r (Badly c) = if spares P c then None else Some (error_from r c)
kept_from P r (Illegal c) = Some (error_from r c)
kept_from P r (Blocked c cell) = Some (blocked_from r c)
kept_from P r (Done c cell ds) = if reports_kept cell then None else Some (done_from P.accept r c cell)

-- the flags after an event, which changes the one that it names
abbrev pub flags_after : Event → Flags → Flags
flags_after e f = record {
  service = or_else (flag_set Service e) f.service;
  busy = or_else (flag_set Busy e) f.busy;
  subsystem = or_else (flag_set Subsystem e) f.subsystem;
  terminal = or_else (flag_set Terminal e) f.terminal;
}

-- an event shuts the transmitter of bus b down, or enables it, or does neither
abbrev pub shuts_by : Bus → Event → Ending → Option Bool
shuts_by b e x = if is_gap_on (other b) e then switched mode.shutdown mode.override_shutdown (done_code x) else None

-- the command of an event that starts a message
abbrev pub started_bits : Event → Bool → Option ℕ
started_bits e starts = if starts then of_word (λ b w. w.bits) e else None

-- the registers after a message of command c ended in error, by whether it spares the kept status
abbrev pub failed : Bool → ℕ → Registers → Registers
failed spares c r = record r { kept = if spares then with_error_if true r.kept else error_from r c }

-- after an event by which a message of this command ended in error, or none did
abbrev pub kept_by_fail : Description → Option ℕ → Registers → StatusParts
kept_by_fail P None r = r.kept
kept_by_fail P (Some c) r = if spares P c then with_error_if true r.kept else error_from r c

-- the registers after it: only the kept status changes
abbrev pub failed_by : Description → Option ℕ → Registers → Registers
failed_by P failed r = record r { kept = kept_by_fail P failed r }

-- after command c started a message
abbrev pub started : Bool → ℕ → Registers → Registers
started spares c r = record r {
  last = or_else (recorded_by (Some c)) r.last;
  kept = if spares then r.kept else record no_parts { broadcast = is_broadcast c };
}

-- after a word, by whether it starts a message
abbrev pub started_if : Bool → Bool → ℕ → Registers → Registers
started_if true spares c r = started spares c r
started_if false spares c r = r

-- after a status was sent, or would have been
abbrev pub keeping : Option StatusParts → Registers → Registers
keeping status r = record r { kept = or_else status r.kept }

-- a mode code that is done on bus c shuts the transmitter of bus b down, or enables it, or does neither
abbrev pub off_after : Bus → Bus → Option ℕ → Option Bool
off_after b c code = if same_bus (other b) c then switched mode.shutdown mode.override_shutdown code else None

-- after a mode code was carried out, on bus c, or none, with a reset or without
abbrev pub carried : Bus → Bool → Option ℕ → Registers → Registers
carried c reset code r =
    record {
      power_up = r.power_up;
      flags = r.flags;
      inhibited = unless_reset reset false (switched mode.inhibit_flag mode.override_inhibit code) r.inhibited;
      off = record {
        a = unless_reset reset false (off_after A c code) r.off.a;
        b = unless_reset reset false (off_after B c code) r.off.b;
      };
      vector = if reset then r.power_up.vector else r.vector;
      bit = if reset then r.power_up.bit else r.bit;
      last = if reset then 0 else r.last;
      kept = if reset then no_parts else r.kept;
    }

-- after a gap on bus b ended a message so, or none, with a reset or without
abbrev pub settled : Bool → Bool → Bus → Bool → Ending → Registers → Registers
settled accept spares b resets (Badly c) r = failed spares c r
settled accept spares b resets x r = carried b resets (done_code x) (keeping (status_from accept r x) r)

-- those of power-up with these flags, where there is a reset
abbrev pub reset_if : Bool → Registers → Registers
reset_if reset r = if reset then record (power_up_registers r.power_up.vector r.power_up.bit) { flags = r.flags } else r

-- the registers after an event, by whether it is a reset and what it starts and ends, from those before it
abbrev pub registers_after : Description → Event → Bool → Bool → Ending → Registers → Registers
registers_after P e reset starts ends r =
    record {
      power_up = r.power_up;
      flags = flags_after e r.flags;
      inhibited = unless_reset reset false (switched mode.inhibit_flag mode.override_inhibit (done_code ends)) r.inhibited;
      off = record {
        a = unless_reset reset false (shuts_by A e ends) r.off.a;
        b = unless_reset reset false (shuts_by B e ends) r.off.b;
      };
      vector = unless_reset reset r.power_up.vector (vector_word_set e) r.vector;
      bit = unless_reset reset r.power_up.bit (bit_word_set e) r.bit;
      last = unless_reset reset 0 (recorded_by (started_bits e starts)) r.last;
      kept = kept_after (later_or (kept_by_start P (started_bits e starts)) (reset_first reset (kept_from P r ends))) (adds_error P ends) r.kept;
    }

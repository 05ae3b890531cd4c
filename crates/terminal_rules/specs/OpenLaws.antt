-- What holds of the message in progress at every history.
use Rattle.std.specs.Prelude.{◌≡◌, ℕ, Option, Some, None, List, ◌⊎◌}
use Rattle.bus_word.specs.declared.word.Bus.{Bus}
use Rattle.bus_word.specs.declared.word.Bus.TheVariants.{A, B}
use Rattle.bus_legal.specs.Description.{Description}
use Rattle.terminal_rules.specs.declared.event.Event.{Event}
use Rattle.terminal_rules.specs.LookBack.{latest}
use Rattle.terminal_rules.specs.History.{Noted, of_start}
use Rattle.terminal_rules.specs.Open.{Open, Idle, Collects, Waits, Resumes}
use Rattle.terminal_rules.specs.Past.{past, open_at}

-- the bus and the command of a start
abbrev pub start_of : Noted → Option (Bus × ℕ)
start_of p = of_start (λ b w. (b, w.bits)) p

-- the command of the message in progress
abbrev pub command_open : Open → Option ℕ
command_open Idle = None
command_open (Collects c after) = Some c
command_open (Waits c a) = Some c
command_open (Resumes c after) = Some c

-- The message in progress on a bus is that of the latest start of all: so its start is the latest on its bus,
-- and no start on the other bus came after it.
abbrev pub LatestStartLaw : Type 0
LatestStartLaw =
    (P : Description) (h : List Event) (b : Bus) (c : ℕ) → command_open (open_at P h b) ≡ Some c → latest start_of (past P h) ≡ Some (b, c)

-- At most one bus has a message in progress.
abbrev pub OneMessageLaw : Type 0
OneMessageLaw = (P : Description) (h : List Event) → (open_at P h A ≡ Idle) ⊎ (open_at P h B ≡ Idle)

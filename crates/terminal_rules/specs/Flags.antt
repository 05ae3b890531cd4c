-- The flags of the subsystem (MIL-STD-1553B, 4.3.3.5.3).
use Rattle.std.specs.Prelude.{Bool, true, false, if◌then◌else◌, Option, Some, None, List}
use Rattle.terminal_rules.specs.declared.event.Flag.{Flag}
use Rattle.terminal_rules.specs.declared.event.Flag.TheVariants.{Service, Busy, Subsystem, Terminal}
use Rattle.terminal_rules.specs.declared.event.Event.{Event}
use Rattle.terminal_rules.specs.declared.event.Event.TheVariants.{Flag as FlagIs}
use Rattle.terminal_rules.specs.LookBack.{latest, or_else}
use Rattle.terminal_rules.specs.History.{Noted}

-- both are the same flag
abbrev pub same_flag : Flag → Flag → Bool
same_flag Service Service = true
same_flag Busy Busy = true
same_flag Subsystem Subsystem = true
same_flag Terminal Terminal = true
same_flag _ _ = false

-- what an event says of a flag
abbrev pub flag_set : Flag → Event → Option Bool
flag_set f (FlagIs g value) = if same_flag f g then Some value else None
flag_set f _ = None

-- a flag is as its latest event says, and off at power-up; nothing else changes it, no reset either
abbrev pub flag_now : List Noted → Flag → Bool
flag_now h f = or_else (latest (λ p. flag_set f p.event) h) false

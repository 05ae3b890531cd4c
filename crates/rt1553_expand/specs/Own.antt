-- Which terminals play their own part in a script, and which data words a message may lack for that.
use Rattle.std.specs.Prelude.{ℕ, ◌==◌, Bool, true, false, ◌&&◌, Option, Some, None}
use Rattle.terminal_rules.specs.LookBack.{some}
use Rattle.rt1553_tool.specs.declared.fields.CommandFields.{CommandFields}
use Rattle.rt1553_expand.specs.declared.script_for.ScriptFor.{ScriptFor}
use Rattle.rt1553_expand.specs.declared.script_for.ScriptFor.TheVariants as script_for

-- lines of subsystems have the address of their terminal in front
abbrev pub is_of_bus : ScriptFor → Bool
is_of_bus (script_for.Terminal own) = false
is_of_bus (script_for.Bus addresses) = true

-- the terminal of this address plays its own part
abbrev pub plays : ScriptFor → ℕ → Bool
plays (script_for.Terminal None) address = false
plays (script_for.Terminal (Some own)) address = own == address
plays (script_for.Bus addresses) address = some (λ a. a == address) addresses.items

-- the terminal that sends in a transfer plays its own part
abbrev pub is_own : ScriptFor → Option CommandFields → Bool
is_own own None = false
is_own own (Some f) = plays own f.address

-- On a bus, the data words of a transfer may be left out where the terminal that sends plays its own part: it sends its own words, whatever
-- the message says. In a script for one terminal they may not.
abbrev pub may_lack_words : ScriptFor → Option CommandFields → Bool
may_lack_words own sender = is_of_bus own && is_own own sender

-- A line that stands first.
use Rattle.std.specs.Prelude.{ℕ, ◌≡◌, ◌<◌, List, length, take, get_or, Some, Ok}
use Rattle.terminal_rules.specs.declared.event.Event.{Event}
use Rattle.script_lines.specs.Text.{NoLineFeed}
use Rattle.script_lines.specs.Line.{meaning}

-- a line of i bytes stands first, with its line feed, and says this event
pub record BeginsWith (bytes : List ℕ) (i : ℕ) (e : Event) : Type 0 where
  pub within : i < length bytes
  pub line_feed : get_or bytes i 0 ≡ 10
  pub one_line : NoLineFeed (take i bytes)
  pub says : meaning (take i bytes) ≡ Ok (Some e)

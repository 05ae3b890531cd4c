-- What a function did that wrote events.
use Rattle.std.specs.Prelude.{ℕ, ◌≡◌, List, [], ◌∷◌, ◌++◌, Ok, Some}
use Rattle.terminal_rules.specs.declared.event.Event.{Event}
use Rattle.script_lines.specs.Line.{meaning}
use Rattle.script_lines.specs.EventLine.{event_text, script_text}

-- each event is read from its line
abbrev pub AreRead : List Event → Type 0
AreRead [] = Unit {0}
AreRead (e ∷ es) = (meaning (event_text e) ≡ Ok (Some e)) × AreRead es

-- the lines of these events were added, and they are read from them
pub record Wrote (old new : List ℕ) (es : List Event) : Type 0 where
  pub bytes : new ≡ old ++ script_text es
  pub read : AreRead es

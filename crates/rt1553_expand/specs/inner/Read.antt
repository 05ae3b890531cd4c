-- What was read of a line.
use Rattle.std.specs.Prelude.{ℕ, ◌≡◌, ◌≤◌, false, List, length, IfSome, Ok}
use Rattle.bus_word.specs.Command.{AreOfTheirWidth}
use Rattle.script_lines.specs.Line.{meaning}
use Rattle.rt1553_tool.specs.Fields.{AreOfWidth, in_word}
use Rattle.rt1553_expand.specs.declared.script_for.ScriptFor.{ScriptFor}
use Rattle.rt1553_expand.specs.declared.expanding.ReadLine.{ReadLine}
use Rattle.rt1553_expand.specs.declared.expanding.ReadLine.TheVariants.{Kept, Written}
use Rattle.rt1553_expand.specs.Own.{is_of_bus}
use Rattle.rt1553_expand.specs.Events.{message_events}
use Rattle.rt1553_expand.specs.Expansion.{Expansion, Stays, Gives}
use Rattle.rt1553_expand.specs.inner.Said.{said_message}

-- what a line that was read gives in the script
abbrev pub expansion_by : ScriptFor → List ℕ → ReadLine → Expansion
expansion_by own line (Kept said) = Stays line said
expansion_by own line (Written bus message) = Gives (message_events own bus (said_message message))

-- in a script for one terminal a line that stays has room and means this, and the fields of a message are of their width
abbrev pub IsWritable : ScriptFor → List ℕ → ReadLine → Type 0
IsWritable own line (Kept said) = is_of_bus own ≡ false → (length line ≤ 64) × (meaning line ≡ Ok said)
IsWritable own line (Written bus message) = AreOfWidth message.first × IfSome message.sender (λ s. AreOfTheirWidth (in_word s))

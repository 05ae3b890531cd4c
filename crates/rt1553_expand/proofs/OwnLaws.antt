-- The words of a terminal that plays its own part.
use Rattle.std.proofs.Common.{◌≡◌, true, Option, Some, None, refl}
use Rattle.bus_word.specs.declared.word.Bus.{Bus}
use Rattle.rt1553_tool.specs.declared.fields.CommandFields.{CommandFields}
use Rattle.rt1553_expand.specs.declared.script_for.ScriptFor.{ScriptFor}
use Rattle.rt1553_expand.specs.declared.script_for.ScriptFor.TheVariants as script_for
use Rattle.rt1553_expand.specs.Message.{SaidMessage}
use Rattle.rt1553_expand.specs.Own.{is_own, may_lack_words}
use Rattle.rt1553_expand.specs.Events.{LeftOutWordsAreNone}

sends-itself : (own : ScriptFor) (sender : Option CommandFields) → may_lack_words own sender ≡ true → is_own own sender ≡ true
sends-itself (script_for.Terminal address) sender is = absurd (cc)
sends-itself (script_for.Bus addresses) sender is = is

pub no_difference : LeftOutWordsAreNone
no_difference own bus m is = rw (sends-itself own m.sender is) refl

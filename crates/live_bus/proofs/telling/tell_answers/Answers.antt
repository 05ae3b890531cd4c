use Rattle.std.proofs.Common.{◌∙◌, sym}
use Rattle.live_bus.proofs.TellLaws.{none_told}
use Rattle.live_bus.proofs.telling.tell_answers.Goals as goal

pub returns-else-brings_answers : goal.returns-else-brings_answers
returns-else-brings_answers c members s a = none_told members c.args.event.now (sym c.brings_answers.ensures ∙ c.if-brings_answers.false) members

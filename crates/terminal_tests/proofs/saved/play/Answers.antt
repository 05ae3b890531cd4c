use Rattle.std.proofs.Common.{ap, ◌∙◌, sym}
use Rattle.bus_legal.specs.Parts.{description_in}
use Rattle.terminal_tests.proofs.saved.play.Goals as goal

pub returns : goal.returns
returns c = let rests = c.step.follows.holds-at-none in rests.2 ∙ c.requires ∙ ap description_in (sym rests.1)

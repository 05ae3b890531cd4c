use Rattle.std.proofs.Common.{ap, ◌∙◌, sym}
use Rattle.bus_legal.specs.Parts.{description_in}
use Rattle.bus_legal.proofs.NormalLaws.{set_up_normal}
use Rattle.terminal_tests.proofs.saved.powered_up.Goals as goal

pub returns : goal.returns
returns c = c.power_up.ensures.stands.description ∙ set_up_normal c.args.normal c.setup-setup.result c.setup-setup.ensures.parts ∙ ap description_in (sym c.power_up.ensures.legality)

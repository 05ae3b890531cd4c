use Rattle.std.proofs.Common.{◌∙◌, arith}
use Rattle.script_recordings.proofs.TallyLaws.{shows_none}
use Rattle.script_recordings.proofs.tally.Tally.warning_behind.Goals as goal

pub returns : goal.returns
returns c ms i = c.stated_warning.ensures ∙ shows_none ms c.args.self.now c.args.before i (omega (arith, c.if-before-self.false))

use Rattle.script_recordings.proofs.StretchLaws.{counts_more}
use Rattle.script_recordings.proofs.explaining.Stretches.add.Goals as goal

pub returns : goal.returns
returns c = λ cs ms counts many tally.
    counts_more cs ms c.args.self.now (record { count = c.in-Some-checked_add.count; answers = c.in-Some.answers }) c.args.tally.now counts many tally c.in-Some-checked_add.ensures.1 c.in-Some.ensures.1

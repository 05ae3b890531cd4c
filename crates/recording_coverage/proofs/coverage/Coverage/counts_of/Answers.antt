use Rattle.recording_coverage.proofs.CountLaws.{counts_in}
use Rattle.recording_coverage.proofs.coverage.Coverage.counts_of.Goals as goal

pub returns : goal.returns
returns c = λ ends covers.
    counts_in ends c.args.self.now c.args.command c.message_number.result c.at.result c.message_number.ensures.number c.message_number.ensures.few c.at.ensures covers

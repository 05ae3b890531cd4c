use Rattle.recording_coverage.proofs.CountLaws.{covers_one}
use Rattle.recording_coverage.proofs.coverage.Coverage.note.Goals as goal

pub returns : goal.returns
returns c = λ ends covers. covers_one ends c.args.end c.message_number.result c.args.self.now c.count.new.self c.message_number.ensures.number c.message_number.ensures.few c.count.ensures covers

use Rattle.line_format.proofs.AnswerLaws.{one}
use Rattle.bus_canon.specs.Canon.{is_read, canon}
use Rattle.bus_canon.proofs.laws.bytes_have_one_answer.Goals as goal

pub returns : goal.returns
returns c = one (canon is_read)

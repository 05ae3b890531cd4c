use Rattle.line_format.proofs.AnswerLaws.{reading_answers}
use Rattle.line_format.proofs.laws.reading_answers.Goals as goal

pub returns : goal.returns
returns g c = reading_answers

use Rattle.line_format.proofs.numbers.number_of.Goals as goal

pub returns-in-Word-clause-value : goal.returns-in-Word-clause-value
returns-in-Word-clause-value c = rw c.in-Word.is c.word.ensures.value

pub returns-in-Mask-clause-value : goal.returns-in-Mask-clause-value
returns-in-Mask-clause-value c = rw c.in-Mask.is c.mask.ensures.value

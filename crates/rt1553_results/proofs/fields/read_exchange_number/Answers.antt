use Rattle.rt1553_results.proofs.FieldLaws.{numeral_is_text}
use Rattle.rt1553_results.proofs.fields.read_exchange_number.Goals as goal

pub returns-in_default : goal.returns-in_default
returns-in_default c number = c.in_default.ensures.cases.0 (numeral_is_text c.args.field.now number.0)

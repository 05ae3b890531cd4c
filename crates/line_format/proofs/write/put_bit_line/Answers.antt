use Rattle.std.proofs.lemmas.Result.{IfOk-weaker}
use Rattle.line_format.specs.Shapes.{number_field}
use Rattle.line_format.proofs.Writes.{number_text, bit_spelled}
use Rattle.line_format.proofs.write.put_bit_line.Goals as goal

pub returns : goal.returns
returns c =
    IfOk-weaker c.put_number_line.result _ _
    (λ _ h. (number_text c.args.name.now (number_field 2 1) c.bit_number.result, h, bit_spelled c.args.name.now c.args.bit c.bit_number.result c.bit_number.ensures)) c.put_number_line.ensures

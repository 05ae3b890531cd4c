use Rattle.std.proofs.Common.{codes, arith}
use Rattle.std.proofs.lemmas.Result.{IfOk-weaker}
use Rattle.bus_legal.specs.Tables.{is_broadcast_mask}
use Rattle.line_format.specs.Shapes.{mask}
use Rattle.line_format.proofs.Writes.{number_text, number_spelled}
use Rattle.bus_canon.proofs.cell_lines.put_broadcast_code_line.Goals as goal

pub returns : goal.returns
returns c =
    IfOk-weaker c.put_number_line.result _ _
    (λ _ h. (number_text (codes "broadcast-mode") mask c.args.legal, h, number_spelled (codes "broadcast-mode") mask is_broadcast_mask c.args.legal (omega arith) c.requires)) c.put_number_line.ensures

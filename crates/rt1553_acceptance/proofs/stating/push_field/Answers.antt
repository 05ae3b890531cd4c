use Rattle.std.proofs.Common.{arith}
use Rattle.rt1553_acceptance.proofs.FieldSteps.{first_field, next_field}
use Rattle.rt1553_acceptance.proofs.stating.push_field.Goals as goal

pub returns-then-room-eq0-clause-bytes : goal.returns-then-room-eq0-clause-bytes
returns-then-room-eq0-clause-bytes c words =
    first_field c.args.room c.args.text.now.bytes _ _ c.args.word words (omega (arith, c.if-room-eq0.true)) c.push_str.ensures.bytes c.push_word.ensures.bytes

pub returns-clause-bytes : goal.returns-clause-bytes
returns-clause-bytes c words =
    next_field c.args.room c.args.text.now.bytes _ _ c.args.word words (omega (arith, c.if-room-eq0.false)) c.push_str-2.ensures.bytes c.push_word-2.ensures.bytes

use Rattle.std.proofs.Common.{◌*◌, ◌∙◌, length, ap, sym, arith}
use Rattle.line_format.proofs.Hexadecimals.{decoded, too_few, capital_here, front_read, hex_ok, hex_err}
use Rattle.line_format.proofs.numbers.hexadecimal.Goals as goal

pub returns-then-bytes-width-clause-value : goal.returns-then-bytes-width-clause-value
returns-then-bytes-width-clause-value c = too_few 16 (2 * length c.args.to.now) 0 c.args.bytes.now (omega (arith, c.if-bytes-width.true))

pub returns-then-has_capital-clause-value : goal.returns-then-has_capital-clause-value
returns-then-has_capital-clause-value c =
    capital_here (2 * length c.args.to.now) c.args.bytes.now c.split_at.result.0.now c.split_at.result.1.now c.split_at.ensures.front c.split_at.ensures.back c.split_at.ensures.front_len (sym c.has_capital.ensures ∙ c.if-has_capital.true)

pub returns-in-Ok-clause-value : goal.returns-in-Ok-clause-value
returns-in-Ok-clause-value c =
    front_read (length c.args.to.now) c.args.bytes.now c.split_at.result.0.now c.split_at.result.1.now c.split_at.ensures.front c.split_at.ensures.back c.split_at.ensures.front_len (sym c.has_capital.ensures ∙ c.if-has_capital.false)
    ∙ ap (decoded 0 c.split_at.result.1.now) (hex_ok _ c.decode_to_slice.result c.decode_to_slice.new.out c.in-Ok.field-0 c.decode_to_slice.ensures.value c.in-Ok.is)

pub returns-in-Err-clause-value : goal.returns-in-Err-clause-value
returns-in-Err-clause-value c =
    front_read (length c.args.to.now) c.args.bytes.now c.split_at.result.0.now c.split_at.result.1.now c.split_at.ensures.front c.split_at.ensures.back c.split_at.ensures.front_len (sym c.has_capital.ensures ∙ c.if-has_capital.false)
    ∙ hex_err 0 c.split_at.result.1.now _ c.decode_to_slice.result c.decode_to_slice.new.out c.in-Err.field-0 c.decode_to_slice.ensures.value c.in-Err.is

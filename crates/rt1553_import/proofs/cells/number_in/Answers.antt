use Rattle.std.proofs.Common.{sym}
use Rattle.rt1553_import.proofs.CellLaws.{number_none, number_read, number_large, numeral_is_text, numeral_from}
use Rattle.rt1553_import.proofs.cells.number_in.Goals as goal

pub returns-then-not-is_numeral : goal.returns-then-not-is_numeral
returns-then-not-is_numeral c = number_none c.args.radix c.args.digits.now (sym c.if-not-is_numeral.ensures)

pub returns-in_default : goal.returns-in_default
returns-in_default c = absurd (c.in_default.ensures.cases.0 (numeral_is_text c.args.radix c.args.digits.now c.requires.high (numeral_from c.args.radix c.args.digits.now (sym c.if-not-is_numeral.ensures))))

pub returns-in-Ok-from_str_radix : goal.returns-in-Ok-from_str_radix
returns-in-Ok-from_str_radix c = number_read c.args.radix c.args.digits.now c.in-Ok.text.now c.in-Ok-from_str_radix.number c.requires.high (sym c.if-not-is_numeral.ensures) c.in-Ok.ensures.cases.0 c.in-Ok-from_str_radix.ensures.value

pub returns-in-Err : goal.returns-in-Err
returns-in-Err c = number_large c.args.radix c.args.digits.now c.in-Ok.text.now c.requires.high (sym c.if-not-is_numeral.ensures) c.in-Ok.ensures.cases.0 c.in-Err.ensures.value

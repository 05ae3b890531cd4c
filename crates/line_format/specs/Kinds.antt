-- The kinds of fields: how many digits each has, and of which base.
use Rattle.std.specs.Prelude.{ℕ, ◌^◌}
use Rattle.line_format.specs.Format.{Field}
use Rattle.line_format.specs.Shapes.{number_field, decimal, word, mask}
use Rattle.line_format.specs.declared.field_kind.FieldKind.{FieldKind}
use Rattle.line_format.specs.declared.field_kind.FieldKind.TheVariants.{Bit, Digit, Decimal, Word, Mask}

-- a bit is a digit of base 2
abbrev pub field_of : FieldKind → Field
field_of Bit = number_field 2 1
field_of Digit = number_field 10 1
field_of Decimal = decimal
field_of Word = word
field_of Mask = mask

-- the numbers of a field are below this
abbrev pub limit : Field → ℕ
limit f = f.base ^ f.width

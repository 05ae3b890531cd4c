use Rattle.std.proofs.Common.{◌∙◌, ap, refl}
use Rattle.hex.specs.Hex.{encode_lower}
use Rattle.line_format.proofs.Hexadecimals.{written, word_digits}
use Rattle.line_format.proofs.numbers.word_digits.Goals as goal

pub returns : goal.returns
returns c =
    written c.encode_to_slice.result c.encode_to_slice.new.output _ (c.encode_to_slice.ensures.fits.1 (rw c.to_be_bytes.ensures refl)) c.encode_to_slice.ensures.written
    ∙ ap encode_lower c.to_be_bytes.ensures ∙ word_digits c.args.word c.ranges.word.fits

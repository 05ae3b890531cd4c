use Rattle.std.proofs.Common.{ap, ◌∙◌}
use Rattle.line_format.specs.Reading.{line_at}
use Rattle.line_format.proofs.FormatLaws.{line_at-spell, line_at-is, LineRead}
use Rattle.line_format.proofs.laws.lines_are_read_as_spelled.Goals as goal

pub returns : goal.returns
returns c = λ s xs rest bytes. (
  λ found. let r : LineRead s bytes (xs, rest) = line_at-is s bytes (xs, rest) found in (r.allows, r.is),
  λ spelled. ap (line_at s) spelled.1 ∙ line_at-spell s xs rest spelled.0,
)

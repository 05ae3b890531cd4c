use Rattle.refused_lines.proofs.LineLaws.{first-with_feed, first-without_feed}
use Rattle.refused_lines.proofs.lines.first_line.Goals as goal

pub returns-in-Some-clause-lines : goal.returns-in-Some-clause-lines
returns-in-Some-clause-lines c = first-with_feed c.args.bytes.now c.in-Some.len c.in-Some.ensures.within c.in-Some.ensures.first c.in-Some.ensures.found

pub returns-in-None-clause-lines : goal.returns-in-None-clause-lines
returns-in-None-clause-lines c = first-without_feed c.args.bytes.now c.requires c.in-None.ensures.none

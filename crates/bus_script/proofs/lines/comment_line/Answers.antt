use Rattle.std.proofs.Common.{arith}
use Rattle.bus_script.proofs.FeedLaws.{comment_starts}
use Rattle.bus_script.proofs.lines.comment_line.Goals as goal

pub returns : goal.returns
returns c = let found = c.in_ok-len.ensures in comment_starts c.args.bytes.now c.in_ok-len.len c.if-bytes-ne35.false found.within found.found found.first (omega arith)

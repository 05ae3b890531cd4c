use Rattle.std.proofs.Common.{arith}
use Rattle.rt1553.proofs.OneLineLaws.{no_line_feed}
use Rattle.rt1553.proofs.one_line.OneLine.ended.Goals as goal

pub returns : goal.returns
returns c = record {
  text = c.args.self.text.bytes;
  is = c.push.ensures.ascii (omega arith);
  none = no_line_feed c.args.self.text.bytes c.args.self.none;
}

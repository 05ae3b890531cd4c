use Rattle.std.proofs.Common.{◌∙◌, sym, rules}
use Rattle.recorded_terminal.proofs.WayLaws.{same_parts}
use Rattle.recorded_terminal.proofs.way.are_alike.Goals as goal

pub returns : goal.returns
returns c e = record {
  off_a = search rules;
  off_b = search rules;
  last = search rules;
  inhibited = search rules;
  kept = same_parts c.args.one.now.kept c.args.other.now.kept (sym c.eq.ensures ∙ e);
}

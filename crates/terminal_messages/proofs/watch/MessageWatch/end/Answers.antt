use Rattle.std.proofs.Common.{◌∙◌}
use Rattle.terminal_messages.proofs.FoldLaw.{still_view}
use Rattle.terminal_messages.proofs.watch.MessageWatch.end.Goals as goal

pub returns : goal.returns
returns g c P at h s = c.end.ensures ∙ still_view P at h c.args.self.now.fold s.fold

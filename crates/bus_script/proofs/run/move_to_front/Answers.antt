use Rattle.std.proofs.Common.{ap, ◌∙◌, take, ◌-◌}
use Rattle.bus_script.proofs.RunLaws.{kept_front}
use Rattle.bus_script.proofs.run.move_to_front.Goals as goal

pub returns : goal.returns
returns c = ap (take (c.args.total - c.args.done)) c.copy_within.ensures.after ∙ kept_front c.args.buffer.now c.args.done c.args.total c.requires.within c.requires.fits

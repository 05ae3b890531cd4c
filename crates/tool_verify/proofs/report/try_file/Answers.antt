use Rattle.tool_verify.proofs.TriedLaws.{tried_with}
use Rattle.tool_verify.proofs.report.try_file.Goals as goal

pub returns : goal.returns
returns g c whole =
    tried_with c.args.played.now c.args.opened.script _ c.in-Ok.profile (c.play_hashed-outcome.ensures.digest whole) c.in-Ok.ensures c.in_ok-digests.ensures (c.play_hashed-outcome.ensures.outcome whole)

use Rattle.std.proofs.Common.{◌++◌, subst}
use Rattle.recording_coverage.specs.Covers.{Covers}
use Rattle.recording_coverage.proofs.EndingLaws.{endings_alike}
use Rattle.recording_coverage.proofs.covering.count_events.Goals as goal

pub returns : goal.returns
returns c = λ P ends reached covers.
    subst (λ ks. Covers (ends ++ ks) c.count.new.coverage) (endings_alike c.args.normal.now c.setup.result P c.args.events.now c.setup.ensures.normal c.setup.ensures.parts reached) (c.count.ensures ends covers)

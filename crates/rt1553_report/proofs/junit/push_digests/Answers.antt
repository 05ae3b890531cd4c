use Rattle.rt1553_report.specs.Junit.{digest_properties}
use Rattle.rt1553_report.proofs.TextLaws.{adds, adds_on_ok}
use Rattle.rt1553_report.proofs.junit.push_digests.Goals as goal

pub returns : goal.returns
unfolding digest_properties
returns c =
    adds_on_ok c.push_some_digest-3.result _ _
    (adds c.in_ok-push_some_digest.ensures c.in_ok-push_some_digest-2.ensures)
    c.push_some_digest-3.ensures

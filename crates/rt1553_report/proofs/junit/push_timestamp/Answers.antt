use Rattle.std.proofs.Common.{ap, option_map}
use Rattle.rt1553_report.specs.Junit.{IsTimestamp}
use Rattle.rt1553_report.proofs.TextLaws.{piece_of_same}
use Rattle.rt1553_report.proofs.junit.push_timestamp.Goals as goal

pub returns-in-Some : goal.returns-in-Some
returns-in-Some c = piece_of_same c.push_stamp.result IsTimestamp _ _ (ap (option_map (λ d. d.now)) c.in-Some.is) c.push_stamp.ensures

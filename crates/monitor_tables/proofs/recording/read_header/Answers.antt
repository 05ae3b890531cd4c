use Rattle.csv.specs.Records.{fields_of}
use Rattle.monitor_tables.proofs.ReadLaws.{next-told}
use Rattle.monitor_tables.proofs.recording.read_header.Goals as goal

pub returns : goal.returns
returns g c = (fields_of c.next.new.self.row, c.in_ok-layout.ensures, (_, c.in_ok-left_out.ensures), next-told _ _ _ c.if-not-branch.false c.in_ok-next.ensures.reads)

use Rattle.csv_rows.proofs.ScanLaws.{csv_or_broken}
use Rattle.csv_rows.proofs.laws.csv_or_broken.Goals as goal

pub returns : goal.returns
returns c = csv_or_broken

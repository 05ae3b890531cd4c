use Rattle.csv.specs.Records.{fields_of}
use Rattle.monitor_tables.proofs.ReadLaws.{read-one}
use Rattle.monitor_tables.proofs.records.TableRecords.read.Goals as goal

pub returns-clause-reads : goal.returns-clause-reads
returns-clause-reads g c = read-one _ _ (fields_of c.read_byte_record.new.row) _ c.in-Ok-true.field-0-test c.in-Ok-true.ensures.reads c.in-Ok-true.ensures.ready c.in_ok-trim.ensures.fields

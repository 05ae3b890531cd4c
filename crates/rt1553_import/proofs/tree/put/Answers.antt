use Rattle.rt1553_import.proofs.TableLaws.{put_table}
use Rattle.rt1553_import.proofs.tree.put.Goals as goal

pub returns-in-Ok : goal.returns-in-Ok
returns-in-Ok c = put_table c.in_ok-from_str.field-0 c.args.key.now c.args.value _ _ c.in_ok-from_str.ensures.ok c.in-Ok.ensures.entries

use Rattle.toml.proofs.Views.{table_get}
use Rattle.rt1553_lint.proofs.tree.root_value.Goals as goal

pub returns : goal.returns
returns c = rw (← c.name.ensures) (table_get c.get.result c.name.result.now c.args.table.now.entries c.get.ensures.value)

use Rattle.toml.proofs.Views.{table_get}
use Rattle.bus_profile.proofs.section.Section.value.Goals as goal

pub returns : goal.returns
returns c = rw (← c.name.ensures) (table_get c.get.result c.name.result.now c.args.self.now.table.now.entries c.get.ensures.value)

use Rattle.toml.proofs.Views.{view-Table}
use Rattle.bus_profile.proofs.entry_faults.push_item.Goals as goal

pub returns-in-Table : goal.returns-in-Table
returns-in-Table c = rw (c.in-Table.is, view-Table c.in-Table.table) c.push_table.ensures

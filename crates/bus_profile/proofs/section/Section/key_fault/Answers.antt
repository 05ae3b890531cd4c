use Rattle.std.proofs.Common.{◌∙◌}
use Rattle.toml.specs.View.{table_view}
use Rattle.bus_profile.proofs.AllFaults.{array_told-rule, array_told-mode, array_told-initial, array_told-words}
use Rattle.bus_profile.proofs.section.Section.key_fault.Goals as goal

pub returns-in-Rule : goal.returns-in-Rule
returns-in-Rule c = rw c.in-Rule.is (c.array_fault.ensures ∙ array_told-rule c.args.self.now.part (table_view c.args.self.now.table.now))

pub returns-in-Mode : goal.returns-in-Mode
returns-in-Mode c = rw c.in-Mode.is (c.array_fault-in-Mode.ensures ∙ array_told-mode c.args.self.now.part (table_view c.args.self.now.table.now))

pub returns-in-Initial : goal.returns-in-Initial
returns-in-Initial c = rw c.in-Initial.is (c.array_fault-in-Initial.ensures ∙ array_told-initial c.args.self.now.part (table_view c.args.self.now.table.now))

pub returns-in-Words : goal.returns-in-Words
returns-in-Words c = rw c.in-Words.is (c.array_fault-in-Words.ensures ∙ array_told-words c.args.self.now.part (table_view c.args.self.now.table.now))

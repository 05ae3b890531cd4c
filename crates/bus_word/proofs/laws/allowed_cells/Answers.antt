use Rattle.bus_word.proofs.CellLaws.{allowed_have_commands, commands_have_allowed}
use Rattle.bus_word.proofs.laws.allowed_cells.Goals as goal

pub returns-clause-have_commands : goal.returns-clause-have_commands
returns-clause-have_commands c = allowed_have_commands

pub returns-clause-of_commands : goal.returns-clause-of_commands
returns-clause-of_commands c = commands_have_allowed

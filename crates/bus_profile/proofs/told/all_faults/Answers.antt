use Rattle.std.proofs.Common.{◌∙◌}
use Rattle.toml.specs.View.{table_view}
use Rattle.bus_profile.proofs.AllFaults.{told_all}
use Rattle.bus_profile.proofs.told.all_faults.Goals as goal

pub returns-clause-all : goal.returns-clause-all
returns-clause-all c = λ short. c.in_ok-push_required.ensures ∙ told_all (table_view c.args.table.now) short

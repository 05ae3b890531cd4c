use Rattle.toml.specs.View.{table_view}
use Rattle.bus_profile.specs.Read.{IsTree}
use Rattle.bus_profile.proofs.Order.{accepts, refuses}
use Rattle.bus_profile.proofs.read.read_profile.Goals as goal

pub returns-in-Ok-clause-accepted : goal.returns-in-Ok-clause-accepted
returns-in-Ok-clause-accepted c =
    let tree = table_view c.in-Ok.table in
    let is : IsTree c.args.text.now tree = record { utf8 = c.in-Ok.ensures.ok.0; reads = c.in-Ok.ensures.ok.1 } in
    accepts c.args.text.now tree c.profile_of.result is c.profile_of.ensures

pub returns-in-Ok-clause-refused : goal.returns-in-Ok-clause-refused
returns-in-Ok-clause-refused c =
    let tree = table_view c.in-Ok.table in
    let is : IsTree c.args.text.now tree = record { utf8 = c.in-Ok.ensures.ok.0; reads = c.in-Ok.ensures.ok.1 } in
    refuses c.args.text.now tree c.profile_of.result is c.profile_of.ensures

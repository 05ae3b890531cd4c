use Rattle.std.proofs.Common.{◌∙◌, sym}
use Rattle.terminal_bus.specs.Members.{powered_up}
use Rattle.tool_buses.proofs.BusLefts.{one_added}
use Rattle.tool_buses.proofs.SharedLaws.{is_crowded}
use Rattle.tool_buses.proofs.powered.add_one.Goals as goal

pub returns-then-address-clause-added : goal.returns-then-address-clause-added
returns-then-address-clause-added c ok Ps p = one_added c.args.normal.now c.setup.result c.args.address Ps c.args.bus.now c.add.new.self c.add.result c.setup.ensures.parts (sym c.address.ensures ∙ c.if-address.true) c.requires (sym c.is_ok.ensures.value ∙ ok) c.add.ensures.not_added c.add.ensures.added p

pub returns-then-address-clause-other : goal.returns-then-address-clause-other
returns-then-address-clause-other c refused Ps p = is_crowded c.args.normal.now c.setup.result c.args.address Ps c.add.result c.setup.ensures.parts (sym c.address.ensures ∙ c.if-address.true) (sym c.is_ok.ensures.value ∙ refused) (c.add.ensures.not_added (powered_up Ps) p.stands)

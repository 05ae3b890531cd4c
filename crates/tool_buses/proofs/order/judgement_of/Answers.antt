use Rattle.std.proofs.Common.{refl}
use Rattle.tool_buses.proofs.BusLefts.{judges_order}
use Rattle.tool_buses.proofs.order.judgement_of.Goals as goal

pub returns : goal.returns
returns c vs bus source script parts p cut alone = judges_order vs bus source script parts c.args.lefts.items _ refl p cut alone

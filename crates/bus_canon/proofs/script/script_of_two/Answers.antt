use Rattle.terminal_exchanges.specs.Values.{exchange_in}
use Rattle.bus_canon.proofs.ScriptLaws.{script-of-two}
use Rattle.bus_canon.proofs.script.script_of_two.Goals as goal

pub returns : goal.returns
returns c =
    script-of-two (exchange_in c.args.first) (exchange_in c.args.second) c.new-script.result.items c.push_exchange.new.script.items c.push_exchange-2.new.script.items
    c.new-script.ensures c.push_exchange.ensures.items c.push_exchange-2.ensures.items

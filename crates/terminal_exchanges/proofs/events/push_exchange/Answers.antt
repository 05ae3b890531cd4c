use Rattle.terminal_exchanges.specs.Values.{exchange_in}
use Rattle.terminal_exchanges.proofs.EventLaws.{exchange-parts}
use Rattle.terminal_exchanges.proofs.events.push_exchange.Goals as goal

pub returns-clause-items : goal.returns-clause-items
returns-clause-items c =
    exchange-parts c.args.script.now.items (exchange_in c.args.exchange) c.push_valid_word.new.script.items c.push_data.new.script.items c.push.new.self.items c.push_slots.new.script.items
    c.push_valid_word.ensures.items c.push_data.ensures.items c.push.ensures.items c.push_slots.ensures.items

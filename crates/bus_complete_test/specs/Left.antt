-- What is left of the exchanges.
use Rattle.std.specs.Prelude.{List, ◌++◌, map}
use Rattle.bus_legal.specs.Parts.{description_in}
use Rattle.terminal_exchanges.specs.Exchanges.{Exchange}
use Rattle.terminal_exchanges.specs.Values.{exchange_in}
use Rattle.bus_complete_test.specs.Trials.{tried_after}
use Rattle.bus_complete_test.specs.declared.walk.Exchanges.{Exchanges}

-- those that wait, and those of the trials after them
abbrev pub exchanges_left : Exchanges → List Exchange
exchanges_left e = map exchange_in e.waiting.items ++ tried_after (description_in e.normal) e.trial

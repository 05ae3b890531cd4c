-- What came to one terminal of the bus, as the events that came.
use Rattle.std.specs.Prelude.{List, ◌++◌}
use Rattle.std.specs.Option.{option_to_list}
use Rattle.terminal_rules.specs.declared.event.Event.{Event}
use Rattle.terminal_bus.specs.declared.came.CameTo.{CameTo}

abbrev pub events_that_came : CameTo → List Event
events_that_came came = option_to_list came.event ++ (option_to_list came.on_a ++ option_to_list came.on_b)

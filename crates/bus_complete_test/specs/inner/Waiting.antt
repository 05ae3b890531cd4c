-- The trial that comes next, and the exchanges that wait, as truth values.
use Rattle.std.specs.Prelude.{Bool, true, ◌&&◌, nat_lt, nat_le, Option, Some, None, List}
use Rattle.std.specs.List.{list_all}
use Rattle.bus_word.specs.Cell.{is_data_place}
use Rattle.terminal_exchanges.specs.declared.exchange.Exchange.{Exchange}
use Rattle.bus_complete_test.specs.declared.trial.Trial.{Trial}
use Rattle.bus_complete_test.specs.declared.trial.Trial.TheVariants.{BroadcastOption, Transmit, Receive, OwnCode, BroadcastReceive, BroadcastCode, Wraparound}

-- subaddresses, word counts and mode codes of a trial are in their ranges
abbrev pub is_trial : Option Trial → Bool
is_trial None = true
is_trial (Some BroadcastOption) = true
is_trial (Some (Transmit s n)) = is_data_place s n
is_trial (Some (Receive s n)) = is_data_place s n
is_trial (Some (OwnCode code)) = nat_lt code 32
is_trial (Some (BroadcastReceive s n)) = is_data_place s n
is_trial (Some (BroadcastCode code)) = nat_lt code 32
is_trial (Some (Wraparound s)) = is_data_place s 1

-- no exchange has more than 32 data words or 33 slots
abbrev pub are_short : List Exchange → Bool
are_short exchanges = list_all (λ x. nat_le x.zeros 31 && nat_le x.slots 33) exchanges

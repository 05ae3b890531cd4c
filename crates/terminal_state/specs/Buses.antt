-- What is kept for each of the two buses.
use Rattle.std.specs.Prelude.{Bool}
use Rattle.bus_word.specs.declared.word.Bus.{Bus}
use Rattle.bus_word.specs.declared.word.Bus.TheVariants.{A, B}
use Rattle.terminal_state.specs.declared.buses.OnBuses.{OnBuses}

-- a truth value for each bus
abbrev pub on_bus : Bus → OnBuses → Bool
on_bus A t = t.a
on_bus B t = t.b

-- with another value for this bus
abbrev pub with_bus : Bus → Bool → OnBuses → OnBuses
with_bus A value t = record t { a = value }
with_bus B value t = record t { b = value }

-- with another value for the other bus
abbrev pub with_other_bus : Bus → Bool → OnBuses → OnBuses
with_other_bus A value t = record t { b = value }
with_other_bus B value t = record t { a = value }

use Rattle.std.proofs.Common.{◌≡◌, List, Some, map, take, slice_get}
use Rattle.bus_legal.specs.Parts.{Parts, description_in}
use Rattle.tool_buses.specs.Powered.{IsPowered}
use Rattle.tool_buses.proofs.AloneLaws.{WatchedAt}
use Rattle.tool_buses.proofs.alone.messages_at.Given as goal

abbrev pub invariant-loop-event : goal.invariant-loop-event
invariant-loop-event l =
    (vs : List Parts) → IsPowered (map description_in vs) l.bus → slice_get vs l.place ≡ Some l.normal → WatchedAt (map description_in vs) l.place (take l.event-index l.events) l.played l.watch l.messages.items

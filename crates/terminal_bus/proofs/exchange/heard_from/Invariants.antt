use Rattle.std.proofs.Common.{◌≡◌, take}
use Rattle.std.specs.Option.{option_to_list}
use Rattle.terminal_rules.specs.LookBack.{keep}
use Rattle.terminal_bus.specs.Members.{heard_of}
use Rattle.terminal_bus.specs.inner.Seats.{sends_at}
use Rattle.terminal_bus.proofs.exchange.heard_from.Given as goal

-- the words of the places so far
abbrev pub invariant-loop-place : goal.invariant-loop-place
invariant-loop-place g l = option_to_list l.heard ≡ heard_of l.bus (keep (sends_at l.bus) (take l.place-index l.places))

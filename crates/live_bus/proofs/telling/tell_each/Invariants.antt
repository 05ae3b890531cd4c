use Rattle.std.proofs.Common.{◌≡◌, ◌≤◌, ◌++◌, List, drop, flat_map, length}
use Rattle.terminal_bus.specs.declared.event.BusEvent.{BusEvent}
use Rattle.terminal_bus.specs.Members.{Member, bus_after}
use Rattle.terminal_bus.specs.AtMembers.{AnswersAt}
use Rattle.live_bus.specs.BusNumbers.{member_told, told_in}
use Rattle.live_bus.specs.LiveBus.{IsAtMembers}
use Rattle.live_bus.proofs.telling.tell_each.Given as goal

abbrev pub invariant-loop-place : goal.invariant-loop-place
invariant-loop-place l = (l.count ≤ l.place) × (length l.answers ≡ 31) × ((members : List Member) (x : BusEvent) → IsAtMembers (bus_after members x) l.bus → AnswersAt members x l.bus
    → told_in l.count l.answers ++ flat_map (member_told members x) (drop l.place members) ≡ flat_map (member_told members x) members)
